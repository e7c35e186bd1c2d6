use Rattle.toml.specs.View.{table_view}
use Rattle.server_settings.proofs.lemmas.Refused.{settings_stand}
use Rattle.std.specs.Prelude.{IfNone, Option, None, Some}
use Rattle.server_settings.specs.declared.reading.Refusal.{Refusal}
use Rattle.server_settings.specs.Settings.{IsRefused, IsDocument, AreKnown, Pair, settings_of}
use Rattle.std.specs.Prelude.{◌≡◌, List, ℕ, String}
use Rattle.std.specs.declared.alloc.Global.{Global}
use Rattle.toml.specs.Data.{Members}
use Rattle.server_settings.proofs.reading.text_refusal.Goals as goal

none_told : (options : List (String Global)) (text : List ℕ) (ms : Members) (told : Option Refusal) → IsDocument text ms
    → IfNone told ((settings : List Pair) × AreKnown options ms × (settings_of ms ≡ Some settings)) → IfNone told (¬ (IsRefused options text))
none_told options text ms None document (settings, known, given) = settings_stand options text ms settings document known given
none_told options text ms (Some refusal) document given = tt

pub returns-in-Ok-clause-none : goal.returns-in-Ok-clause-none
returns-in-Ok-clause-none c =
    none_told c.args.options.now c.args.text.now (table_view c.in-Ok.table) c.table_refusal-refusal.result c.in-Ok.ensures.ok c.table_refusal-refusal.ensures.none
