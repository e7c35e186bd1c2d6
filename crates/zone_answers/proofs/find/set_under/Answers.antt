use Rattle.std.proofs.Common.{sym, ap, ◌∙◌, Some, None}
use Rattle.std.specs.Option.{option_copied}
use Rattle.hickory_base.proofs.lemmas.zone_store.SharedSets.{lookup-is}
use Rattle.hickory_base.specs.zone_store.ZoneSets.{is_key}
use Rattle.zone_answers.proofs.find.set_under.Goals as goal

pub returns-in-Some : goal.returns-in-Some
returns-in-Some c =
    ap Some (c.records.ensures.value ∙ c.deref.ensures)
    ∙ lookup-is (is_key c.args.key.now.name c.args.key.now.record_type) c.args.sets.now.entries (Some c.in-Some.set.now) (ap option_copied (sym c.in-Some.is) ∙ c.get.ensures.value)

pub returns-in-None : goal.returns-in-None
returns-in-None c = lookup-is (is_key c.args.key.now.name c.args.key.now.record_type) c.args.sets.now.entries None (ap option_copied (sym c.in-None.is) ∙ c.get.ensures.value)
