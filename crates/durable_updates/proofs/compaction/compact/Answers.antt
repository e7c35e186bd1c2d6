-- The spare file is replaced, or not.
use Rattle.std.proofs.Common.{◌≡◌, ◌<◌, ◌+◌, ◌^◌, ◌∙◌, List, Vec, ℕ, true, ap, arith, rules}
use Rattle.std.proofs.lemmas.Grind.{common_steps}
use Rattle.std.specs.declared.alloc.Global.{Global}
use Rattle.journal.specs.Read.{contents}
use Rattle.durable_updates.specs.Compactions.{undone}
use Rattle.durable_updates.specs.declared.compaction.CompactError.TheVariants as compact_error
use Rattle.durable_updates.proofs.Compactions.{is_done, is_failed}
use Rattle.durable_updates.proofs.compaction.compact.Goals as goal

pub returns-then-not-is_open : goal.returns-then-not-is_open
returns-then-not-is_open g c = undone

pub returns-then-not-is_open-2 : goal.returns-then-not-is_open-2
returns-then-not-is_open-2 g c = undone

pub returns-then-generation-eq18446744073709551615 : goal.returns-then-generation-eq18446744073709551615
returns-then-generation-eq18446744073709551615 g c = undone

pub returns-in-Err : goal.returns-in-Err
returns-in-Err g c = undone

pub returns-in-Ok-replace : goal.returns-in-Ok-replace
returns-in-Ok-replace g c =
    let s = c.in-Ok.ensures in
    let takes : c.args.journal.now.is_open ≡ true = search rules in
    let small : c.args.generation + 1 < 2 ^ 64 = grind (arith, common_steps) in
    is_done g.D.Disk c.args.zone.now.zone c.args.generation s.0 (contents c.deref.result.now) c.args.journal.now c.args.spare.now c.replace.new.self c.swap.new.x
    (ap (λ (vs : List (Vec ℕ Global)). contents vs) c.deref.ensures.value ∙ s.1) s.2 (c.in-Ok-replace.ensures.opened).0 c.replace.ensures.clean c.replace.ensures.crash takes small
    c.swap.new.y c.swap.ensures.x_after c.swap.ensures.y_after (c.in-Ok-replace.ensures.opened).1 c.in-Ok-replace.ensures.replaced

pub returns : goal.returns
returns g c =
    let s = c.in-Ok.ensures in
    let was_open : c.args.spare.now.is_open ≡ true = search rules in
    let takes : c.args.journal.now.is_open ≡ true = search rules in
    let small : c.args.generation + 1 < 2 ^ 64 = grind (arith, common_steps) in
    is_failed g.D.Disk c.args.zone.now.zone c.args.generation s.0 (contents c.deref.result.now) c.args.journal.now c.args.spare.now c.replace.new.self c.shut_with.new.journal
    (ap (λ (vs : List (Vec ℕ Global)). contents vs) c.deref.ensures.value ∙ s.1) s.2 was_open c.replace.ensures.clean c.replace.ensures.crash takes small
    (compact_error.Journal c.in-Err-replace.e) c.in-Err-replace.ensures.kept c.shut_with.ensures
