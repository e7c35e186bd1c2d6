-- Nothing is to be added.
use Rattle.std.proofs.Common.{◌≡◌, ◌∙◌, ℕ, [], List, Vec, ap, sym}
use Rattle.std.specs.declared.alloc.Global.{Global}
use Rattle.journal.specs.Read.{contents}
use Rattle.durable_updates.proofs.Judging.{empty_of}
use Rattle.durable_updates.proofs.Untouched.{nothing_added}
use Rattle.durable_updates.proofs.batches.write_held.Goals as goal

pub returns-then-is_empty-clause-journals : goal.returns-then-is_empty-clause-journals
returns-then-is_empty-clause-journals g c =
    let none : contents c.args.entries.now ≡ [] = ap (λ (es : List (Vec ℕ Global)). contents es) (empty_of c.args.entries.now (sym c.is_empty.ensures ∙ c.if-is_empty.true)) in
    nothing_added g.D.Disk.seen g.D.Disk.may_leave tt (contents c.args.entries.now) c.args.journal.now none
