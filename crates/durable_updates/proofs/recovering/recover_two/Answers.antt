-- The second file is the one that is refused.
use Rattle.std.proofs.Common.{◌⊎◌, inr, IsTrue}
use Rattle.std.proofs.lemmas.Result.{err_from_is_err_and}
use Rattle.journal.specs.Errors.{is_refusal}
use Rattle.durable_updates.specs.Recorded.{IsRefused}
use Rattle.durable_updates.proofs.recovering.recover_two.Goals as goal

pub returns-in_err-other-clause-refused : goal.returns-in_err-other-clause-refused
returns-in_err-other-clause-refused g c =
    let p = err_from_is_err_and c.from_residual-in_err-other.result c.from_residual-in_err-other.ensures.1 in
    let told : IsTrue (is_refusal c.in_err-other.field-0.0) → IsRefused g.D.Disk c.args.first.now c.recover.new.disk ⊎ IsRefused g.D.Disk c.args.second.now c.recover-2.new.disk =
    λ no. inr (record { none = c.in_err-other.ensures.refused no; left_alone = c.in_err-other.ensures.unwritten no }) in
    rw (p.1, p.2) told
