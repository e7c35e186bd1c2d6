-- A journal and its spare file.
use Rattle.std.proofs.Common.{IfSome, Result, arith, refl, subst, sym}
use Rattle.std.proofs.lemmas.Grind.{common_steps}
use Rattle.durable_updates.specs.Compactions.{Files}
use Rattle.durable_updates.specs.Recorded.{IsNext}
use Rattle.durable_updates.specs.declared.compaction.CompactError.{CompactError}
use Rattle.durable_updates.proofs.Below.{Follows, below_after}
use Rattle.durable_updates.proofs.Compactions.{done_open, stays_shut, still_durable}
use Rattle.durable_updates.proofs.compaction.compact_into.Goals as goal

pub returns-in_err-compact-clause-shut : goal.returns-in_err-compact-clause-shut
returns-in_err-compact-clause-shut g c = stays_shut g.D.Disk c.args.zone.now.zone c.in-Some.spare.generation (record { journal = c.args.journal.now; spare = c.in-Some.spare.journal }) c.compact.result (record { journal = c.compact.new.journal; spare = c.compact.new.spare }) c.compact.ensures

pub returns-clause-ok : goal.returns-clause-ok
returns-clause-ok g c =
    let both = done_open g.D.Disk c.args.zone.now.zone c.in-Some.spare.generation (record { journal = c.args.journal.now; spare = c.in-Some.spare.journal }) c.compact.result (record { journal = c.compact.new.journal; spare = c.compact.new.spare }) c.compact.ensures in
    rw c.in_ok-compact.was at both

pub returns-clause-shut : goal.returns-clause-shut
returns-clause-shut g c = stays_shut g.D.Disk c.args.zone.now.zone c.in-Some.spare.generation (record { journal = c.args.journal.now; spare = c.in-Some.spare.journal }) c.compact.result (record { journal = c.compact.new.journal; spare = c.compact.new.spare }) c.compact.ensures

pub returns-in_err-compact-clause-kept : goal.returns-in_err-compact-clause-kept
returns-in_err-compact-clause-kept g c = λ durable spare.
    let old : Files g.row.D.Denot = record { journal = c.args.journal.now; spare = c.in-Some.spare.journal } in
    let new : Files g.row.D.Denot = record { journal = c.compact.new.journal; spare = c.compact.new.spare } in
    let next = subst (λ o. IfSome o (λ s. IsNext g.D.Disk c.args.journal.now s.journal s.generation)) c.in-Some.is spare in
    let still = still_durable g.D.Disk c.args.zone.now.zone c.in-Some.spare.generation old c.compact.result new c.compact.ensures durable next.is_spare in (
      still.0,
      record {
        is_spare = still.1;
        below = below_after g.D.Disk c.args.zone.now.zone c.in-Some.spare.generation c.in-Some.spare.generation old c.compact.result new c.compact.ensures
            (subst (λ (r : Result (Unit {0}) CompactError). Follows g.D.Disk r c.in-Some.spare.generation c.in-Some.spare.generation) (sym c.in_err-compact.was) refl) next.is_spare next.below;
      },
    )

pub returns-clause-kept : goal.returns-clause-kept
returns-clause-kept g c = λ durable spare.
    let old : Files g.row.D.Denot = record { journal = c.args.journal.now; spare = c.in-Some.spare.journal } in
    let new : Files g.row.D.Denot = record { journal = c.compact.new.journal; spare = c.compact.new.spare } in
    let next = subst (λ o. IfSome o (λ s. IsNext g.D.Disk c.args.journal.now s.journal s.generation)) c.in-Some.is spare in
    let still = still_durable g.D.Disk c.args.zone.now.zone c.in-Some.spare.generation old c.compact.result new c.compact.ensures durable next.is_spare in (
      still.0,
      record {
        is_spare = still.1;
        below = below_after g.D.Disk c.args.zone.now.zone c.in-Some.spare.generation c.saturating_add-spare.result old c.compact.result new c.compact.ensures
            (subst (λ (r : Result (Unit {0}) CompactError). Follows g.D.Disk r c.in-Some.spare.generation c.saturating_add-spare.result) (sym c.in_ok-compact.was) (λ small. grind (arith, common_steps))) next.is_spare next.below;
      },
    )
