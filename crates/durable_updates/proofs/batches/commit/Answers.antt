-- What was judged is taken back.
use Rattle.std.proofs.Common.{◌≡◌, ◌∙◌, ℕ, List, Vec, Err, ap, length, map, rules, subst}
use Rattle.std.specs.declared.alloc.Global.{Global}
use Rattle.hickory_base.specs.declared.errors.UpdateFault.{UpdateFault}
use Rattle.journal.specs.Read.{contents}
use Rattle.durable_updates.specs.Batches.{told_unwritten}
use Rattle.durable_updates.specs.DurableUpdates.{IsWriteFault, Told}
use Rattle.durable_updates.specs.Journalling.{JournalsAll, RefusesEntries}
use Rattle.durable_updates.proofs.Judging.{all_mapped, whole}
use Rattle.durable_updates.proofs.batches.commit.Goals as goal

pub returns-in-Err-clause-commits : goal.returns-in-Err-clause-commits
returns-in-Err-clause-commits g c =
    let same : c.deref.result.now ≡ c.args.batch.entries.items = c.deref.ensures.value in
    let back : c.take_back.new.answers ≡ map (told_unwritten c.in-Err.fault) c.args.batch.answers.items = c.take_back.ensures ∙ ap (λ (l : List Told). map (told_unwritten c.in-Err.fault) l) c.deref_mut.ensures.value in
    let size : c.args.batch.answers.len ≡ length c.args.batch.answers.items = search rules in
    record {
      written = Err c.in-Err.fault;
      is_told = (whole c.args.batch.answers.len c.take_back.new.answers c.args.batch.answers.items (ap length back ∙ all_mapped (told_unwritten c.in-Err.fault) c.args.batch.answers.items) size ∙ back, c.restore.ensures);
      err = subst (λ (es : List (Vec ℕ Global)). IsWriteFault (RefusesEntries c.write_held.new.journal.is_open (contents es)) c.in-Err.fault) same c.in-Err.ensures.err;
      journals = subst (λ (es : List (Vec ℕ Global)). JournalsAll g.D.Disk.seen g.D.Disk.may_leave {T = Unit {0}} {E = UpdateFault} (Err c.in-Err.fault) (contents es) c.args.journal.now c.write_held.new.journal) same c.in-Err.ensures.journals;
    }
