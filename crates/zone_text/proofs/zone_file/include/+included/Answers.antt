use Rattle.std.proofs.Common.{◌≡◌, ◌+◌, ℕ, List, All, sym, ap, subst, arith}
use Rattle.std.proofs.lemmas.Result.{err_from_is_err_and}
use Rattle.zone_text.specs.declared.zone_file.entry.Before.{Before}
use Rattle.wire_names.specs.rr.domain.DomainName.{DomainName}
use Rattle.zone_text.specs.Included.{AreIncluded}
use Rattle.zone_text.specs.Included.AreIncluded.{none, more}
use Rattle.zone_text.specs.Included.IsFaultWithFiles.{memory}
use Rattle.zone_text.specs.ZoneFiles.{IsZoneRecord}
use Rattle.zone_text.proofs.Including.{file_taken, of_entry, of_inside, of_no_level, of_refused_file}
use Rattle.zone_text.proofs.Kept.{kept_after}
use Rattle.zone_text.proofs.zone_file.include.+included.Goals as goal

pub take_file-returns-in_default-clause-fault : goal.take_file-returns-in_default-clause-fault
take_file-returns-in_default-clause-fault g n c = λ start front. of_no_level (g.O.FileOpener.opens c.args.files.now) (g.O.FileOpener.refuses c.args.files.now) c.args.name.now c.args.text.now c.args.place c.requires.within c.args.before.now start
    c.told_at.result.file c.told_at.result.error c.args.levels c.args.found.at c.args.found.end c.args.found.file.items c.args.found.origin c.in_default.ensures c.told_at.ensures c.requires.included c.requires.on c.requires.in_entry front

pub take_file-returns-in-Err : goal.take_file-returns-in-Err
take_file-returns-in-Err g n c = record {
  on = tt;
  records = tt;
  taken = tt;
  fault = λ start front. of_refused_file (g.O.FileOpener.opens c.args.files.now) (g.O.FileOpener.refuses c.args.files.now) c.args.name.now c.args.text.now c.args.place c.requires.within c.args.before.now start
      c.refused_at.result.file c.refused_at.result.error c.args.levels c.in-Some.left c.args.found.at c.args.found.end c.args.found.file.items c.args.found.origin c.in-Err.why (omega (arith, c.in-Some.ensures)) c.refused_at.ensures c.requires.included
      (λ other. subst (λ (f : List ℕ). g.O.FileOpener.refuses c.args.files.now f c.in-Err.why) c.as_slice.ensures.value (c.in-Err.ensures.refused other)) c.requires.on c.requires.in_entry front;
}

pub take_file-returns-in_err-read_text-clause-fault : goal.take_file-returns-in_err-read_text-clause-fault
take_file-returns-in_err-read_text-clause-fault g n c =
    let p = err_from_is_err_and c.from_residual.result c.from_residual.ensures.1 in
    let moved : record c.args.before.now { origin = c.replace-outer.new.dest } ≡ record c.args.before.now { origin = c.args.found.origin } = ap (λ (o : DomainName). record c.args.before.now { origin = o }) c.replace-outer.ensures.after in
    rw (p.1, p.2) (λ start front. of_inside (g.O.FileOpener.opens c.args.files.now) (g.O.FileOpener.refuses c.args.files.now) c.args.name.now c.args.text.now c.args.place c.requires.within c.args.before.now start
    c.in_err-read_text.field-0.0.file c.in_err-read_text.field-0.0.error c.args.levels c.in-Some.left c.args.found.end c.args.found.file.items c.in-Ok.content.items c.args.found.origin _ (omega (arith, c.in-Some.ensures)) c.requires.included
    (subst (λ (f : List ℕ). g.O.FileOpener.opens c.args.files.now f c.in-Ok.content.items) c.as_slice.ensures.value c.in-Ok.ensures.opened) moved
    (rw (c.as_slice-2.ensures.value, c.as_slice-3.ensures.value) at c.in_err-read_text.ensures.fault) front)

pub take_file-returns-clause-taken : goal.take_file-returns-clause-taken
take_file-returns-clause-taken g n c = λ first start front.
    let moved : record c.args.before.now { origin = c.replace-outer.new.dest } ≡ record c.args.before.now { origin = c.args.found.origin } = ap (λ (o : DomainName). record c.args.before.now { origin = o }) c.replace-outer.ensures.after in
    let inner = c.in_ok-read_text.ensures.taken in
    file_taken (g.O.FileOpener.opens c.args.files.now) c.args.text.now c.args.levels c.in-Some.left c.args.place c.args.found.end inner.0 first c.args.before.now start (record c.args.before.now { origin = c.replace-outer.new.dest }) c.read_text.new.before
    c.args.found.file.items c.in-Ok.content.items c.args.found.origin c.replace-outer.result c.requires.within (omega (arith, c.in-Some.ensures)) c.requires.included
    (subst (λ (f : List ℕ). g.O.FileOpener.opens c.args.files.now f c.in-Ok.content.items) c.as_slice.ensures.value c.in-Ok.ensures.opened) moved
    (rw c.as_slice-3.ensures.value at inner.1) (rw c.as_slice-3.ensures.value at inner.2) c.replace-outer.ensures.value front

pub take_next-returns-in-Ok-take-clause-records : goal.take_next-returns-in-Ok-take-clause-records
take_next-returns-in-Ok-take-clause-records g n c = subst (λ (b : Before). All IsZoneRecord b.records) (sym c.in-Ok-take.ensures) (kept_after c.args.before.now _ c.in-Ok.ensures.entry.words c.in-Ok.entry c.requires.records c.in-Ok.ensures.entry.is)

pub take_next-returns-in-Ok-take-clause-taken : goal.take_next-returns-in-Ok-take-clause-taken
take_next-returns-in-Ok-take-clause-taken g n c = λ first start front.
    subst (λ (b : Before). AreIncluded (g.O.FileOpener.opens c.args.files.now) c.args.levels c.args.text.now first start (c.in-Ok.end + 1) b) (sym c.in-Ok-take.ensures) (more front c.requires.within c.in-Ok.ensures.entry)

pub take_next-returns-in-Err-take-clause-fault : goal.take_next-returns-in-Err-take-clause-fault
take_next-returns-in-Err-take-clause-fault g n c = λ start front. rw c.no_memory.ensures memory

pub take_next-returns-in-Err-include_at-clause-fault : goal.take_next-returns-in-Err-include_at-clause-fault
take_next-returns-in-Err-include_at-clause-fault g n c = λ start front. of_entry (g.O.FileOpener.opens c.args.files.now) (g.O.FileOpener.refuses c.args.files.now) c.args.name.now c.args.text.now c.args.place c.requires.within c.args.before.now start
    c.told_in.result.file c.told_in.result.error c.args.levels c.in-Err-include_at.e c.told_in.ensures c.in-Err-include_at.ensures.fault c.in-Err-include_at.ensures.none front

pub read_text-entries-init : goal.read_text-entries-init
read_text-entries-init g n c = record {
  front = rw c.first_entry-place.ensures.mark none;
  records = c.requires;
}
