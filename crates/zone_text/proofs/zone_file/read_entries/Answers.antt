use Rattle.std.proofs.Common.{◌≡◌, ◌+◌, ◌<◌, ℕ, List, [], None, All, length, sym, subst, arith}
use Rattle.wire_messages.specs.declared.rr.rdata.RData.{RData}
use Rattle.wire_messages.specs.declared.rr.record.Record.{Record}
use Rattle.wire_names.specs.rr.domain.DomainName.{DomainName}
use Rattle.zone_text.specs.declared.zone_file.entry.Before.{Before}
use Rattle.zone_text.specs.declared.zone_file.entry.Entry.{Entry}
use Rattle.zone_text.specs.ZoneFiles.{IsEntryFrom, IsFront, IsZoneRecord, after, first_entry}
use Rattle.zone_text.specs.ZoneFiles.AreEntries.{none, more}
use Rattle.std.proofs.lemmas.Result.{err_from_is_err_and}
use Rattle.zone_text.specs.ZoneFaults.IsFileFault.{memory, entry}
use Rattle.zone_text.proofs.Kept.{kept_after}
use Rattle.zone_text.proofs.zone_file.read_entries.Goals as goal

no_entries : (text : List ℕ) (origin o : DomainName) (records : List (Record RData)) (place : ℕ) → place ≡ first_entry text → o ≡ origin → records ≡ [] → IsFront origin text place (record { origin = o; default_ttl = None; owned = 0; records = records })
no_entries text origin o records place e f g = rw (e, f, g) none

one_more : (origin : DomainName) (text : List ℕ) (place end : ℕ) (before next : Before) (e : Entry) → IsFront origin text place before → place < length text → IsEntryFrom text place before e end → next ≡ after before e → IsFront origin text (end + 1) next
one_more origin text place end before next e front within is left = rw left (more front within is)

pub entries-init : goal.entries-init
entries-init c = record {
  front = no_entries c.args.text.now c.args.origin.now c.in_ok-clone.field-0 c.new.result c.first_entry-place.result c.first_entry-place.ensures.mark c.in_ok-clone.ensures.cases c.new.ensures;
  records = subst (All IsZoneRecord) (sym c.new.ensures) (λ k d below. absurd (omega arith));
}

pub entries-preserved : goal.entries-preserved
entries-preserved c =
    let kept : All IsZoneRecord (after c.entries.before c.in_ok-entry.entry).records = kept_after c.entries.before _ c.in_ok-entry.ensures.entry.words c.in_ok-entry.entry c.entries.invariant.records c.in_ok-entry.ensures.entry.is in
    record {
      front = one_more c.args.origin.now c.args.text.now c.entries.place c.in_ok-entry.end c.entries.before c.take.new.self c.in_ok-entry.entry c.entries.invariant.front c.entries-test.true c.in_ok-entry.ensures.entry c.in_ok-take.ensures;
      records = subst (λ (b : Before). All IsZoneRecord b.records) (sym c.in_ok-take.ensures) kept;
    }

pub returns-in_err-clone-clause-fault : goal.returns-in_err-clone-clause-fault
returns-in_err-clone-clause-fault c =
    let p = err_from_is_err_and c.from_residual.result c.from_residual.ensures.1 in
    rw (p.1, p.2) memory

pub returns-in_err-entry-clause-fault : goal.returns-in_err-entry-clause-fault
returns-in_err-entry-clause-fault c =
    let p = err_from_is_err_and c.from_residual-in_err-entry.result c.from_residual-in_err-entry.ensures.1 in
    rw (p.1, p.2) (entry c.entries.invariant.front c.entries-test.true c.in_err-entry.ensures.fault)

pub returns-in_err-take-clause-fault : goal.returns-in_err-take-clause-fault
returns-in_err-take-clause-fault c =
    let p = err_from_is_err_and c.from_residual-in_err-take.result c.from_residual-in_err-take.ensures.1 in
    rw (p.1, p.2) memory
