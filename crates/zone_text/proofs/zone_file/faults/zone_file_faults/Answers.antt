use Rattle.std.proofs.Common.{◌≡◌, ◌∙◌, ◌+◌, ℕ, List, [], ◌∷◌, None, All, length, length-append, sym, ap, subst, arith}
use Rattle.wire_messages.specs.declared.rr.rdata.RData.{RData}
use Rattle.wire_messages.specs.declared.rr.record.Record.{Record}
use Rattle.wire_names.specs.rr.domain.DomainName.{DomainName}
use Rattle.zone_text.specs.declared.error.ZoneFileError.{ZoneFileError}
use Rattle.zone_text.specs.declared.zone_file.entry.Before.{Before}
use Rattle.zone_text.specs.ZoneFaults.{AreTaken}
use Rattle.zone_text.specs.ZoneFaults.AreTaken.{none, entry, refused}
use Rattle.zone_text.specs.ZoneFiles.{IsZoneRecord, first_entry}
use Rattle.zone_text.proofs.FirstFaults.{entry_within}
use Rattle.zone_text.proofs.Kept.{kept_after}
use Rattle.zone_text.proofs.MoreFaults.{first, told_of}
use Rattle.zone_text.proofs.zone_file.faults.zone_file_faults.Goals as goal

begun : (text : List ℕ) (origin o : DomainName) (records : List (Record RData)) (faults : List ZoneFileError) (place : ℕ) → place ≡ first_entry text → o ≡ origin → records ≡ [] → faults ≡ [] → AreTaken origin text place (record { origin = o; default_ttl = None; owned = 0; records = records }) faults
begun text origin o records faults place e f g h = rw (e, f, g, h) none

pub entries-init : goal.entries-init
entries-init c = record {
  taken = begun c.args.text.now c.args.origin.now c.in_ok-clone.field-0 c.new.result c.new-faults.result.items c.first_entry-place.result c.first_entry-place.ensures.mark c.in_ok-clone.ensures.cases c.new.ensures c.new-faults.ensures.items;
  records = subst (All IsZoneRecord) (sym c.new.ensures) (λ k d below. absurd (omega arith));
  most = omega (arith, ap length c.new-faults.ensures.items);
}

pub entries-preserved-in-Ok : goal.entries-preserved-in-Ok
entries-preserved-in-Ok c = record {
  taken = subst (λ (b : Before). AreTaken c.args.origin.now c.args.text.now (c.in-Ok.end + 1) b c.entries.faults.items) (sym c.in_ok-take-in-Ok.ensures) (entry c.entries.invariant.taken c.entries-test.true c.in-Ok.ensures.entry);
  records = subst (λ (b : Before). All IsZoneRecord b.records) (sym c.in_ok-take-in-Ok.ensures) (kept_after c.entries.before _ c.in-Ok.ensures.entry.words c.in-Ok.entry c.entries.invariant.records c.in-Ok.ensures.entry.is);
  most = c.entries.invariant.most;
}

pub told_in_file-requires : goal.told_in_file-requires
told_in_file-requires c = entry_within c.args.text.now c.entries.place c.entries.before c.in-Err.e c.in-Err.ensures.fault

pub entries-preserved : goal.entries-preserved
entries-preserved c =
    let what : ZoneFileError = c.in_ok-told_in_file-in-Err.field-0 in
    let longer : length c.push.new.self.items ≡ length c.entries.faults.items + 1 = ap length c.in_ok-push-in-Err.ensures.items ∙ length-append c.entries.faults.items (what ∷ []) in
    record {
      taken = subst (AreTaken c.args.origin.now c.args.text.now c.in_ok-place-in-Err.place c.entries.before) (sym c.in_ok-push-in-Err.ensures.items)
          (refused c.entries.invariant.taken c.entries-test.true (told_of c.args.text.now c.entries.place c.entries.before c.in-Err.e what c.in_ok-told_in_file-in-Err.ensures.0 c.in-Err.ensures.fault c.in_ok-told_in_file-in-Err.ensures.1) c.in_ok-place-in-Err.ensures.behind);
      records = c.entries.invariant.records;
      most = omega (arith, longer, c.if-len-lt-MOST_FAULTS.true, c.len.ensures);
    }

pub returns-clause-first : goal.returns-clause-first
returns-clause-first c = first c.args.origin.now c.args.text.now c.entries.place c.entries.before c.entries.faults.items c.entries.invariant.taken
