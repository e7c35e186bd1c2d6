-- What is committed holds the records, so it is a zone, and the records' own.
use Rattle.std.proofs.Common.{◌∙◌, ap, sym, subst, List}
use Rattle.std.specs.List.Sorted.{IsStrictlySortedBy}
use Rattle.wire_messages.specs.declared.rr.rdata.RData.{RData}
use Rattle.wire_messages.specs.declared.rr.record.Record.{Record}
use Rattle.hickory_base.specs.zone_store.ZoneAnswers.{MemoryZone}
use Rattle.hickory_base.specs.zone_store.ZoneSets.{sets_of, zone_records}
use Rattle.wire_messages.specs.rr.RrKeys.{key_cmp}
use Rattle.hickory_base.proofs.lemmas.zone_store.ZoneByName.{keys-shared}
use Rattle.hickory_store.specs.updates.Identity.{SameRrsets, ttl_at}
use Rattle.hickory_store.specs.representation.SetChanges.{Makes, at, put_all, put_sets, take_all}
use Rattle.hickory_store.specs.representation.ZoneSets.{HoldsSets}
use Rattle.hickory_store.proofs.lemmas.updates.SetChanges.{committed}
use Rattle.hickory_store.proofs.lemmas.file.SetsOfRecords.{rrsets_of, same_of, zone_of}
use Rattle.hickory_store.proofs.updates.changed_sets.commit_changes.Goals as goal

pub replace_records-requires : goal.replace_records-requires
replace_records-requires c =
    let puts = c.args.changes.puts.items in
    let old = c.take_records-sets.result in
    let new = c.commit.new.sets in
    let records = c.requires.makes.0 in
    let holds : HoldsSets records (sets_of new) =
    committed puts c.args.changes.gone.items old new c.args.zone.now.sets records c.requires.ordered c.take_records-sets.ensures.sets
    (λ k. c.in-Ok.ensures.done k ∙ ap (λ keys. take_all keys (put_all puts (at old)) k) c.deref.ensures.value) c.requires.makes.3 in
    zone_of records c.requires.makes.1 c.requires.makes.2 (sets_of new) (subst (IsStrictlySortedBy key_cmp) (sym (keys-shared new.entries)) c.len.ensures.ordered) holds

pub returns-in-Ok-clause-done : goal.returns-in-Ok-clause-done
returns-in-Ok-clause-done c records makes q =
    let puts = c.args.changes.puts.items in
    let old = c.take_records-sets.result in
    let new = c.commit.new.sets in
    let sorted = subst (IsStrictlySortedBy key_cmp) (sym (keys-shared new.entries)) c.len.ensures.ordered in
    let holds : (rs : List (Record RData)) → Makes (put_sets puts) c.args.changes.gone.items c.args.zone.now.sets rs → HoldsSets rs (sets_of new) = λ rs m.
    committed puts c.args.changes.gone.items old new c.args.zone.now.sets rs c.requires.ordered c.take_records-sets.ensures.sets
    (λ k. c.in-Ok.ensures.done k ∙ ap (λ keys. take_all keys (put_all puts (at old)) k) c.deref.ensures.value) m in
    let zone = zone_of c.requires.makes.0 c.requires.makes.1 c.requires.makes.2 (sets_of new) sorted (holds c.requires.makes.0 c.requires.makes.3) in
    ap (λ (z : MemoryZone). ttl_at (zone_records z.sets) q) c.replace_records.ensures
    ∙ same_of c.identities.ensures.records records (sets_of new) sorted zone (holds records makes) q

pub returns-in-Ok-clause-rrsets : goal.returns-in-Ok-clause-rrsets
returns-in-Ok-clause-rrsets c records makes =
    let puts = c.args.changes.puts.items in
    let old = c.take_records-sets.result in
    let new = c.commit.new.sets in
    let sorted = subst (IsStrictlySortedBy key_cmp) (sym (keys-shared new.entries)) c.len.ensures.ordered in
    let holds : (rs : List (Record RData)) → Makes (put_sets puts) c.args.changes.gone.items c.args.zone.now.sets rs → HoldsSets rs (sets_of new) = λ rs m.
    committed puts c.args.changes.gone.items old new c.args.zone.now.sets rs c.requires.ordered c.take_records-sets.ensures.sets
    (λ k. c.in-Ok.ensures.done k ∙ ap (λ keys. take_all keys (put_all puts (at old)) k) c.deref.ensures.value) m in
    let zone = zone_of c.requires.makes.0 c.requires.makes.1 c.requires.makes.2 (sets_of new) sorted (holds c.requires.makes.0 c.requires.makes.3) in
    subst (λ (z : MemoryZone). SameRrsets (zone_records z.sets) records) (sym c.replace_records.ensures) (rrsets_of records (sets_of new) sorted zone (holds records makes))
