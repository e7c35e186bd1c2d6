use Rattle.std.proofs.Common.{◌⊎◌, subst, refl, IsSome}
use Rattle.std.specs.Prelude.{◌↔◌}
use Rattle.std.specs.BTreeMap.{get}
use Rattle.std.specs.List.{find}
use Rattle.wire_names.specs.rr.domain.DomainName.{DomainName}
use Rattle.wire_names.specs.rr.domain.NameOrder.{lower_name}
use Rattle.zone_check.specs.CheckedZones.{is_of, type_nsec3}
use Rattle.wire_messages.specs.declared.rr.rdata.RData.{RData}
use Rattle.wire_messages.specs.declared.rr.record.Record.{Record}
use Rattle.zone_check.proofs.NameHashes.{by_record_of, not_by_record_of, same_at}
use Rattle.zone_check.proofs.Walks.{refused}
use Rattle.zone_check.specs.HashedZones.{IsByRecord}
use Rattle.zone_check.specs.Indexes.{hash_cmp}
use Rattle.zone_denials.specs.Nsec3Data.{hashing_by}
use Rattle.zone_check.proofs.hashes.put_names_by.Goals as goal

pub returns-then-not-is_named : goal.returns-then-not-is_named
returns-then-not-is_named c r at q =
    let zone = c.args.zone.now in
    let by = hashing_by c.args.by.now in
    let own = c.index-records-place.result in
    subst (λ (s : Record RData). IsSome (get hash_cmp c.args.names.now q) ↔ (IsSome (get hash_cmp c.args.names.now q) ⊎ IsByRecord zone.origin.now zone.records.now by q s)) (same_at zone.records.now c.args.place own r c.requires.place c.index-records-place.is at)
    (not_by_record_of zone.origin.now by zone.records.now own c.in_ok-key.key c.in_ok-key.ensures c.args.names.now (λ named. refused c.is_named.result (c.is_named.ensures.1 named) c.if-not-is_named.true) q)

pub returns : goal.returns
returns c r at q =
    let zone = c.args.zone.now in
    let by = hashing_by c.args.by.now in
    let own = c.index-records-place.result in
    subst (λ (s : Record RData). IsSome (get hash_cmp c.put_names.new.names q) ↔ (IsSome (get hash_cmp c.args.names.now q) ⊎ IsByRecord zone.origin.now zone.records.now by q s)) (same_at zone.records.now c.args.place own r c.requires.place c.index-records-place.is at)
    (by_record_of zone.origin.now by zone.records.now own (lower_name own.name) refl c.args.names.now c.put_names.new.names (subst (λ (d : DomainName). ¬ (IsSome (find (is_of d type_nsec3) zone.records.now))) c.in_ok-key.ensures (c.is_named.ensures.0 c.if-not-is_named.false)) (rw c.in_ok-name.ensures at c.in_ok-put_names.ensures) q)
