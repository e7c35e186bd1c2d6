-- What was written is read back, and makes the zone.
use Rattle.std.proofs.Common.{◌≡◌, ◌∙◌, ◌++◌, ◌∷◌, [], ℕ, List, Vec, ap, subst, sym}
use Rattle.std.specs.declared.alloc.Global.{Global}
use Rattle.wire_messages.specs.declared.rr.rdata.RData.{RData}
use Rattle.wire_messages.specs.declared.rr.record.Record.{Record}
use Rattle.wire_messages.specs.declared.rr.rr_key.RrKey.{RrKey}
use Rattle.hickory_base.specs.zone_store.ZoneAnswers.{MemoryZone}
use Rattle.hickory_base.specs.zone_store.ZoneSets.{sets_of, zone_records}
use Rattle.hickory_store.proofs.lemmas.updates.DataTypes.{one_type}
use Rattle.journal.specs.Read.{contents}
use Rattle.journal.proofs.Recovery.{contents_more}
use Rattle.durable_updates.specs.Snapshots.{Say}
use Rattle.durable_updates.proofs.Recalled.{snapshot_is}
use Rattle.durable_updates.proofs.snapshots.snapshot.Goals as goal

pub returns : goal.returns
returns g c =
    let es : List (Vec ℕ Global) = c.in_ok-entries.entries.items in
    let written : List (List ℕ) = contents c.in_ok-entries.entries.items in
    let whole : contents c.push.new.self.items ≡ contents c.in_ok-entries.entries.items ++ [] ∷ [] =
    ap (λ (vs : List (Vec ℕ Global)). contents vs) c.in_ok-push.ensures.items ∙ contents_more c.in_ok-entries.entries.items c.new-none.result ∙ ap (λ (l : List ℕ). contents c.in_ok-entries.entries.items ++ l ∷ []) c.new-none.ensures.items in
    let found = c.in_ok-found.ensures in
    let sets : sets_of c.records.result.now ≡ c.args.zone.now.zone.sets = c.records.ensures.sets ∙ ap (λ (z : MemoryZone). z.sets) c.in_memory.ensures in
    let say : Say (contents c.in_ok-entries.entries.items) (zone_records c.args.zone.now.zone.sets) =
    subst (λ (s : List (RrKey × List (Record RData))). Say (contents c.in_ok-entries.entries.items) (zone_records s)) sets c.in_ok-entries.ensures in (
      written,
      whole,
      snapshot_is c.identities.ensures.records (one_type c.record_comparisons.ensures.rdata) written found.0 (contents c.in_ok-found.found.requests.now) c.args.zone.now.zone (zone_records c.in_ok-zone_of.field-0.sets) c.in_ok-found.found.records.items
          say (sym whole ∙ ap (λ (vs : List (Vec ℕ Global)). contents vs) (sym c.deref.ensures.value) ∙ found.1) found.2 c.in_ok-zone_of.ensures.same c.in_ok-zone_of.ensures.soa,
    )
