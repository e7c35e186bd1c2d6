use Rattle.std.proofs.Common.{◌≡◌, sym, ap, subst, IfSome, Some}
use Rattle.std.specs.List.Sorted.{IsStrictlySortedBy}
use Rattle.std.specs.Map.{lookup}
use Rattle.hickory_base.specs.zone_store.ZoneSets.{is_key, sets_of}
use Rattle.wire_messages.specs.rr.RrKeys.{key_cmp}
use Rattle.wire_messages.specs.declared.rr.rr_key.RrKey.{RrKey}
use Rattle.hickory_base.proofs.lemmas.zone_store.ZoneByName.{keys-shared}
use Rattle.hickory_base.proofs.zone_store.in_memory.InMemoryZoneHandler.new.Goals as goal

pub invariant_of-result : goal.invariant_of-result
invariant_of-result c =
    let soa : _ = ap (λ (k : RrKey). k.record_type) c.new-apex.ensures in (
      soa,
      c.requires,
      subst (IsStrictlySortedBy key_cmp) (sym (keys-shared c.args.records.entries)) c.len.ensures.ordered,
      subst (λ t. IfSome c.share_under-soa.result (λ set. lookup (is_key c.new-apex.result.name t) (sets_of c.args.records) ≡ Some set.value)) soa c.share_under-soa.ensures,
    )
