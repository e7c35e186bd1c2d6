use Rattle.std.proofs.Common.{◌≡◌, sym, subst, IfSome, Some}
use Rattle.std.specs.List.Sorted.{IsStrictlySortedBy}
use Rattle.std.specs.Map.{lookup}
use Rattle.hickory_base.specs.zone_store.ZoneSets.{is_key, sets_of}
use Rattle.wire_messages.specs.rr.RrKeys.{key_cmp}
use Rattle.hickory_base.proofs.lemmas.zone_store.ZoneByName.{keys-shared}
use Rattle.hickory_base.proofs.zone_store.in_memory.InMemoryZoneHandler.replace_records.Goals as goal

pub invariant_of-self : goal.invariant_of-self
invariant_of-self c = (
  c.self.invariant.0,
  c.requires,
  subst (IsStrictlySortedBy key_cmp) (sym (keys-shared c.args.records.entries)) c.len.ensures.ordered,
  subst (λ t. IfSome c.share_under.result (λ set. lookup (is_key c.self.inside.apex.name t) (sets_of c.args.records) ≡ Some set.value)) c.self.invariant.0 c.share_under.ensures,
)
