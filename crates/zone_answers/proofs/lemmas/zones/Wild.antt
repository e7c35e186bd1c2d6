-- Whether a wildcard stands for a name.
use Rattle.std.proofs.Common.{◌≡◌, ℕ, true, List, [], ◌∷◌, ◌++◌, inl, inr, Option, Some, None, sym, ap, subst, ◌∙◌, append_assoc}
use Rattle.std.specs.Prelude.{◌⊎◌, IsSome}
use Rattle.std.specs.BTreeMap.Range.{IsRangeOf, entries_between}
use Rattle.std.specs.declared.ops.Bound.TheVariants.{Included, Unbounded}
use Rattle.std.proofs.lemmas.Bool.{false≢true}
use Rattle.wire_names.specs.rr.domain.DomainName.{DomainName}
use Rattle.wire_names.specs.rr.domain.NameOrder.{lower_label, lower_labels}
use Rattle.wire_messages.specs.rr.RrKeys.{key_cmp}
use Rattle.wire_messages.specs.declared.rr.rr_key.RrKey.{RrKey}
use Rattle.hickory_base.specs.zone_store.ZoneSets.{sets_of}
use Rattle.zone_answers.proofs.lemmas.zones.Beside.{by_behind}
use Rattle.zone_answers.proofs.lemmas.zones.Owners.{Entry, above_same, exists_behind}
use Rattle.zone_answers.specs.declared.find.Found.{Found}
use Rattle.zone_answers.specs.representation.FoundRecords.{IsAbove, WildFound, outcome_of}
use Rattle.zone_answers.specs.representation.KeysBeside.{IsFirst, SharedMap, StandsBehind}
use Rattle.zone_answers.specs.Zones.{AreOwners, Exists, Sets, at_node, by_wildcard, wildcard}

module _ (sets : SharedMap) (encloser : DomainName) (t : ℕ) (first : RrKey) (behind : Option RrKey) (is : first.name ≡ wildcard encloser) (least : first.record_type ≡ 0) (qualified : encloser.is_fqdn ≡ true) (b : StandsBehind sets first behind) where
  marked : first.name.is_fqdn ≡ true
  marked = ap (λ (d : DomainName). d.is_fqdn) is ∙ qualified

  pub stands : (found : Found) → IsAbove first.name behind → ((name : DomainName) → outcome_of (sets_of sets) name found ≡ by_wildcard (at_node (sets_of sets) first.name t))
      → (origin : DomainName) → AreOwners origin (sets_of sets) → WildFound (sets_of sets) encloser t (Some found)
  stands found above says origin owners = (
    subst (Exists (sets_of sets)) is ((exists_behind sets first behind origin least marked owners b).1 above),
    λ name. says name ∙ ap (λ (n : DomainName). by_wildcard (at_node (sets_of sets) n t)) is,
  )

  pub none_stands : ¬ (IsAbove first.name behind) → (origin : DomainName) → AreOwners origin (sets_of sets) → WildFound (sets_of sets) encloser t None
  none_stands apart origin owners = λ x. apart ((exists_behind sets first behind origin least marked owners b).0 (subst (Exists (sets_of sets)) (sym is) x))

-- a name exists where the wildcard right below it does
pub below_it : (sets : Sets) (name : DomainName) → Exists sets (wildcard name) → Exists sets name
below_it sets name x = record {
  owner = x.owner;
  held = x.held;
  at_or_below = record {
    front = x.at_or_below.front ++ (lower_label (42 ∷ []) ∷ []);
    ends = x.at_or_below.ends ∙ sym (append_assoc x.at_or_below.front (lower_label (42 ∷ []) ∷ []) (lower_labels name.labels));
  };
}

-- a name that the key behind another is at or below exists
above_from : (sets : SharedMap) (first : RrKey) (key : Option RrKey) (origin n : DomainName) → first.record_type ≡ 0 → first.name.is_fqdn ≡ true → AreOwners origin (sets_of sets)
    → (range : List Entry) → range ≡ entries_between key_cmp (Included first) Unbounded sets.entries → IsRangeOf key_cmp (Included first) Unbounded sets range → IsFirst range key → IsAbove n key → Exists (sets_of sets) n
above_from sets first None origin n least qualified owners range whole of met a = absurd a
above_from sets first (Some key) origin n least qualified owners range whole of met a = by_behind sets first least qualified origin owners range whole of n (key, met.0) met.1 met.2 a

above_behind : (sets : SharedMap) (first : RrKey) (key : Option RrKey) (origin n : DomainName) → first.record_type ≡ 0 → first.name.is_fqdn ≡ true → AreOwners origin (sets_of sets) → StandsBehind sets first key → IsAbove n key → Exists (sets_of sets) n
above_behind sets first key origin n least qualified owners b a = above_from sets first b.own origin n least qualified owners b.range b.whole b.of b.least (above_same n key b.own b.same a)

-- a name exists that a wildcard or the key behind another tells of
pub told : (sets : SharedMap) (first : RrKey) (key : Option RrKey) (origin n : DomainName) (t : ℕ) (wild : Option Found) → first.record_type ≡ 0 → first.name.is_fqdn ≡ true → AreOwners origin (sets_of sets) → StandsBehind sets first key
    → WildFound (sets_of sets) n t wild → IsSome wild ⊎ IsAbove n key → Exists (sets_of sets) n
told sets first key origin n t None least qualified owners b w (inl some) = absurd (false≢true some)
told sets first key origin n t (Some found) least qualified owners b w (inl some) = below_it (sets_of sets) n w.0
told sets first key origin n t wild least qualified owners b w (inr a) = above_behind sets first key origin n least qualified owners b a
