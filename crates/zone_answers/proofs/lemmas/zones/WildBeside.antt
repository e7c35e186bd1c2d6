-- What is answered for a name that does not exist, where one of the sets before it is of the wildcard that stands for
-- it.
use Rattle.std.proofs.Common.{◌≡◌, ℕ, Bool, false, true, cond, List, ◌∷◌, [], drop, Option, None, Some, ap, refl, sym, subst, ◌∙◌}
use Rattle.std.specs.Prelude.{is_some}
use Rattle.std.specs.Borrow.{Bor}
use Rattle.std.specs.List.{AllByRecursion}
use Rattle.std.specs.Map.{keys_of}
use Rattle.std.proofs.lemmas.List.Elements.{recursion_from_All}
use Rattle.wire_names.specs.rr.domain.DomainName.{DomainName}
use Rattle.wire_messages.specs.Numbers.{type_any, type_cname}
use Rattle.wire_messages.specs.declared.rr.rr_key.RrKey.{RrKey}
use Rattle.hickory_base.specs.zone_store.ZoneSets.{is_key}
use Rattle.zone_answers.proofs.lemmas.zones.CutsAbove.{above_encloser, undirected}
use Rattle.zone_answers.proofs.lemmas.zones.Missing.{encloser}
use Rattle.zone_answers.proofs.lemmas.zones.Outcomes.{at_one, below_encloser, is_above, owns}
use Rattle.zone_answers.proofs.lemmas.zones.TopCutsMade.{same_name}
use Rattle.zone_answers.proofs.lemmas.zones.Wild.{below_it}
use Rattle.zone_answers.specs.declared.features.Features.{Features}
use Rattle.zone_answers.specs.declared.find.Found.TheVariants as found
use Rattle.zone_answers.specs.declared.index.Before.{Before}
use Rattle.zone_answers.specs.representation.Features.{AreFeatures}
use Rattle.zone_answers.specs.representation.FoundRecords.{CutAbove, IsEncloser, IsWildAmong, WildFound, wild_or_referral}
use Rattle.zone_answers.specs.representation.Indexes.{AreStill}
use Rattle.zone_answers.specs.Zones.{AreOwners, Answers, Exists, IsOwner, Records, Sets, Zone, ancestor, by_wildcard, direct, of_sets, rrset, wildcard}

-- a name with records is written as those of owners are
qualified_step : (b : Bool) (n : DomainName) (t : ℕ) (origin : DomainName) (e : RrKey × Records) (rest : Option Records) → is_key n t e.0 ≡ b → is_some (cond b (Some e.1) rest) ≡ true → IsOwner origin e.0
    → (is_some rest ≡ true → n.is_fqdn ≡ true) → n.is_fqdn ≡ true
qualified_step true n t origin e rest is h owner more = (same_name n t e.0 is).marks ∙ owner.qualified
qualified_step false n t origin e rest is h owner more = more h

qualified_as_owners : (sets : Sets) (n : DomainName) (t : ℕ) (origin : DomainName) → AllByRecursion (IsOwner origin) (keys_of sets) → is_some (rrset sets n t) ≡ true → n.is_fqdn ≡ true
qualified_as_owners [] n t origin all h = absurd cc
qualified_as_owners (e ∷ sets) n t origin all h = qualified_step (is_key n t e.0) n t origin e (rrset sets n t) refl h all.0 (qualified_as_owners sets n t origin all.1)

module _ (zone : Zone) (name : DomainName) (t : ℕ) (before : Before) (records : Bor Records) (qualified : name.is_fqdn ≡ true) (owners : AreOwners zone.origin zone.sets)
    (still : AreStill before zone.sets) (w : IsWildAmong before name t records.now) where
  abbrev parent : DomainName
  parent = ancestor name 1

  abbrev key : RrKey
  key = w.entry.0

  still_has : rrset zone.sets key.name key.record_type ≡ Some w.entry.1.value
  still_has = still w.place w.entry w.among

  marked : key.name.is_fqdn ≡ true
  marked = qualified_as_owners zone.sets key.name key.record_type zone.origin (recursion_from_All (IsOwner zone.origin) (keys_of zone.sets) owners) (ap is_some still_has)

  named : key.name ≡ wildcard parent
  named =
      ap (λ (ls : List (List ℕ)). let d : DomainName = record { labels = ls; is_fqdn = key.name.is_fqdn } in d) w.is
      ∙ ap (λ (m : Bool). let d : DomainName = record { labels = (42 ∷ []) ∷ drop 1 name.labels; is_fqdn = m } in d) (marked ∙ sym qualified)

  own : rrset zone.sets (wildcard parent) t ≡ Some records.now
  own = subst (λ (n : DomainName). rrset zone.sets n t ≡ Some records.now) named
      (subst (λ (u : ℕ). rrset zone.sets key.name u ≡ Some records.now) w.of_type (still_has ∙ ap (λ (rs : Records). Some rs) w.records))

  exists : Exists zone.sets (wildcard parent)
  exists = owns zone.sets (wildcard parent) t (ap is_some own)

  stands : ¬ (t ≡ type_any) → WildFound zone.sets parent t (Some (found.WildAnswer records))
  stands one = (
    exists,
    λ asked. sym (ap by_wildcard (at_one zone.sets (wildcard parent) t one ∙ ap (λ (o : Option Records). of_sets o (rrset zone.sets (wildcard parent) type_cname)) own)),
  )

  pub answered_wild : (has : Features) (above : Option Records) → AreFeatures zone has → has.dnames ≡ false → ¬ (t ≡ type_any) → ¬ (Exists zone.sets name) → CutAbove zone name above
      → Answers zone name t (wild_or_referral above records.now)
  answered_wild has (Some servers) features none one missing cut = undirected zone name t servers (features.dnames none) cut
  answered_wild has None features none one missing cut =
      let e : IsEncloser zone.sets name parent = encloser zone.sets name parent refl missing (below_it zone.sets parent exists) in
      direct (λ k r. features.dnames none (ancestor name k) r.owner)
      (below_encloser zone name parent t None (Some (found.WildAnswer records)) e missing refl (above_encloser zone name parent e (is_above zone.sets name parent e missing) cut) (stands one))
