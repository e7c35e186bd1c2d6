-- From the closest encloser of a name and the highest cut above it to what the zone answers.
use Rattle.std.proofs.Common.{◌≡◌, ℕ, ◌+◌, ◌-◌, ◌<◌, ◌≤◌, zero, suc, Bool, true, false, cond, ◌&&◌, List, [], ◌∷◌, ◌++◌, drop, length, Option, Some, None, inl, inr, refl, sym, ap, subst, ◌∙◌, arith, length-append, length-drop, Result, Ok, Err}
use Rattle.std.specs.Prelude.{◌⊎◌, ◌==◌, ◌≢◌, IsTrue, is_some, IfOk}
use Rattle.std.specs.Map.{keys_of, lookup}
use Rattle.std.specs.Ordering.{is_eq, nat_cmp}
use Rattle.std.proofs.lemmas.Bool.{cases_lt}
use Rattle.std.proofs.lemmas.Bool.Decides.{nat_tests}
use Rattle.std.proofs.lemmas.List.{length-map}
use Rattle.std.proofs.Math.Seq.{drop-nil}
use Rattle.std.proofs.lemmas.List.Elements.{All-contains, Contains-append_right}
use Rattle.wire_names.specs.rr.domain.DomainName.{DomainName}
use Rattle.wire_names.specs.representation.NameHash.{equal_is}
use Rattle.wire_names.specs.rr.domain.NameOrder.{Encloses, SameName, lower_label, lower_labels, name_cmp}
use Rattle.wire_messages.specs.Numbers.{type_any, type_cname, type_ds}
use Rattle.wire_messages.specs.declared.rr.rr_key.RrKey.{RrKey}
use Rattle.hickory_base.proofs.lemmas.zone_store.ZoneByName.{eq_then}
use Rattle.hickory_base.specs.zone_store.ZoneAnswers.{records_at}
use Rattle.hickory_base.specs.zone_store.ZoneSets.{is_key}
use Rattle.zone_answers.proofs.lemmas.zones.Beside.{encloses_drop}
use Rattle.zone_answers.proofs.lemmas.names.EnclosedBetween.{same_of}
use Rattle.zone_answers.proofs.lemmas.zones.Cuts.{encloses_length, ends_within}
use Rattle.zone_answers.proofs.lemmas.names.Enclosers.{ancestor-ancestor}
use Rattle.zone_answers.specs.declared.find.Delegation.{Delegation}
use Rattle.zone_answers.specs.declared.find.Found.{Found}
use Rattle.zone_answers.specs.representation.FoundRecords.{CutAt, EndsAt, IsEncloser, WildFound, outcome_of}
use Rattle.zone_answers.specs.Zones.{AnswersDirectly, delegated, at_cut, matched, wild, denied, AreOwners, Delegates, Exists, HasClosestEncloser, IsAuthoritativeAt, IsCut, IsOwner, Outcome, Records, Sets, Zone, ancestor, any_of, at_node, no_name, of_sets, referral, rrset, wildcard}

and_first : (a b : Bool) → (a && b) ≡ true → a ≡ true
and_first true b h = refl
and_first false b h = absurd cc

same_key : (n : DomainName) (t : ℕ) (key : RrKey) → is_key n t key ≡ true → Encloses n.labels key.name.labels
same_key n t key h =
    let e : is_eq (name_cmp n key.name) ≡ true = and_first (is_eq (name_cmp n key.name)) (is_eq (nat_cmp t key.record_type)) (sym (eq_then (name_cmp n key.name) (nat_cmp t key.record_type)) ∙ h) in
    let s : SameName n key.name = same_of n key.name (equal_is (name_cmp n key.name) e) in
    record { front = []; ends = sym s.labels }

-- a name with records exists
owner_step : (b : Bool) (n : DomainName) (t : ℕ) (e : RrKey × Records) (sets : Sets) → is_key n t e.0 ≡ b → is_some (cond b (Some e.1) (lookup (is_key n t) sets)) ≡ true
    → (is_some (lookup (is_key n t) sets) ≡ true → Exists sets n) → Exists (e ∷ sets) n
owner_step true n t e sets is h go = record { owner = e.0; held = (0, omega arith, refl); at_or_below = same_key n t e.0 is }
owner_step false n t e sets is h go =
    let x : Exists sets n = go h in
    record { owner = x.owner; held = Contains-append_right (e.0 ∷ []) (keys_of sets) x.owner x.held; at_or_below = x.at_or_below }

pub owns : (sets : Sets) (n : DomainName) (t : ℕ) → is_some (rrset sets n t) ≡ true → Exists sets n
owns [] n t h = absurd cc
owns (e ∷ sets) n t h = owner_step (is_key n t e.0) n t e sets refl h (owns sets n t)

cut_exists : (zone : Zone) (n : DomainName) → IsCut zone n → Exists zone.sets n
cut_exists zone n c = owns zone.sets n 2 c.servers

less_or_not : (j k : ℕ) → (j < k) ⊎ (k ≤ j)
less_or_not j k = cases_lt j k

-- a name has one closest encloser
pub closest_once : (sets : Sets) (q : DomainName) (j k : ℕ) → HasClosestEncloser sets q j → HasClosestEncloser sets q k → j ≡ k
closest_once sets q j k a b = elim (cases_lt j k) [
  | inl less ↦ absurd (b.longest j less a.exists)
  | inr more ↦ elim (cases_lt k j) [ inl greater ↦ absurd (a.longest k greater b.exists) | inr same ↦ omega arith ]
]

-- a name that no longer one encloses
pub not_at_all : (ls : List (List ℕ)) (k : ℕ) → length ls ≤ length (drop k ls) → drop k ls ≡ ls
not_at_all [] k h = drop-nil k
not_at_all (l ∷ ls) zero h = refl
not_at_all (l ∷ ls) (suc k) h = absurd (omega (arith, length-drop (suc k) (l ∷ ls)))

-- what is answered where this was found at a wildcard, or none
abbrev pub wild_outcome : Sets → DomainName → Option Found → Outcome
wild_outcome sets q None = no_name
wild_outcome sets q (Some found) = outcome_of sets q found

module _ (zone : Zone) (q : DomainName) (t : ℕ) where
  -- where nothing above the name exists
  pub nothing : ((k : ℕ) → ¬ (Exists zone.sets (ancestor q k))) → AnswersDirectly zone q t no_name
  nothing none = denied (λ k c. none k (cut_exists zone (ancestor q k) c)) (λ x. none 0 x) (λ k h. absurd (none k h.exists))

  module _ (k : ℕ) (closest : HasClosestEncloser zone.sets q k) where
    up : ℕ → DomainName
    up j = ancestor q j

    none_below : (j : ℕ) → j < k → ¬ (IsCut zone (ancestor q j))
    none_below j h c = closest.longest j h (cut_exists zone (ancestor q j) c)

    further : (j : ℕ) → k ≤ j → ancestor (ancestor q k) (j - k) ≡ ancestor q j
    further j h = let e : k + (j - k) ≡ j = omega arith in ancestor-ancestor q (j - k) k ∙ ap (ancestor q) e

    -- no cut from the encloser up, and so none from the name up
    pub authoritative : IsAuthoritativeAt zone (ancestor q k) → IsAuthoritativeAt zone q
    authoritative none j c = elim (cases_lt j k) [
      | inl below ↦ none_below j below c
      | inr above ↦ none (j - k) (subst (IsCut zone) (sym (further j above)) c)
    ]

  pub wild_or_not : (k : ℕ) (wilds : Option Found) → HasClosestEncloser zone.sets q k → 0 < k → IsAuthoritativeAt zone (ancestor q k) → WildFound zone.sets (ancestor q k) t wilds → AnswersDirectly zone q t (wild_outcome zone.sets q wilds)
  wild_or_not zero wilds closest more auth w = absurd (omega arith)
  wild_or_not (suc k) (Some found) closest more auth w = subst (AnswersDirectly zone q t) (sym (w.1 q)) (wild (authoritative (suc k) closest auth) (closest.longest 0 (omega arith)) closest w.0)
  wild_or_not (suc k) None closest more auth w =
      denied (authoritative (suc k) closest auth) (closest.longest 0 (omega arith))
      (λ j h. subst (λ n. ¬ (Exists zone.sets (wildcard (ancestor q n)))) (closest_once zone.sets q (suc k) j closest h) w)

-- the closest encloser lies in the zone
pub encloser_within : (zone : Zone) (q : DomainName) (k : ℕ) → AreOwners zone.origin zone.sets → Encloses zone.origin.labels q.labels → HasClosestEncloser zone.sets q k → Encloses zone.origin.labels (ancestor q k).labels
encloser_within zone q k owners within closest =
    let os : List (List ℕ) = zone.origin.labels in
    let ls : List (List ℕ) = q.labels in
    let x : Exists zone.sets (ancestor q k) = closest.exists in
    let o : IsOwner zone.origin x.owner = All-contains (IsOwner zone.origin) (keys_of zone.sets) x.owner owners x.held in
    let own : Encloses (drop k ls) ls = encloses_drop k ls in
    let m : ℕ = length ls - length os in
    let long : length os ≤ length ls = encloses_length os ls within in
    let apex : Encloses (drop m ls) ls = encloses_drop m ls in
    let same = ends_within within.front apex.front (lower_labels os) (lower_labels (drop m ls)) (sym within.ends ∙ apex.ends) (omega (arith, length-map os lower_label, length-map (drop m ls) lower_label, length-drop m ls)) in
    let none : length same.0 ≡ 0 = omega (arith, ap length same.1, length-append same.0 (lower_labels os), length-map os lower_label, length-map (drop m ls) lower_label, length-drop m ls) in
    let equal : lower_labels (drop m ls) ≡ lower_labels os = same.1 ∙ ap (λ front. front ++ lower_labels os) (empty_of same.0 none) in
    let at_apex : Exists zone.sets (ancestor q m) = record { owner = x.owner; held = x.held; at_or_below = record { front = o.within.front; ends = o.within.ends ∙ ap (λ r. o.within.front ++ r) (sym equal) } } in
    elim (cases_lt m k) [
      | inl above ↦ absurd (closest.longest m above at_apex)
      | inr below ↦
          let r = ends_within within.front own.front (lower_labels os) (lower_labels (drop k ls)) (sym within.ends ∙ own.ends) (omega (arith, length-map os lower_label, length-map (drop k ls) lower_label, length-drop k ls)) in
          record { front = r.0; ends = r.1 }
    ]
  where
    empty_of : (xs : List (List ℕ)) → length xs ≡ 0 → xs ≡ []
    empty_of [] h = refl
    empty_of (x ∷ xs) h = absurd (omega arith)

-- what stands at a name, for one type and for any
pub at_one : (sets : Sets) (q : DomainName) (t : ℕ) → t ≢ type_any → at_node sets q t ≡ of_sets (rrset sets q t) (rrset sets q type_cname)
at_one sets q t one = let any : (t == 255) ≡ false = grind (arith, nat_tests) in ap (λ b. cond b (any_of (records_at q sets)) (of_sets (rrset sets q t) (rrset sets q type_cname))) any

pub at_any : (sets : Sets) (q : DomainName) (t : ℕ) → t ≡ type_any → any_of (records_at q sets) ≡ at_node sets q t
at_any sets q t any = let asked : (t == 255) ≡ true = grind (arith, nat_tests) in ap (λ b. cond b (any_of (records_at q sets)) (of_sets (rrset sets q t) (rrset sets q type_cname))) (sym asked)

-- the encloser of a name that does not exist is above it
pub is_above : (sets : Sets) (q encloser : DomainName) (e : IsEncloser sets q encloser) → ¬ (Exists sets q) → 0 < e.off
is_above sets q encloser e missing = elim (cases_lt 0 e.off) [
  | inl some ↦ some
  | inr none ↦ let zeros : e.off ≡ 0 = omega arith in absurd (missing (subst (λ (k : ℕ). Exists sets (ancestor q k)) zeros e.closest.exists))
]

module _ (zone : Zone) (q : DomainName) (t : ℕ) (cut : Option Delegation) (at : CutAt zone q cut) where
  ends : (d : Delegation) → cut ≡ Some d → EndsAt zone q d
  ends d e = subst (CutAt zone q) e at

  -- a name at a cut or below it
  pub referred : (d : Delegation) → cut ≡ Some d → ¬ (IsTrue d.is_at_name × (t ≡ type_ds)) → AnswersDirectly zone q t (referral d.servers.now)
  referred d e other = let x = ends d e in delegated x.delegates (λ zeros ds. other (x.at_name.1 zeros, ds)) x.servers

  -- a name at a cut, where records of the zone above are asked for
  pub above_cut : (d : Delegation) (o : Outcome) → cut ≡ Some d → IsTrue d.is_at_name × (t ≡ type_ds) → o ≡ at_node zone.sets q t → AnswersDirectly zone q t o
  above_cut d o e asked is =
      let x = ends d e in
      subst (AnswersDirectly zone q t) (sym is) (at_cut (subst (Delegates zone q) (x.at_name.0 asked.0) x.delegates) asked.1)

  -- any other name that exists
  pub uncut : (o : Outcome) → cut ≡ None → Exists zone.sets q → o ≡ at_node zone.sets q t → AnswersDirectly zone q t o
  uncut o e x is = subst (AnswersDirectly zone q t) (sym is) (matched (subst (CutAt zone q) e at) x)

pub if_ok : {X E : Type 0} (r : Result X E) (P Q : X → Type 0) → IfOk r P → ((x : X) → P x → Q x) → IfOk r Q
if_ok (Ok x) P Q h f = f x h
if_ok (Err e) P Q h f = h

-- what is found below the closest encloser of a name that does not exist
pub below_encloser : (zone : Zone) (q encloser : DomainName) (t : ℕ) (cut : Option Delegation) (wilds : Option Found) (e : IsEncloser zone.sets q encloser) → ¬ (Exists zone.sets q) → cut ≡ None → CutAt zone encloser cut
    → WildFound zone.sets encloser t wilds → AnswersDirectly zone q t (wild_outcome zone.sets q wilds)
below_encloser zone q encloser t cut wilds e apart none at w =
    wild_or_not zone q t e.off wilds e.closest (is_above zone.sets q encloser e apart) (subst (λ (n : DomainName). CutAt zone n None) e.is (subst (CutAt zone encloser) none at))
    (subst (λ (n : DomainName). WildFound zone.sets n t wilds) e.is w)

pub within : (zone : Zone) (q encloser : DomainName) → AreOwners zone.origin zone.sets → Encloses zone.origin.labels q.labels → IsEncloser zone.sets q encloser → Encloses zone.origin.labels encloser.labels
within zone q encloser owners inside e = subst (λ (n : DomainName). Encloses zone.origin.labels n.labels) (sym e.is) (encloser_within zone q e.off owners inside e.closest)
