-- What holds of a zone that is written out, told by its keys.
use Rattle.std.proofs.Common.{◌≡◌, ℕ, zero, suc, ◌+◌, ◌-◌, ◌<◌, ◌≤◌, Bool, true, false, cond, ◌&&◌, ◌||◌, List, [], ◌∷◌, ◌++◌, drop, length, Some, inl, inr, refl, sym, ap, subst, ◌∙◌, arith, length-append, length-drop}
use Rattle.std.specs.Prelude.{nat_lt, is_some}
use Rattle.std.specs.List.{All, list_any}
use Rattle.std.specs.Map.{keys_of}
use Rattle.std.specs.Ordering.{is_eq}
use Rattle.std.proofs.lemmas.Bool.{cases_lt, false≢true}
use Rattle.std.proofs.lemmas.Bool.Decides.{nat_tests}
use Rattle.std.proofs.lemmas.List.{length-map}
use Rattle.std.proofs.lemmas.List.Elements.{All-nil, All-cons, All-contains, Contains-append_right}
use Rattle.wire_names.specs.rr.domain.DomainName.{DomainName}
use Rattle.wire_names.specs.representation.NameHash.{equal_is}
use Rattle.wire_names.specs.rr.domain.NameOrder.{Encloses, SameName, lower_label, lower_labels, name_cmp}
use Rattle.wire_messages.specs.Numbers.{type_dname, type_ds, type_ns}
use Rattle.wire_messages.specs.declared.rr.rr_key.RrKey.{RrKey}
use Rattle.zone_answers.proofs.lemmas.names.EnclosedBetween.{equal_of, same_of}
use Rattle.zone_answers.proofs.lemmas.names.Enclosers.{ancestor-ancestor}
use Rattle.zone_answers.proofs.lemmas.zones.Beside.{encloses_drop}
use Rattle.zone_answers.proofs.lemmas.zones.Cuts.{encloses_length, ends_within}
use Rattle.zone_answers.proofs.lemmas.zones.Outcomes.{closest_once}
use Rattle.zone_answers.specs.Zones.{Answers, Delegates, Exists, HasClosestEncloser, HasDname, IsAuthoritativeAt, IsCut, Records, Redirects, Sets, Zone, ancestor, at_cut, at_node, delegated, denied, direct, matched, no_name, redirected, redirection, referral, rrset, by_wildcard, wild, wildcard}

and_both : (a b : Bool) → (a && b) ≡ true → (a ≡ true) × (b ≡ true)
and_both true b h = (refl, h)
and_both false b h = absurd cc

-- how many labels a name has in front of one that it is at or below
abbrev more : DomainName → DomainName → ℕ
more name below = length below.labels - length name.labels

-- whether the name encloses another
abbrev pub is_above : DomainName → DomainName → Bool
is_above name below = nat_lt (length name.labels) (length below.labels + 1) && is_eq (name_cmp name (ancestor below (more name below)))

pub encloses_by : (name below : DomainName) → is_above name below ≡ true → Encloses name.labels below.labels
encloses_by name below h =
    let b = and_both (nat_lt (length name.labels) (length below.labels + 1)) (is_eq (name_cmp name (ancestor below (more name below)))) h in
    let s : SameName name (ancestor below (more name below)) = same_of name (ancestor below (more name below)) (equal_is (name_cmp name (ancestor below (more name below))) b.1) in
    let own : Encloses (drop (more name below) below.labels) below.labels = encloses_drop (more name below) below.labels in
    record { front = own.front; ends = own.ends ∙ ap (λ r. own.front ++ r) (sym s.labels) }

empty_of : (xs : List (List ℕ)) → length xs ≡ 0 → xs ≡ []
empty_of [] h = refl
empty_of (x ∷ xs) h = absurd (omega arith)

-- what a name encloses has its labels at the end
end_is : (os ls : List (List ℕ)) → Encloses os ls → lower_labels os ≡ lower_labels (drop (length ls - length os) ls)
end_is os ls within =
    let m : ℕ = length ls - length os in
    let long = encloses_length os ls within in
    let apex : Encloses (drop m ls) ls = encloses_drop m ls in
    let same = ends_within within.front apex.front (lower_labels os) (lower_labels (drop m ls)) (sym within.ends ∙ apex.ends) (omega (arith, long, length-map os lower_label, length-map (drop m ls) lower_label, length-drop m ls)) in
    let none : length same.0 ≡ 0 = omega (arith, long, ap length same.1, length-append same.0 (lower_labels os), length-map os lower_label, length-map (drop m ls) lower_label, length-drop m ls) in
    sym (same.1 ∙ ap (λ front. front ++ lower_labels os) (empty_of same.0 none))

pub above_told : (name below : DomainName) → name.is_fqdn ≡ below.is_fqdn → Encloses name.labels below.labels → is_above name below ≡ true
above_told name below marks e =
    let short : nat_lt (length name.labels) (length below.labels + 1) ≡ true = grind (arith, nat_tests, encloses_length name.labels below.labels e) in
    let same : name_cmp name (ancestor below (more name below)) ≡ _ = equal_of name (ancestor below (more name below)) (record { labels = end_is name.labels below.labels e; marks = marks }) in
    ap (λ b. b && is_eq (name_cmp name (ancestor below (more name below)))) short ∙ ap is_eq same

-- whether the name exists
abbrev pub is_in : Sets → DomainName → Bool
is_in sets name = list_any (λ e. is_above name e.0.name) sets

exists_step : (b : Bool) (name : DomainName) (e : RrKey × Records) (sets : Sets) → is_above name e.0.name ≡ b → (is_in sets name ≡ true → Exists sets name) → (b || is_in sets name) ≡ true → Exists (e ∷ sets) name
exists_step true name e sets is go h = record { owner = e.0; held = (0, omega arith, refl); at_or_below = encloses_by name e.0.name is }
exists_step false name e sets is go h =
    let x : Exists sets name = go h in
    record { owner = x.owner; held = Contains-append_right (e.0 ∷ []) (keys_of sets) x.owner x.held; at_or_below = x.at_or_below }

pub exists_by : (sets : Sets) (name : DomainName) → is_in sets name ≡ true → Exists sets name
exists_by [] name h = absurd cc
exists_by (e ∷ sets) name h = exists_step (is_above name e.0.name) name e sets refl (exists_by sets name) h

-- each key is of a fully qualified name that the name does not enclose
abbrev IsApart : DomainName → RrKey → Type 0
IsApart name key = (key.name.is_fqdn ≡ true) × (is_above name key.name ≡ false)

-- whether all keys are of fully qualified names
abbrev pub are_qualified : Sets → Bool
are_qualified [] = true
are_qualified (e ∷ sets) = e.0.name.is_fqdn && are_qualified sets

or_none : (a b : Bool) → (a || b) ≡ false → (a ≡ false) × (b ≡ false)
or_none true b h = absurd cc
or_none false b h = (refl, h)

all_apart : (sets : Sets) (name : DomainName) → are_qualified sets ≡ true → is_in sets name ≡ false → All (IsApart name) (keys_of sets)
all_apart [] name q h = All-nil (IsApart name)
all_apart (e ∷ sets) name q h =
    let marks = and_both e.0.name.is_fqdn (are_qualified sets) q in
    let none = or_none (is_above name e.0.name) (is_in sets name) h in
    All-cons (IsApart name) e.0 (keys_of sets) (marks.0, none.0) (all_apart sets name marks.1 none.1)

pub missing_by : (sets : Sets) (name : DomainName) → are_qualified sets ≡ true → name.is_fqdn ≡ true → is_in sets name ≡ false → ¬ (Exists sets name)
missing_by sets name q mark h x =
    let apart : IsApart name x.owner = All-contains (IsApart name) (keys_of sets) x.owner (all_apart sets name q h) x.held in
    false≢true (sym apart.1 ∙ above_told name x.owner.name (mark ∙ sym apart.0) x.at_or_below)

-- whether the zone is cut at the name
abbrev pub is_cut : Zone → DomainName → Bool
is_cut zone name = nat_lt (length zone.origin.labels) (length name.labels) && is_some (rrset zone.sets name type_ns)

cut_told : (zone : Zone) (name : DomainName) → IsCut zone name → is_cut zone name ≡ true
cut_told zone name c =
    let below : nat_lt (length zone.origin.labels) (length name.labels) ≡ true = grind (arith, nat_tests, c.below_apex) in
    ap (λ b. b && is_some (rrset zone.sets name type_ns)) below ∙ c.servers

cut_by : (zone : Zone) (name : DomainName) → is_above zone.origin name ≡ true → is_cut zone name ≡ true → IsCut zone name
cut_by zone name inside h =
    let b = and_both (nat_lt (length zone.origin.labels) (length name.labels)) (is_some (rrset zone.sets name type_ns)) h in
    let less : length zone.origin.labels < length name.labels = grind (arith, nat_tests, b.0) in
    record { within = encloses_by zone.origin name inside; below_apex = less; servers = b.1 }

-- whether the zone is cut at none of so many names from this one up
abbrev pub is_uncut : Zone → DomainName → ℕ → Bool
is_uncut zone name zero = true
is_uncut zone name (suc n) = cond (is_cut zone (ancestor name n)) false (is_uncut zone name n)

uncut_step : (b rest : Bool) → cond b false rest ≡ true → (b ≡ false) × (rest ≡ true)
uncut_step true rest h = absurd cc
uncut_step false rest h = (refl, h)

none_cut : (zone : Zone) (name : DomainName) (n : ℕ) → is_uncut zone name n ≡ true → (k : ℕ) → k < n → ¬ (IsCut zone (ancestor name k))
none_cut zone name zero h k less c = absurd (omega arith)
none_cut zone name (suc n) h k less c =
    let s = uncut_step (is_cut zone (ancestor name n)) (is_uncut zone name n) h in
    elim (cases_lt k n) [
      | inl below ↦ none_cut zone name n s.1 k below c
      | inr at ↦ let e : k ≡ n = omega arith in false≢true (sym s.0 ∙ cut_told zone (ancestor name n) (subst (λ (j : ℕ). IsCut zone (ancestor name j)) e c))
    ]

pub uncut_by : (zone : Zone) (name : DomainName) → is_uncut zone name (length name.labels) ≡ true → IsAuthoritativeAt zone name
uncut_by zone name h k c = elim (cases_lt k (length name.labels)) [
  | inl below ↦ none_cut zone name (length name.labels) h k below c
  | inr above ↦ absurd (omega (arith, c.below_apex, length-drop k name.labels))
]

-- cut at the k-th ancestor and not above
pub delegates_by : (zone : Zone) (name : DomainName) (k : ℕ) → is_above zone.origin (ancestor name k) ≡ true → is_cut zone (ancestor name k) ≡ true
    → is_uncut zone (ancestor name (suc k)) (length (drop (suc k) name.labels)) ≡ true → Delegates zone name k
delegates_by zone name k inside cut none = record {
  cut = cut_by zone (ancestor name k) inside cut;
  highest = λ j above c.
      let e : suc k + (j - suc k) ≡ j = omega arith in
      uncut_by zone (ancestor name (suc k)) none (j - suc k) (subst (IsCut zone) (sym (ancestor-ancestor name (j - suc k) (suc k) ∙ ap (ancestor name) e)) c);
}

-- whether none of so many names from this one up exists
abbrev pub are_missing : Sets → DomainName → ℕ → Bool
are_missing sets name zero = true
are_missing sets name (suc n) = cond (is_in sets (ancestor name n)) false (are_missing sets name n)

none_there : (sets : Sets) (name : DomainName) (n : ℕ) → are_qualified sets ≡ true → name.is_fqdn ≡ true → are_missing sets name n ≡ true → (k : ℕ) → k < n → ¬ (Exists sets (ancestor name k))
none_there sets name zero q mark h k less x = absurd (omega arith)
none_there sets name (suc n) q mark h k less x =
    let s = uncut_step (is_in sets (ancestor name n)) (are_missing sets name n) h in
    elim (cases_lt k n) [
      | inl below ↦ none_there sets name n q mark s.1 k below x
      | inr at ↦ let e : k ≡ n = omega arith in missing_by sets (ancestor name n) q mark s.0 (subst (λ (j : ℕ). Exists sets (ancestor name j)) e x)
    ]

pub closest_by : (sets : Sets) (name : DomainName) (k : ℕ) → are_qualified sets ≡ true → name.is_fqdn ≡ true → is_in sets (ancestor name k) ≡ true → are_missing sets name k ≡ true → HasClosestEncloser sets name k
closest_by sets name k q mark here below = record { exists = exists_by sets (ancestor name k) here; longest = none_there sets name k q mark below }

-- whether so many names above the k-th ancestor own no DNAME
abbrev pub is_free : Zone → DomainName → ℕ → ℕ → Bool
is_free zone name k zero = true
is_free zone name k (suc n) = cond (is_some (rrset zone.sets (ancestor name (k + suc n)) type_dname)) false (is_free zone name k n)

free_by : (zone : Zone) (name : DomainName) (k n : ℕ) → is_free zone name k n ≡ true → (j : ℕ) → k < j → j < k + n + 1 → ¬ (HasDname zone (ancestor name j))
free_by zone name k zero h j above below x = absurd (omega arith)
free_by zone name k (suc n) h j above below x =
    let s = uncut_step (is_some (rrset zone.sets (ancestor name (k + suc n)) type_dname)) (is_free zone name k n) h in
    elim (cases_lt j (k + suc n)) [
      | inl before ↦ free_by zone name k n s.1 j above (omega arith) x
      | inr at ↦ let e : j ≡ k + suc n = omega arith in let top : HasDname zone (ancestor name (k + suc n)) = subst (λ (i : ℕ). HasDname zone (ancestor name i)) e x in false≢true (sym s.0 ∙ top.dname)
    ]

module _ (zone : Zone) (name : DomainName) where
  -- nothing above the name owns a DNAME
  pub direct_by : is_free zone name 0 (length name.labels) ≡ true → (k : ℕ) → ¬ (Redirects zone name k)
  direct_by free k r = free_by zone name 0 (length name.labels) free k r.above (omega (arith, r.is_ancestor)) r.owner

  -- the zone is cut at or above all that own one
  direct_below_cut : (k : ℕ) → IsCut zone (ancestor name k) → is_free zone name k (length name.labels - k) ≡ true → (j : ℕ) → ¬ (Redirects zone name j)
  direct_below_cut k cut free j r = elim (cases_lt k j) [
    | inl above ↦ free_by zone name k (length name.labels - k) free j above (omega (arith, r.is_ancestor)) r.owner
    | inr below ↦ r.uncut k below cut
  ]

  pub redirects_by : (k : ℕ) → 0 < k → k ≤ length name.labels → is_above zone.origin (ancestor name k) ≡ true → is_some (rrset zone.sets (ancestor name k) type_dname) ≡ true → is_free zone name k (length name.labels - k) ≡ true
      → is_uncut zone (ancestor name k) (length (drop k name.labels)) ≡ true → Redirects zone name k
  redirects_by k above real inside owns free whole = record {
    above = above;
    is_ancestor = real;
    owner = record { within = encloses_by zone.origin (ancestor name k) inside; dname = owns };
    highest = λ j over least. free_by zone name k (length name.labels - k) free j over (omega arith);
    uncut = λ j over c.
        let e : k + (j - k) ≡ j = omega arith in
        uncut_by zone (ancestor name k) whole (j - k) (subst (IsCut zone) (sym (ancestor-ancestor name (j - k) k ∙ ap (ancestor name) e)) c);
  }

  pub as_redirected : (t k : ℕ) (dname : Records) → Redirects zone name k → rrset zone.sets (ancestor name k) type_dname ≡ Some dname → Answers zone name t (redirection k dname)
  as_redirected t k dname r is = redirected r is

  -- below a cut, where names own a DNAME that lie below it too
  pub as_referred_below : (t k : ℕ) (servers : Records) → is_above zone.origin (ancestor name k) ≡ true → is_cut zone (ancestor name k) ≡ true → is_uncut zone (ancestor name (suc k)) (length (drop (suc k) name.labels)) ≡ true
      → (k ≡ 0 → ¬ (t ≡ type_ds)) → rrset zone.sets (ancestor name k) type_ns ≡ Some servers → is_free zone name k (length name.labels - k) ≡ true → Answers zone name t (referral servers)
  as_referred_below t k servers inside cut none other is free =
      let d : Delegates zone name k = delegates_by zone name k inside cut none in
      direct (direct_below_cut k d.cut free) (delegated d other is)

module _ (zone : Zone) (name : DomainName) (t : ℕ) (free : is_free zone name 0 (length name.labels) ≡ true) where
  pub as_matched : is_uncut zone name (length name.labels) ≡ true → is_in zone.sets name ≡ true → Answers zone name t (at_node zone.sets name t)
  as_matched own here = direct (direct_by zone name free) (matched (uncut_by zone name own) (exists_by zone.sets name here))

  pub as_referred : (k : ℕ) (servers : Records) → is_above zone.origin (ancestor name k) ≡ true → is_cut zone (ancestor name k) ≡ true → is_uncut zone (ancestor name (suc k)) (length (drop (suc k) name.labels)) ≡ true
      → (k ≡ 0 → ¬ (t ≡ type_ds)) → rrset zone.sets (ancestor name k) type_ns ≡ Some servers → Answers zone name t (referral servers)
  as_referred k servers inside cut none other is = direct (direct_by zone name free) (delegated (delegates_by zone name k inside cut none) other is)

  pub as_at_cut : t ≡ type_ds → is_above zone.origin name ≡ true → is_cut zone name ≡ true → is_uncut zone (ancestor name 1) (length (drop 1 name.labels)) ≡ true → Answers zone name t (at_node zone.sets name t)
  as_at_cut ds inside cut none = direct (direct_by zone name free) (at_cut (delegates_by zone name 0 inside cut none) ds)

  module _ (own : is_uncut zone name (length name.labels) ≡ true) (k : ℕ) (q : are_qualified zone.sets ≡ true) (mark : name.is_fqdn ≡ true) (here : is_in zone.sets (ancestor name (suc k)) ≡ true) (below : are_missing zone.sets name (suc k) ≡ true) where
    closest : HasClosestEncloser zone.sets name (suc k)
    closest = closest_by zone.sets name (suc k) q mark here below

    pub as_wild : is_in zone.sets (wildcard (ancestor name (suc k))) ≡ true → Answers zone name t (by_wildcard (at_node zone.sets (wildcard (ancestor name (suc k))) t))
    as_wild some = direct (direct_by zone name free) (wild (uncut_by zone name own) (closest.longest 0 (omega arith)) closest (exists_by zone.sets (wildcard (ancestor name (suc k))) some))

    pub as_denied : is_in zone.sets (wildcard (ancestor name (suc k))) ≡ false → Answers zone name t no_name
    as_denied none =
        direct (direct_by zone name free)
        (denied (uncut_by zone name own) (closest.longest 0 (omega arith))
        (λ j c. subst (λ (n : ℕ). ¬ (Exists zone.sets (wildcard (ancestor name n)))) (closest_once zone.sets name (suc k) j closest c) (missing_by zone.sets (wildcard (ancestor name (suc k))) q mark none)))
