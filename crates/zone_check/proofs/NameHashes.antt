-- The hashes of the names that exist.
use Rattle.std.proofs.Common.{◌≡◌, ◌∙◌, ◌<◌, ◌≤◌, ◌+◌, ◌-◌, ℕ, zero, suc, Bool, true, false, cond, List, [], ◌∷◌, length, length-drop, drop, get_or, Option, Some, refl, sym, ap, subst, inl, inr, IsSome, arith}
use Rattle.std.specs.Prelude.{◌↔◌, ◌⊎◌, is_some}
use Rattle.std.specs.List.{find, slice_get}
use Rattle.std.proofs.lemmas.Option.{slice_get_read}
use Rattle.std.specs.Ordering.{is_eq}
use Rattle.std.specs.BTreeMap.{BTreeMap, Updates, get}
use Rattle.std.proofs.lemmas.List.{drop-drop, length-map}
use Rattle.std.proofs.lemmas.List.Elements.{Contains-append_right}
use Rattle.wire_names.specs.rr.domain.DomainName.{DomainName}
use Rattle.wire_names.specs.rr.domain.NameOrder.{Encloses, lower_label, lower_name}
use Rattle.wire_messages.specs.declared.rr.rdata.RData.{RData}
use Rattle.wire_messages.specs.declared.rr.record.Record.{Record}
use Rattle.zone_check.proofs.SameNames.{first_lower}
use Rattle.zone_check.proofs.HashKeys.{equal_hashes, same_hashes}
use Rattle.zone_check.specs.CheckedZones.{Records, ancestor, is_of, type_nsec3}
use Rattle.zone_check.specs.HashedZones.{HasNameHash, IsByRecord, IsOfName}
use Rattle.zone_check.specs.Indexes.{HasNames, hash_cmp}
use Rattle.zone_denials.proofs.lemmas.Members.{head_or_in}
use Rattle.zone_denials.specs.Nsec3.{Hashing, hash_of}

false_true : false ≡ true → ⊥
false_true e = cc

-- the map has what the other has, and the hash of the name if that is in the zone
abbrev pub Gains : DomainName → Hashing → DomainName → BTreeMap (List ℕ) ℕ → BTreeMap (List ℕ) ℕ → Type 0
Gains origin by name old new = (q : List ℕ) → IsSome (get hash_cmp new q) ↔ (IsSome (get hash_cmp old q) ⊎ HasNameHash origin by q name)

one_more : (old new : BTreeMap (List ℕ) ℕ) (digest q : List ℕ) (place : ℕ) → get hash_cmp new q ≡ cond (is_eq (hash_cmp digest q)) (Some place) (get hash_cmp old q) → IsSome (get hash_cmp new q) ↔ (IsSome (get hash_cmp old q) ⊎ (digest ≡ q))
one_more old new digest q place e = by_test (is_eq (hash_cmp digest q)) refl where
  by_test : (b : Bool) → is_eq (hash_cmp digest q) ≡ b → IsSome (get hash_cmp new q) ↔ (IsSome (get hash_cmp old q) ⊎ (digest ≡ q))
  by_test true t = (λ _. inr (equal_hashes digest q t), λ _. ap is_some (e ∙ ap (λ b. cond b (Some place) (get hash_cmp old q)) t))
  by_test false t =
      let is : get hash_cmp new q ≡ get hash_cmp old q = e ∙ ap (λ b. cond b (Some place) (get hash_cmp old q)) t in
      (λ h. inl (sym (ap is_some is) ∙ h), λ h. elim h [ inl o ↦ ap is_some is ∙ o | inr s ↦ absurd (false_true (sym t ∙ same_hashes digest q s)) ])

module _ (origin : DomainName) (by : Hashing) where
  pub gains : (name : DomainName) (digest : List ℕ) (place : ℕ) (old new : BTreeMap (List ℕ) ℕ) → Encloses origin.labels name.labels → digest ≡ hash_of by name → Updates hash_cmp old new digest (Some place) → Gains origin by name old new
  gains name digest place old new within is updates q =
      let m = one_more old new digest q place (updates.0 q) in (
        λ h. elim (m.0 h) [ inl o ↦ inl o | inr e ↦ let x : HasNameHash origin by q name = record { within = within; is = sym is ∙ e } in inr x ],
        λ h. elim h [ inl o ↦ m.1 (inl o) | inr x ↦ m.1 (inr (is ∙ x.is)) ],
      )

  pub gains_none : (name : DomainName) (names : BTreeMap (List ℕ) ℕ) → ¬ (Encloses origin.labels name.labels) → Gains origin by name names names
  gains_none name names outside q = (λ h. inl h, λ h. elim h [ inl o ↦ o | inr x ↦ absurd (outside x.within) ])

  -- the map has what the other has, and the hashes of the name and of so many names above it
  pub record GainsUpTo (name : DomainName) (old : BTreeMap (List ℕ) ℕ) (here : DomainName) (new : BTreeMap (List ℕ) ℕ) : Type 0 where
    pub count : ℕ
    pub at : here ≡ ancestor name count
    pub within : count ≤ length name.labels
    pub has : (q : List ℕ) → IsSome (get hash_cmp new q) ↔ (IsSome (get hash_cmp old q) ⊎ ((k : ℕ) × (k ≤ count) × HasNameHash origin by q (ancestor name k)))

  pub start : (name : DomainName) (old new : BTreeMap (List ℕ) ℕ) → Gains origin by name old new → GainsUpTo name old name new
  start name old new g = record {
    count = 0;
    at = refl;
    within = omega arith;
    has = λ q. (
      λ h. elim ((g q).0 h) [ inl o ↦ inl o | inr x ↦ inr (0, omega arith, x) ],
      λ h. elim h [ inl o ↦ (g q).1 (inl o) | inr x ↦ let zero : x.0 ≡ 0 = omega (arith, x.1) in (g q).1 (inr (subst (λ (k : ℕ). HasNameHash origin by q (ancestor name k)) zero x.2)) ],
    );
  }

  one_up : (name here : DomainName) (count : ℕ) → here ≡ ancestor name count → record here { labels = drop 1 here.labels } ≡ ancestor name (count + 1)
  one_up name here count at =
      ap (λ (n : DomainName). let m : DomainName = record n { labels = drop 1 n.labels } in m) at
      ∙ ap (λ ls. let m : DomainName = record { labels = ls; is_fqdn = name.is_fqdn } in m) (drop-drop 1 count name.labels)

  at_length : (name here : DomainName) (count : ℕ) → here ≡ ancestor name count → length here.labels ≡ length name.labels - count
  at_length name here count at = ap (λ (n : DomainName). length n.labels) at ∙ length-drop count name.labels

  pub next : (name : DomainName) (old now new : BTreeMap (List ℕ) ℕ) (here : DomainName) → GainsUpTo name old here now → 0 < length here.labels → Gains origin by (record here { labels = drop 1 here.labels }) now new → GainsUpTo name old (record here { labels = drop 1 here.labels }) new
  next name old now new here w some g = record {
    count = w.count + 1;
    at = one_up name here w.count w.at;
    within = omega (arith, at_length name here w.count w.at);
    has = λ q. (forth q, back q);
  } where
    last : (q : List ℕ) → HasNameHash origin by q (record here { labels = drop 1 here.labels }) → HasNameHash origin by q (ancestor name (w.count + 1))
    last q x = subst (HasNameHash origin by q) (one_up name here w.count w.at) x

    forth : (q : List ℕ) → IsSome (get hash_cmp new q) → IsSome (get hash_cmp old q) ⊎ ((k : ℕ) × (k ≤ w.count + 1) × HasNameHash origin by q (ancestor name k))
    forth q h = elim ((g q).0 h) [
      | inl o ↦ elim ((w.has q).0 o) [ inl p ↦ inl p | inr x ↦ inr (x.0, omega (arith, x.1), x.2) ]
      | inr x ↦ inr (w.count + 1, omega arith, last q x)
    ]

    back : (q : List ℕ) → IsSome (get hash_cmp old q) ⊎ ((k : ℕ) × (k ≤ w.count + 1) × HasNameHash origin by q (ancestor name k)) → IsSome (get hash_cmp new q)
    back q h = elim h [
      | inl o ↦ (g q).1 (inl ((w.has q).1 (inl o)))
      | inr x ↦ elim (at_or_below x.0 w.count x.1) [
        | inl low ↦ (g q).1 (inl ((w.has q).1 (inr (x.0, low, x.2))))
        | inr is ↦ (g q).1 (inr (subst (HasNameHash origin by q) (sym (one_up name here w.count w.at)) (subst (λ (k : ℕ). HasNameHash origin by q (ancestor name k)) is x.2)))
      ]
    ] where
      at_or_below : (k count : ℕ) → k ≤ count + 1 → (k ≤ count) ⊎ (k ≡ count + 1)
      at_or_below k count h = grind arith

  pub all_up : (name : DomainName) (old new : BTreeMap (List ℕ) ℕ) (here : DomainName) → GainsUpTo name old here new → length here.labels ≡ 0
      → (q : List ℕ) → IsSome (get hash_cmp new q) ↔ (IsSome (get hash_cmp old q) ⊎ ((k : ℕ) × (k ≤ length name.labels) × HasNameHash origin by q (ancestor name k)))
  all_up name old new here w empty q =
      let whole : w.count ≡ length name.labels = omega (arith, at_length name here w.count w.at, w.within) in
      subst (λ (n : ℕ). IsSome (get hash_cmp new q) ↔ (IsSome (get hash_cmp old q) ⊎ ((k : ℕ) × (k ≤ n) × HasNameHash origin by q (ancestor name k)))) whole (w.has q)

  module _ (records : Records) (r : Record RData) where
    lower_length : length (lower_name r.name).labels ≡ length r.name.labels
    lower_length = length-map r.name.labels lower_label

    pub by_record : (old new : BTreeMap (List ℕ) ℕ) → ¬ (IsSome (find (is_of r.name type_nsec3) records))
        → ((q : List ℕ) → IsSome (get hash_cmp new q) ↔ (IsSome (get hash_cmp old q) ⊎ ((k : ℕ) × (k ≤ length (lower_name r.name).labels) × HasNameHash origin by q (ancestor (lower_name r.name) k))))
        → (q : List ℕ) → IsSome (get hash_cmp new q) ↔ (IsSome (get hash_cmp old q) ⊎ IsByRecord origin records by q r)
    by_record old new named has q = (
      λ h. elim ((has q).0 h) [ inl o ↦ inl o | inr x ↦ let y : IsByRecord origin records by q r = record { named = named; count = x.0; is_ancestor = omega (arith, x.1, lower_length); has = x.2 } in inr y ],
      λ h. elim h [ inl o ↦ (has q).1 (inl o) | inr x ↦ (has q).1 (inr (x.count, omega (arith, x.is_ancestor, lower_length), x.has)) ],
    )

    pub by_record_of : (name : DomainName) → name ≡ lower_name r.name → (old new : BTreeMap (List ℕ) ℕ) → ¬ (IsSome (find (is_of name type_nsec3) records))
        → ((q : List ℕ) → IsSome (get hash_cmp new q) ↔ (IsSome (get hash_cmp old q) ⊎ ((k : ℕ) × (k ≤ length name.labels) × HasNameHash origin by q (ancestor name k))))
        → (q : List ℕ) → IsSome (get hash_cmp new q) ↔ (IsSome (get hash_cmp old q) ⊎ IsByRecord origin records by q r)
    by_record_of name is old new named has = by_record old new
        (subst (λ (o : Option (Record RData)). ¬ (IsSome o)) (first_lower records r.name type_nsec3) (subst (λ (d : DomainName). ¬ (IsSome (find (is_of d type_nsec3) records))) is named))
        (subst (λ (d : DomainName). (q : List ℕ) → IsSome (get hash_cmp new q) ↔ (IsSome (get hash_cmp old q) ⊎ ((k : ℕ) × (k ≤ length d.labels) × HasNameHash origin by q (ancestor d k)))) is has)

    pub not_by_record_of : (name : DomainName) → name ≡ lower_name r.name → (names : BTreeMap (List ℕ) ℕ) → ¬ (¬ (IsSome (find (is_of name type_nsec3) records))) → (q : List ℕ) → IsSome (get hash_cmp names q) ↔ (IsSome (get hash_cmp names q) ⊎ IsByRecord origin records by q r)
    not_by_record_of name is names hashed q = (λ h. inl h, λ h. elim h [ inl o ↦ o | inr x ↦ absurd (hashed (subst (λ (d : DomainName). ¬ (IsSome (find (is_of d type_nsec3) records))) (sym is) (subst (λ (o : Option (Record RData)). ¬ (IsSome o)) (sym (first_lower records r.name type_nsec3)) x.named))) ])

  -- one record more
  pub one_more_record : (records : Records) (place : ℕ) (r : Record RData) (old new : BTreeMap (List ℕ) ℕ) → drop place records ≡ r ∷ drop (suc place) records → HasNames origin records by (drop (suc place) records) old
      → ((q : List ℕ) → IsSome (get hash_cmp new q) ↔ (IsSome (get hash_cmp old q) ⊎ IsByRecord origin records by q r)) → HasNames origin records by (drop place records) new
  one_more_record records place r old new front had gained q = subst (λ (last : Records). IsSome (get hash_cmp new q) ↔ IsOfName origin records by last q) (sym front) (forth, back) where
    forth : IsSome (get hash_cmp new q) → IsOfName origin records by (r ∷ drop (suc place) records) q
    forth h = elim ((gained q).0 h) [
      | inl o ↦ let x = (had q).0 o in record { r = x.r; held = Contains-append_right (r ∷ []) (drop (suc place) records) x.r x.held; is = x.is }
      | inr x ↦ record { r = r; held = (0, omega arith, refl); is = x }
    ]

    back : IsOfName origin records by (r ∷ drop (suc place) records) q → IsSome (get hash_cmp new q)
    back x = elim (head_or_in r (drop (suc place) records) x.r x.held) [
      | inl e ↦ (gained q).1 (inr (subst (IsByRecord origin records by q) (sym e) x.is))
      | inr more ↦ (gained q).1 (inl ((had q).1 (record { r = x.r; held = more; is = x.is })))
    ]

-- the record at a place
pub record Here (records : Records) (place : ℕ) : Type 0 where
  pub r : Record RData
  pub at : slice_get records place ≡ Some r
  pub front : drop place records ≡ r ∷ drop (suc place) records

pub here : (records : Records) (place : ℕ) → place < length records → Here records place
here [] place within = absurd (omega (arith, within))
here (r ∷ rs) zero within = record { r = r; at = refl; front = refl }
here (r ∷ rs) (suc place) within = let h = here rs place (omega (arith, within)) in record { r = h.r; at = h.at; front = h.front }

some_same : {A : Type 0} {x y : A} → Some x ≡ Some y → x ≡ y
some_same e = cc

pub same_at : (records : Records) (place : ℕ) (q r : Record RData) → place < length records → q ≡ get_or records place q → slice_get records place ≡ Some r → q ≡ r
same_at records place q r within is at = some_same (sym (slice_get_read records (length records) place q refl within is) ∙ at)

pub one_more_at : (origin : DomainName) (by : Hashing) (records : Records) (place : ℕ) (old new : BTreeMap (List ℕ) ℕ) → 0 < place → place ≤ length records → HasNames origin records by (drop place records) old
    → ((r : Record RData) → slice_get records (place - 1) ≡ Some r → (q : List ℕ) → IsSome (get hash_cmp new q) ↔ (IsSome (get hash_cmp old q) ⊎ IsByRecord origin records by q r)) → HasNames origin records by (drop (place - 1) records) new
one_more_at origin by records place old new some within had gained =
    let inside : place - 1 < length records = omega arith in
    let h = here records (place - 1) inside in
    let next : suc (place - 1) ≡ place = omega arith in
    one_more_record origin by records (place - 1) h.r old new h.front (subst (λ (n : ℕ). HasNames origin records by (drop n records) old) (sym next) had) (gained h.r h.at)
