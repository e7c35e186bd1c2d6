-- A signed zone of which nothing is found has a complete chain of NSEC records.
use Rattle.std.proofs.Common.{◌≡◌, ◌++◌, ◌∙◌, ◌-◌, ◌+◌, ℕ, zero, suc, ◌<◌, ◌≤◌, true, List, [], ◌∷◌, map, drop, length, length-append, Option, Some, None, option_map, append_assoc, refl, sym, ap, subst, inl, inr, arith}
use Rattle.std.specs.Prelude.{◌⊎◌, ◌↔◌, MatchOption, Ok, Err}
use Rattle.std.specs.List.{AllByRecursion, Contains, drop-map}
use Rattle.std.specs.Option.{option_and_then}
use Rattle.std.proofs.lemmas.List.{drop-drop, length-drop, length-map}
use Rattle.std.proofs.lemmas.List.Elements.{All-contains, All-from_recursion, Contains-append_right}
use Rattle.wire_names.specs.rr.domain.DomainName.{DomainName}
use Rattle.wire_names.specs.rr.domain.NameOrder.{Encloses, SameName, lower_label, lower_labels}
use Rattle.wire_messages.specs.rr.RecordData.{type_of}
use Rattle.wire_messages.specs.serialize.reading.NameReading.{name}
use Rattle.wire_messages.specs.serialize.reading.Reading.{Read}
use Rattle.wire_messages.specs.declared.rr.rdata.RData.{RData}
use Rattle.wire_messages.specs.declared.rr.record.Record.{Record}
use Rattle.wire_messages.specs.declared.rr.rr_key.RrKey.{RrKey}
use Rattle.zone_check.proofs.ChainOwners.{HasName, InOrder, all_owners, among_rest, ascending, both_enclose, enclosed_or, from_map, in_map, in_owners, itself, order_owners, owners, same_or}
use Rattle.zone_check.proofs.NextOwners.{before_alike}
use Rattle.zone_check.proofs.ZoneRecords.{Owned, in_or, owned, owns_by, owns_or, unfound}
use Rattle.zone_check.proofs.SameNames.{cut_alike, dname_alike, first_alike, owns_alike}
use Rattle.zone_check.specs.ChainedZones.{FaultlessZonesAreChained, IsFaultless, IsSaid, chain_kinds, key_in, keys_in}
use Rattle.zone_check.specs.CheckedZones.{CheckedZone, IsCut, IsDnameOwner, IsInZone, Owns, ancestor, type_dname, type_ns, type_nsec, type_soa}
use Rattle.zone_check.specs.SignedZones.{HasIdleType, IsHashed, IsLaterOwner, IsListed, IsNext, is_type_at_cut, nsec_at, nsec_of, octets_of}
use Rattle.zone_check.specs.declared.finding.Kind.TheVariants as kind
use Rattle.zone_denials.proofs.lemmas.EnclosedBetween.{encloses_up_to, same_back}
use Rattle.zone_denials.proofs.lemmas.Members.{head_or_in}
use Rattle.zone_denials.proofs.lemmas.NsecChains.{enclosed_same, encloses_drop, encloses_same, not_both}
use Rattle.zone_denials.proofs.lemmas.SignedZones.{enclosing_trans, same_trans}
use Rattle.zone_denials.specs.Nsec.{IsBefore, Nsec}
use Rattle.zone_denials.specs.NsecChain.{AreLinked, next_owner}
use Rattle.zone_denials.specs.NsecData.{nsec_in, with_next}
use Rattle.zone_denials.specs.SignedZone as keys
use Rattle.zone_denials.specs.SignedZone.{HasSet, IsChained, IsLinked}

some_same : {A : Type 0} {x y : A} → Some x ≡ Some y → x ≡ y
some_same e = cc

none_some : {A : Type 0} {x : A} → None ≡ Some x → ⊥
none_some e = cc

-- the owner of what an NSEC record says is the record's
owner_of : (r : Record RData) (n : Nsec) → nsec_of r ≡ Some n → n.owner ≡ r.name
owner_of r n = of_octets (octets_of type_nsec r.rdata) where
  of_types : (next : DomainName) (types : Option (List ℕ)) → option_map (λ (ts : List ℕ). let m : Nsec = record { owner = r.name; next = next; types = ts } in m) types ≡ Some n → n.owner ≡ r.name
  of_types next None e = absurd (none_some e)
  of_types next (Some ts) e = sym (ap (λ (m : Nsec). m.owner) (some_same e))

  of_next : (octets : List ℕ) (read : Read DomainName) → with_next r.name octets read ≡ Some n → n.owner ≡ r.name
  of_next octets (Ok x) e = of_types x.0 _ e
  of_next octets (Err f) e = absurd (none_some e)

  of_octets : (o : Option (List ℕ)) → option_and_then (nsec_in r.name) o ≡ Some n → n.owner ≡ r.name
  of_octets None e = absurd (none_some e)
  of_octets (Some octets) e = of_next octets (name (record { bytes = octets; place = 0 })) e

abbrev nsec_or : DomainName → Option Nsec → Nsec
nsec_or o (Some n) = n
nsec_or o None = record { owner = o; next = o; types = [] }

-- of a fact that holds at some places, the last one
pub record Last (P : ℕ → Type 0) (most : ℕ) : Type 0 where
  pub k : ℕ
  pub above : 0 < k
  pub within : k ≤ most
  pub is : P k
  pub highest : (j : ℕ) → k < j → j ≤ most → ¬ (P j)

by_last : (P : ℕ → Type 0) (most j : ℕ) → ¬ (P (suc most)) → (j ≤ most → ¬ (P j)) → j ≤ suc most → ¬ (P j)
by_last P most j fails low within = elim (not_more most j) [
  | inl near ↦ low near
  | inr over ↦ let is : j ≡ suc most = omega (arith, over, within) in λ p. fails (subst P is p)
] where
  not_more : (l k : ℕ) → (k ≤ l) ⊎ (l < k)
  not_more l zero = inl (omega arith)
  not_more zero (suc k) = inr (omega arith)
  not_more (suc l) (suc k) = elim (not_more l k) [ inl h ↦ inl (omega (arith, h)) | inr h ↦ inr (omega (arith, h)) ]

last_or : (P : ℕ → Type 0) → ((k : ℕ) → P k ⊎ ¬ (P k)) → (most : ℕ) → Last P most ⊎ ((k : ℕ) → 0 < k → k ≤ most → ¬ (P k))
last_or P decide zero = inr (λ k above within. absurd (omega arith))
last_or P decide (suc most) = elim (decide (suc most)) [
  | inl p ↦ let r : Last P (suc most) = record { k = suc most; above = omega arith; within = omega arith; is = p; highest = λ j more within. absurd (omega arith) } in inl r
  | inr fails ↦ elim (last_or P decide most) [
    | inl l ↦ let r : Last P (suc most) = record { k = l.k; above = l.above; within = omega (arith, l.within); is = l.is; highest = λ j more. by_last P most j fails (l.highest j more) } in inl r
    | inr none ↦ inr (λ k above. by_last P most k fails (none k above))
  ]
]

pub same_ancestors : (a b : DomainName) (j : ℕ) → SameName a b → SameName (ancestor a j) (ancestor b j)
same_ancestors a b j s = record { labels = sym (drop-map lower_label j a.labels) ∙ ap (drop j) s.labels ∙ drop-map lower_label j b.labels; marks = s.marks }

above_ancestor : (name : DomainName) (k j : ℕ) → ancestor (ancestor name k) j ≡ ancestor name (k + j)
above_ancestor name k j = ap (λ (ls : List (List ℕ)). let d : DomainName = record { labels = ls; is_fqdn = name.is_fqdn } in d) (drop-drop j k name.labels)

same_length : (a b : DomainName) → SameName a b → length a.labels ≡ length b.labels
same_length a b s = omega (arith, ap length s.labels, length-map a.labels lower_label, length-map b.labels lower_label)

enclosing_length : (ns ms : List (List ℕ)) → Encloses ns ms → length ns ≤ length ms
enclosing_length ns ms e = omega (arith, ap length e.ends, length-append e.front (lower_labels ns), length-map ns lower_label, length-map ms lower_label)

module _ (zone : CheckedZone) (f : IsFaultless chain_kinds zone) (unhashed : ¬ (IsHashed zone)) where
  within : (r : Record RData) → Contains zone.records r → IsInZone zone r.name
  within r x = elim (enclosed_or zone.origin.labels r.name.labels) [
    | inl e ↦ e
    | inr fails ↦ absurd (unfound zone chain_kinds f kind.Outside (0, omega arith, refl) r x fails)
  ]

  has_set : (name : DomainName) (t : ℕ) → Owns zone name t → HasSet (keys_in zone) name t
  has_set name t h = let o = owned zone name t h in record { key = key_in o.it; held = in_map key_in zone.records o.it o.held; named = o.named; typed = o.typed }

  owns_of : (name : DomainName) (t : ℕ) → HasSet (keys_in zone) name t → Owns zone name t
  owns_of name t h =
      let m = from_map key_in zone.records h.key h.held in
      owns_by zone m.it m.held name t (subst (λ (k : RrKey). SameName k.name name) (sym m.is) h.named) (ap (λ (k : RrKey). k.record_type) m.is ∙ h.typed)

  cut_key : (name : DomainName) → IsCut zone name → keys.IsCut (keys_in zone) name
  cut_key name c = record { below_apex = λ s. c.below.other (record { front = []; ends = sym s.labels }); servers = has_set name type_ns c.servers }

  key_cut : (name : DomainName) → keys.IsCut (keys_in zone) name → IsCut zone name
  key_cut name c =
      let owns = owns_of name type_ns c.servers in
      let o = owned zone name type_ns owns in
      let inside = within o.it o.held in
      record {
        below = record {
          within = enclosed_same zone.origin.labels o.it.name name (same_back o.it.name name o.named) inside;
          other = λ e. c.below_apex (record {
            labels = both_enclose name.labels zone.origin.labels e (enclosed_same zone.origin.labels o.it.name name (same_back o.it.name name o.named) inside);
            marks = sym o.named.marks ∙ f.qualified o.it o.held ∙ sym f.apex;
          });
        };
        servers = owns;
      }

  -- what is below the name is not the zone's own
  abbrev IsClosed : DomainName → Type 0
  IsClosed name = IsCut zone name ⊎ IsDnameOwner zone name

  cut_or : (name : DomainName) → IsCut zone name ⊎ ¬ (IsCut zone name)
  cut_or name = elim (enclosed_or zone.origin.labels name.labels) [
    | inr fails ↦ inr (λ c. fails c.below.within)
    | inl e ↦ elim (enclosed_or name.labels zone.origin.labels) [
      | inl g ↦ inr (λ c. c.below.other g)
      | inr fails ↦ elim (owns_or zone name type_ns) [
        | inl o ↦ let r : IsCut zone name = record { below = record { within = e; other = fails }; servers = o } in inl r
        | inr none ↦ inr (λ c. none c.servers)
      ]
    ]
  ]

  dname_or : (name : DomainName) → IsDnameOwner zone name ⊎ ¬ (IsDnameOwner zone name)
  dname_or name = elim (enclosed_or zone.origin.labels name.labels) [
    | inr fails ↦ inr (λ d. fails d.within)
    | inl e ↦ elim (owns_or zone name type_dname) [
      | inl o ↦ let r : IsDnameOwner zone name = record { within = e; owner = o } in inl r
      | inr none ↦ inr (λ d. none d.owner)
    ]
  ]

  closed_or : (name : DomainName) → IsClosed name ⊎ ¬ (IsClosed name)
  closed_or name = elim (cut_or name) [
    | inl c ↦ inl (inl c)
    | inr fails ↦ elim (dname_or name) [
      | inl d ↦ inl (inr d)
      | inr none ↦ inr (λ h. elim h [ inl c ↦ fails c | inr d ↦ none d ])
    ]
  ]

  closed_alike : (a b : DomainName) → SameName a b → IsClosed a → IsClosed b
  closed_alike a b s h = elim h [ inl c ↦ inl (cut_alike zone a b s c) | inr d ↦ inr (dname_alike zone a b s d) ]

  -- a record below nothing that is closed has an NSEC record at its name
  nsec_of_open : (r : Record RData) (x : Contains zone.records r) → ((k : ℕ) → 0 < k → k ≤ length r.name.labels → ¬ (IsClosed (ancestor r.name k))) → Owns zone r.name type_nsec
  nsec_of_open r x none = elim (owns_or zone r.name type_nsec) [
    | inl o ↦ o
    | inr fails ↦ absurd (unfound zone chain_kinds f kind.NoNsec (2, omega arith, refl) r x (
      f.signed,
      record {
        unhashed = unhashed;
        of_zone = record {
          within = within r x;
          uncut = λ b. none b.count b.above b.is_ancestor (inl b.cut);
          undirected = λ b. none b.count b.above b.is_ancestor (inr b.dname);
        };
        none = fails;
      },
    ))
  ]

  -- what the NSEC record of a name says
  abbrev nsec : DomainName → Nsec
  nsec o = nsec_or o (nsec_at zone o)

  record Says (o : DomainName) : Type 0 where
    r : Record RData
    held : Contains zone.records r
    named : SameName r.name o
    typed : type_of r.rdata ≡ type_nsec
    first : nsec_at zone o ≡ Some (nsec o)
    says : nsec_of r ≡ Some (nsec o)
    owner : SameName (nsec o).owner o

  says_by : (o : DomainName) (h : Owned zone o type_nsec) (said : Option Nsec) → nsec_of h.it ≡ said → Says o
  says_by o h None e = absurd (unfound zone chain_kinds f kind.UnreadNsec (3, omega arith, refl) h.it h.held (f.signed, record { typed = h.typed; unread = e }))
  says_by o h (Some n) e =
      let first : nsec_at zone o ≡ Some n = ap (option_and_then nsec_of) h.is ∙ e in
      let is : n ≡ nsec o = sym (ap (nsec_or o) first) in
      record {
        r = h.it;
        held = h.held;
        named = h.named;
        typed = h.typed;
        first = first ∙ ap Some is;
        says = e ∙ ap Some is;
        owner = subst (λ (d : DomainName). SameName d o) (sym (owner_of h.it (nsec o) (e ∙ ap Some is))) h.named;
      }

  says : (o : DomainName) → Owns zone o type_nsec → Says o
  says o h = let w = owned zone o type_nsec h in says_by o w (nsec_of w.it) refl

  abbrev names : List DomainName
  names = owners zone.records

  abbrev chain : List Nsec
  chain = map nsec names

  all_own : AllByRecursion (λ o. Owns zone o type_nsec) names
  all_own = all_owners (λ o. Owns zone o type_nsec) zone.records (λ r x typed. owns_by zone r x r.name type_nsec (itself r.name) typed)

  owns_at : (o : DomainName) → Contains names o → Owns zone o type_nsec
  owns_at o x = All-contains (λ o. Owns zone o type_nsec) names o (All-from_recursion (λ o. Owns zone o type_nsec) names all_own) x

  all_owned : (os : List DomainName) → AllByRecursion (λ o. Owns zone o type_nsec) os → AllByRecursion (λ o. SameName (nsec o).owner o) os
  all_owned [] h = tt
  all_owned (o ∷ os) h = ((says o h.0).owner, all_owned os h.1)

  -- the chain has what an owner of NSEC records has
  record AtName (name : DomainName) : Type 0 where
    o : DomainName
    held : Contains names o
    same : SameName o name
    owner : SameName (nsec o).owner name

  at_name : (name : DomainName) → Owns zone name type_nsec → AtName name
  at_name name h =
      let w = owned zone name type_nsec h in
      let o = in_owners zone.records w.it w.held w.typed in
      let same = same_trans o.o w.it.name name o.same w.named in
      record { o = o.o; held = o.held; same = same; owner = same_trans (nsec o.o).owner o.o name (says o.o (owns_at o.o o.held)).owner same }

  closed_key : (name : DomainName) → IsClosed name → keys.IsClosed (keys_in zone) name
  closed_key name h = elim h [ inl c ↦ inl (cut_key name c) | inr d ↦ inr (has_set name type_dname d.owner) ]

  link : (r : Record RData) (x : Contains zone.records r) → IsLinked (keys_in zone) chain (key_in r)
  link r x = elim (last_or (λ k. IsClosed (ancestor r.name k)) (λ k. closed_or (ancestor r.name k)) (length r.name.labels)) [
    | inr none ↦ let a = at_name r.name (nsec_of_open r x none) in let l : IsLinked (keys_in zone) chain (key_in r) = record { by = nsec a.o; held = in_map nsec names a.o a.held; encloses = encloses_same r.name (nsec a.o).owner (same_back (nsec a.o).owner r.name a.owner); how = inl a.owner } in l
    | inl top ↦ by_top top
  ] where
    by_owner : (top : Last (λ k. IsClosed (ancestor r.name k)) (length r.name.labels)) (t : ℕ) → Owned zone (ancestor r.name top.k) t → IsLinked (keys_in zone) chain (key_in r)
    by_owner top t w =
        let c = ancestor r.name top.k in
        let left : length c.labels ≡ length r.name.labels - top.k = length-drop top.k r.name.labels in
        let as_long : length w.it.name.labels ≡ length c.labels = same_length w.it.name c w.named in
        let o = nsec_of_open w.it w.held (λ j above far h. top.highest (top.k + j) (omega (arith, above)) (omega (arith, far, left, as_long, top.within))
        (subst (λ (d : DomainName). IsClosed d) (above_ancestor r.name top.k j) (closed_alike (ancestor w.it.name j) (ancestor c j) (same_ancestors w.it.name c j w.named) h))) in
        let a = at_name w.it.name o in
        let at_c = same_trans (nsec a.o).owner w.it.name c a.owner w.named in
        record {
          by = nsec a.o;
          held = in_map nsec names a.o a.held;
          encloses = enclosing_trans (nsec a.o).owner.labels c.labels r.name.labels (encloses_same c (nsec a.o).owner (same_back (nsec a.o).owner c at_c)) (encloses_drop top.k r.name.labels);
          how = inr (closed_key (nsec a.o).owner (closed_alike c (nsec a.o).owner (same_back (nsec a.o).owner c at_c) top.is));
        }

    by_top : Last (λ k. IsClosed (ancestor r.name k)) (length r.name.labels) → IsLinked (keys_in zone) chain (key_in r)
    by_top top = elim top.is [
      | inl c ↦ by_owner top type_ns (owned zone (ancestor r.name top.k) type_ns c.servers)
      | inr d ↦ by_owner top type_dname (owned zone (ancestor r.name top.k) type_dname d.owner)
    ]

  -- the next name of each record is the owner of the one after it
  linked_next : (front : List DomainName) (o : DomainName) (rest : List DomainName) → names ≡ front ++ o ∷ rest → SameName (nsec o).next (next_owner zone.origin (map nsec rest))
  linked_next front o rest is = elim (same_or (nsec o).next (next_owner zone.origin (map nsec rest))) [
    | inl s ↦ s
    | inr differs ↦ absurd (unfound zone chain_kinds f kind.OtherNext (4, omega arith, refl) s.r s.held (f.signed, subst (λ (said : Option Nsec). MatchOption said ⊥ (λ n. ¬ (IsNext zone s.r.name n.next))) (sym s.says) (λ next. differs (by_next rest is next))))
  ] where
    held_o : Contains names o
    held_o = subst (λ os. Contains os o) (sym is) (Contains-append_right front (o ∷ rest) o (0, omega arith, refl))

    s : Says o
    s = says o (owns_at o held_o)

    later : (p : DomainName) → Owns zone p type_nsec → IsLaterOwner zone.records s.r.name p → (rest : List DomainName) → names ≡ front ++ o ∷ rest → HasName rest p
    later p owns l rest is =
        let a = at_name p owns in
        let after : IsBefore o a.o = before_alike s.r.name p o a.o s.named (same_back a.o p a.same) l.after in
        record { o = a.o; held = among_rest front o rest a.o (subst InOrder is (order_owners zone.records)) (subst (λ os. Contains os a.o) is a.held) after; same = a.same }

    ordered : (p : DomainName) (ps : List DomainName) → names ≡ front ++ o ∷ (p ∷ ps) → InOrder (o ∷ (p ∷ ps))
    ordered p ps is = at_front front (subst InOrder is (order_owners zone.records)) where
      at_front : (fs : List DomainName) → InOrder (fs ++ o ∷ (p ∷ ps)) → InOrder (o ∷ (p ∷ ps))
      at_front [] h = h
      at_front (g ∷ fs) h = at_front fs h.1

    held_p : (p : DomainName) (ps : List DomainName) → names ≡ front ++ o ∷ (p ∷ ps) → Contains names p
    held_p p ps is = subst (λ os. Contains os p) (sym is) (Contains-append_right front (o ∷ (p ∷ ps)) p (Contains-append_right (o ∷ []) (p ∷ ps) p (0, omega arith, refl)))

    later_p : (p : DomainName) (ps : List DomainName) → names ≡ front ++ o ∷ (p ∷ ps) → IsLaterOwner zone.records s.r.name p
    later_p p ps is = record { after = before_alike o p s.r.name p (same_back s.r.name o s.named) (itself p) (ordered p ps is).0.0; owner = owns_at p (held_p p ps is) }

    by_next : (rest : List DomainName) → names ≡ front ++ o ∷ rest → IsNext zone s.r.name (nsec o).next → SameName (nsec o).next (next_owner zone.origin (map nsec rest))
    by_next [] is (inl g) = absurd (none_in (later (nsec o).next g.later.owner g.later [] is)) where
      none_in : HasName [] (nsec o).next → ⊥
      none_in h = absurd (omega (arith, h.held.1))
    by_next [] is (inr top) = top.0
    by_next (p ∷ ps) is (inr top) = absurd (top.1 p (later_p p ps is))
    by_next (p ∷ ps) is (inl g) =
        let l = later (nsec o).next g.later.owner g.later (p ∷ ps) is in
        let sp = (says p (owns_at p (held_p p ps is))).owner in
        elim (head_or_in p ps l.o l.held) [
          | inl e ↦ same_back (nsec p).owner (nsec o).next (same_trans (nsec p).owner p (nsec o).next sp (subst (λ (q : DomainName). SameName q (nsec o).next) (sym e) l.same))
          | inr more ↦ absurd (g.first p (later_p p ps is) (before_alike p l.o p (nsec o).next (itself p) l.same (All-contains (IsBefore p) ps l.o (All-from_recursion (IsBefore p) ps (ordered p ps is).1.0) more)))
        ]

  linked_from : (front os : List DomainName) → names ≡ front ++ os → AreLinked zone.origin (map nsec os)
  linked_from front [] is = tt
  linked_from front (o ∷ os) is = (linked_next front o os is, linked_from (front ++ o ∷ []) os (is ∙ sym (append_assoc front (o ∷ []) os)))

  -- the apex has an NSEC record
  apex_owns : Owns zone zone.origin type_nsec
  apex_owns = elim (owns_or zone zone.origin type_soa) [
    | inr fails ↦ absurd (f.start fails)
    | inl h ↦ by_start (owned zone zone.origin type_soa h)
  ] where
    shorter : (r : Record RData) (k : ℕ) → SameName r.name zone.origin → 0 < k → k ≤ length r.name.labels → Encloses zone.origin.labels (ancestor r.name k).labels → ⊥
    shorter r k s above far e =
        let left : length (drop k r.name.labels) ≡ length r.name.labels - k = length-drop k r.name.labels in
        omega (arith, above, far, left, enclosing_length zone.origin.labels (drop k r.name.labels) e, same_length r.name zone.origin s)

    by_start : Owned zone zone.origin type_soa → Owns zone zone.origin type_nsec
    by_start w = owns_alike zone w.it.name zone.origin w.named type_nsec (nsec_of_open w.it w.held (λ k above far h. elim h [
      | inl c ↦ shorter w.it k w.named above far c.below.within
      | inr d ↦ shorter w.it k w.named above far d.within
    ]))

  top_by : (os : List DomainName) → InOrder os → HasName os zone.origin → ((o : DomainName) → Contains os o → Contains names o) → SameName (next_owner zone.origin (map nsec os)) zone.origin
  top_by [] ordered h all = absurd (omega (arith, h.held.1))
  top_by (o ∷ os) ordered h all =
      let so = says o (owns_at o (all o (0, omega arith, refl))) in
      elim (head_or_in o os h.o h.held) [
        | inl e ↦ same_trans (nsec o).owner o zone.origin so.owner (subst (λ (q : DomainName). SameName q zone.origin) (sym e) h.same)
        | inr more ↦ absurd (not_both o zone.origin (before_alike o h.o o zone.origin (itself o) h.same (All-contains (IsBefore o) os h.o (All-from_recursion (IsBefore o) os ordered.0) more))
            (encloses_up_to zone.origin o f.apex (sym so.named.marks ∙ f.qualified so.r so.held) (enclosed_same zone.origin.labels so.r.name o (same_back so.r.name o so.named) (within so.r so.held))))
      ]

  -- a record of the chain is that of an owner
  record OfName (n : Nsec) : Type 0 where
    o : DomainName
    held : Contains names o
    is : nsec o ≡ n

  of_name : (n : Nsec) → Contains chain n → OfName n
  of_name n x = let m = from_map nsec names n x in record { o = m.it; held = m.held; is = m.is }

  listed_by : (a b : DomainName) (t : ℕ) → SameName a b → keys.IsListed (keys_in zone) a t → IsListed zone b t
  listed_by a b t s (inl uncut) = inr (λ c. uncut (cut_key a (cut_alike zone b a (same_back a b s) c)))
  listed_by a b t s (inr (inl e)) = inl (subst (λ (u : ℕ). is_type_at_cut u ≡ true) (sym e) refl)
  listed_by a b t s (inr (inr (inl e))) = inl (subst (λ (u : ℕ). is_type_at_cut u ≡ true) (sym e) refl)
  listed_by a b t s (inr (inr (inr (inl e)))) = inl (subst (λ (u : ℕ). is_type_at_cut u ≡ true) (sym e) refl)
  listed_by a b t s (inr (inr (inr (inr e)))) = inl (subst (λ (u : ℕ). is_type_at_cut u ≡ true) (sym e) refl)

  types_at : (o : DomainName) (t : ℕ) → Contains names o → keys.IsListed (keys_in zone) (nsec o).owner t → Contains (nsec o).types t ↔ HasSet (keys_in zone) (nsec o).owner t
  types_at o t held listed = (forth, back) where
    s : Says o
    s = says o (owns_at o held)

    forth : Contains (nsec o).types t → HasSet (keys_in zone) (nsec o).owner t
    forth x = elim (owns_or zone s.r.name t) [
      | inl h ↦ has_set (nsec o).owner t (owns_alike zone s.r.name (nsec o).owner (same_trans s.r.name o (nsec o).owner s.named (same_back (nsec o).owner o s.owner)) t h)
      | inr fails ↦ absurd (unfound zone chain_kinds f kind.IdleType (5, omega arith, refl) s.r s.held (f.signed, subst (λ (said : Option Nsec). MatchOption said ⊥ (λ n. HasIdleType zone s.r.name n.types)) (sym s.says) (record { t = t; listed = x; idle = inl fails })))
    ]

    back : HasSet (keys_in zone) (nsec o).owner t → Contains (nsec o).types t
    back h = elim (in_or (nsec o).types t) [
      | inl x ↦ x
      | inr fails ↦ by_record (owned zone (nsec o).owner t (owns_of (nsec o).owner t h)) fails
    ] where
      by_record : Owned zone (nsec o).owner t → ¬ (Contains (nsec o).types t) → Contains (nsec o).types t
      by_record w fails =
          let at : nsec_at zone w.it.name ≡ Some (nsec o) = ap (option_and_then nsec_of) (first_alike zone.records w.it.name o type_nsec (same_trans w.it.name (nsec o).owner o w.named s.owner)) ∙ s.first in
          absurd (unfound zone chain_kinds f kind.Unlisted (6, omega arith, refl) w.it w.held (
            f.signed,
            record {
              listed = subst (IsListed zone w.it.name) (sym w.typed) (listed_by (nsec o).owner w.it.name t (same_back w.it.name (nsec o).owner w.named) listed);
              missing = subst (λ (said : Option Nsec). MatchOption said ⊥ (λ n. ¬ (Contains n.types (type_of w.it.rdata)))) (sym at) (subst (λ (u : ℕ). ¬ (Contains (nsec o).types u)) (sym w.typed) fails);
            },
          ))

  apex_at : (o : DomainName) → Contains names o → HasSet (keys_in zone) (nsec o).owner type_soa ↔ SameName (nsec o).owner zone.origin
  apex_at o held = (λ h. by_record (owned zone (nsec o).owner type_soa (owns_of (nsec o).owner type_soa h)), λ same. by_start same) where
    by_record : Owned zone (nsec o).owner type_soa → SameName (nsec o).owner zone.origin
    by_record w = elim (enclosed_or w.it.name.labels zone.origin.labels) [
      | inl e ↦ same_trans (nsec o).owner w.it.name zone.origin (same_back w.it.name (nsec o).owner w.named) (record { labels = both_enclose w.it.name.labels zone.origin.labels e (within w.it w.held); marks = f.qualified w.it w.held ∙ sym f.apex })
      | inr fails ↦ absurd (unfound zone chain_kinds f kind.SoaBelowApex (1, omega arith, refl) w.it w.held (record { typed = w.typed; below = record { within = within w.it w.held; other = fails } }))
    ]

    by_start : SameName (nsec o).owner zone.origin → HasSet (keys_in zone) (nsec o).owner type_soa
    by_start same = elim (owns_or zone zone.origin type_soa) [
      | inr fails ↦ absurd (f.start fails)
      | inl h ↦ has_set (nsec o).owner type_soa (owns_alike zone zone.origin (nsec o).owner (same_back (nsec o).owner zone.origin same) type_soa h)
    ]

  all_qualified : (n : Nsec) → Contains chain n → n.owner.is_fqdn ≡ true
  all_qualified n x =
      let a = of_name n x in
      let s = says a.o (owns_at a.o a.held) in
      subst (λ (m : Nsec). m.owner.is_fqdn ≡ true) a.is (s.owner.marks ∙ sym s.named.marks ∙ f.qualified s.r s.held)

  each_qualified : (ns : List Nsec) → ((n : Nsec) → Contains ns n → n.owner.is_fqdn ≡ true) → AllByRecursion (λ (n : Nsec). n.owner.is_fqdn ≡ true) ns
  each_qualified [] all = tt
  each_qualified (n ∷ ns) all = (all n (0, omega arith, refl), each_qualified ns (λ m x. all m (Contains-append_right (n ∷ []) ns m x)))

  each_link : (key : RrKey) → Contains (keys_in zone).keys key → IsLinked (keys_in zone) chain key
  each_link key x = let m = from_map key_in zone.records key x in subst (IsLinked (keys_in zone) chain) m.is (link m.it m.held)

  is_chained : IsChained (keys_in zone) chain
  is_chained = record {
    is_chain = record {
      qualified = All-from_recursion (λ (n : Nsec). n.owner.is_fqdn ≡ true) chain (each_qualified chain all_qualified);
      ascending = ascending nsec names (order_owners zone.records) (all_owned names all_own);
      linked = linked_from [] names refl;
      top = top_by names (order_owners zone.records) (let a = at_name zone.origin apex_owns in record { o = a.o; held = a.held; same = a.same }) (λ o x. x);
    };
    complete = each_link;
    owners = λ n x. let a = of_name n x in let s = says a.o (owns_at a.o a.held) in
        subst (λ (m : Nsec). HasSet (keys_in zone) m.owner type_nsec) a.is (has_set (nsec a.o).owner type_nsec (owns_alike zone a.o (nsec a.o).owner (same_back (nsec a.o).owner a.o s.owner) type_nsec (owns_at a.o a.held)));
    types = λ n t x listed. let a = of_name n x in subst (λ (m : Nsec). keys.IsListed (keys_in zone) m.owner t → Contains m.types t ↔ HasSet (keys_in zone) m.owner t) a.is (types_at a.o t a.held) listed;
    apex = λ n x. let a = of_name n x in subst (λ (m : Nsec). HasSet (keys_in zone) m.owner type_soa ↔ SameName m.owner zone.origin) a.is (apex_at a.o a.held);
  }

  is_said : (n : Nsec) → Contains chain n → IsSaid zone n
  is_said n x =
      let a = of_name n x in
      let s = says a.o (owns_at a.o a.held) in
      record { r = s.r; held = s.held; says = s.says ∙ ap Some a.is }

  pub chained : (ns : List Nsec) × IsChained (keys_in zone) ns × ((n : Nsec) → Contains ns n → IsSaid zone n)
  chained = (chain, is_chained, is_said)

pub faultless_zones_are_chained : FaultlessZonesAreChained
faultless_zones_are_chained zone f unhashed = chained zone f unhashed
