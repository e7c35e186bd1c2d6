-- What a signed zone shows proves what it claims.
use Rattle.std.proofs.Common.{◌≡◌, ◌==◌, ℕ, zero, suc, ◌+◌, ◌<◌, ◌≤◌, true, List, [], ◌∷◌, ◌++◌, length, length-append, Option, Some, None, inl, inr, refl, sym, ap, subst, ◌∙◌, arith}
use Rattle.std.specs.Prelude.{◌⊎◌}
use Rattle.std.specs.List.{Contains}
use Rattle.std.specs.Map.{keys_of}
use Rattle.std.specs.Option.{option_map, option_to_list}
use Rattle.std.specs.declared.cmp.Ordering.{Ordering}
use Rattle.std.specs.declared.cmp.Ordering.TheVariants.{Less, Equal, Greater}
use Rattle.std.proofs.lemmas.Bool.{cases_lt}
use Rattle.std.proofs.lemmas.List.{length-drop, length-map}
use Rattle.std.proofs.lemmas.List.Elements.{All-contains, Contains-append_right}
use Rattle.wire_names.specs.rr.domain.DomainName.{DomainName}
use Rattle.wire_names.specs.rr.domain.NameOrder.{Encloses, SameName, lower_label, lower_labels, name_cmp}
use Rattle.wire_messages.specs.Numbers.{type_any, type_cname, type_dname, type_ds, type_ns}
use Rattle.wire_messages.specs.declared.rr.rr_key.RrKey.{RrKey}
use Rattle.hickory_base.specs.zone_store.ZoneAnswers.{records_at}
use Rattle.zone_answers.proofs.lemmas.names.Enclosers.{ancestor-ancestor}
use Rattle.zone_answers.proofs.lemmas.zones.Outcomes.{closest_once, encloser_within}
use Rattle.zone_answers.specs.Zones as zones
use Rattle.zone_answers.specs.Zones.{Answers, AnswersDirectly, Delegates, Exists, HasClosestEncloser, IsAuthoritativeAt, IsCut, Outcome, Records, Redirects, Sets, Zone, at_node, by_wildcard, rrset}
use Rattle.zone_denials.proofs.lemmas.EnclosedBetween.{encloses_up_to, equal_of, same_of}
use Rattle.zone_denials.proofs.lemmas.NsecChains.{encloses_drop, encloses_same, shows_empty, shows_encloser, shows_missing}
use Rattle.zone_denials.proofs.lemmas.SignedZones as signed
use Rattle.zone_denials.proofs.lemmas.SignedZones.{at_ancestor, cut_same, empty_names_are_proved, front_within, same_trans, set_same, wild_types_are_denied}
use Rattle.zone_denials.specs.Nsec.{Claim, Nsec, Proves, ShowsEncloser, ShowsMissing, ancestor, no_type, unsigned, wild_empty, wildcard}
use Rattle.zone_denials.specs.Nsec as nsec
use Rattle.zone_denials.specs.NsecChain.{IsLastBefore, IsNamed, next_owner}
use Rattle.zone_denials.specs.SignedZone as keys
use Rattle.zone_denials.specs.SignedZone.{HasSet, IsChained, IsClosed, IsOwn}
use Rattle.zone_denials.specs.SignedZoneLaws.{IsEmpty, IsSynthesized, Lacks}
use Rattle.signed_answers.proofs.lemmas.NsecsInOrder.{at_owner, first_in, in_chain, key_in, last_before, said_owner, source, source_owner}
use Rattle.signed_answers.proofs.lemmas.ZoneAnswersShown.{alias_by, by_any, cut_of, direct_by, encloser_of, exists_in, exists_of, key_cut, lack_not, missing_by, name_errors_are_proved, no_data_is_proved, no_dname_above, none_set, own_of, referrals_are_proved, wild_aliases_are_proved, wild_answers_are_proved, wild_by}
use Rattle.signed_answers.specs.NsecSets.{IsNsecFor, IsUpTo, NsecFor, Rrset, chain_in, said}
use Rattle.signed_answers.specs.ShownSets as shown
use Rattle.signed_answers.specs.ShownSets.{Claims, ShowsMissing as MissingIsShown, ShownSetsProve, Shows, all_said}
use Rattle.signed_answers.specs.ZoneAnswers.{IsAsked, keys_in}

put_name : (o w : Option Rrset) (e : Rrset) → o ≡ Some e → Contains (all_said o w) (said e)
put_name o w e is = subst (λ (p : Option Rrset). Contains (all_said p w) (said e)) (sym is) (first_in (said e) (option_to_list (option_map said w)))

put_wild : (o w : Option Rrset) (e : Rrset) → w ≡ Some e → Contains (all_said o w) (said e)
put_wild o w e is = Contains-append_right (option_to_list (option_map said o)) (option_to_list (option_map said w)) (said e) (subst (λ (p : Option Rrset). Contains (option_to_list (option_map said p)) (said e)) (sym is) (first_in (said e) []))

decide_same : (a b : DomainName) → SameName a b ⊎ ¬ (SameName a b)
decide_same a b = by_order (name_cmp a b) refl where
  not_less : name_cmp a b ≡ Less → SameName a b → ⊥
  not_less e s = absurd (unequal (sym e ∙ equal_of a b s)) where
    unequal : Less ≡ Equal → ⊥
    unequal e = cc

  not_greater : name_cmp a b ≡ Greater → SameName a b → ⊥
  not_greater e s = absurd (unequal (sym e ∙ equal_of a b s)) where
    unequal : Greater ≡ Equal → ⊥
    unequal e = cc

  by_order : (o : Ordering) → name_cmp a b ≡ o → SameName a b ⊎ ¬ (SameName a b)
  by_order Less e = inr (not_less e)
  by_order Equal e = inl (same_of a b e)
  by_order Greater e = inr (not_greater e)

-- There is an NSEC RRset for the name.
pub record Has (sets : Sets) (name : DomainName) (o : Option Rrset) : Type 0 where
  pub set : Rrset
  pub is : o ≡ Some set
  pub at : IsNsecFor sets name set

-- a name that owns records exists
exists_at : (sets : Sets) (e : Rrset) (name : DomainName) → Contains sets e → SameName e.0.name name → Exists sets name
exists_at sets e name held s = record { owner = e.0; held = key_in sets e held; at_or_below = encloses_same e.0.name name s }

up_ancestor : (name : DomainName) (k j : ℕ) → ancestor (ancestor name k) j ≡ ancestor name (k + j)
up_ancestor name k j = ancestor-ancestor name j k

-- what encloses a name encloses its wildcard
wild_within : (labels : List (List ℕ)) (name : DomainName) → Encloses labels name.labels → Encloses labels (wildcard name).labels
wild_within labels name e = record { front = lower_label (42 ∷ []) ∷ e.front; ends = ap (λ (ls : List (List ℕ)). lower_label (42 ∷ []) ∷ ls) e.ends }

-- and is not that wildcard
not_wild : (name origin : DomainName) → Encloses origin.labels name.labels → ¬ (SameName (wildcard name) origin)
not_wild name origin e s =
    absurd (omega (arith, ap length s.labels, ap length e.ends, length-append e.front (lower_labels origin.labels), length-map name.labels lower_label, length-map origin.labels lower_label, length-map (wildcard name).labels lower_label))

module _ (zone : Zone) (chained : IsChained (keys_in zone) (chain_in zone.sets)) where
  abbrev chain : List Nsec
  chain = chain_in zone.sets

  record First : Type 0 where
    at : Nsec
    held : Contains chain at
    top : SameName at.owner zone.origin

  first_of : (ns : List Nsec) (m : Nsec) → Contains ns m → (n : Nsec) × Contains ns n × (n.owner ≡ next_owner zone.origin ns)
  first_of [] m h = absurd (omega (arith, h.1))
  first_of (n ∷ ns) m h = (n, first_in n ns, refl)

  -- the chain begins at the apex, if the zone has a key
  first : (key : RrKey) → Contains (keys_of zone.sets) key → First
  first key held =
      let l = chained.complete key held in
      let n = first_of chain l.by l.held in
      record { at = n.0; held = n.1; top = subst (λ (d : DomainName). SameName d zone.origin) (sym n.2) chained.is_chain.top }

  marked : (n : Nsec) → Contains chain n → n.owner.is_fqdn ≡ true
  marked n h = All-contains (λ (q : Nsec). q.owner.is_fqdn ≡ true) chain n chained.is_chain.qualified h

  -- for each name of the zone there is an NSEC RRset, that of the apex at least
  has : (name : DomainName) → name.is_fqdn ≡ true → Encloses zone.origin.labels name.labels → First → (o : Option Rrset) → NsecFor zone.sets name o → Has zone.sets name o
  has name qualified within f (Some e) at = record { set = e; is = refl; at = at }
  has name qualified within f None none =
      let s = source zone.sets f.at f.held in
      let of : s.set.0.name ≡ f.at.owner = source_owner zone.sets f.at s in
      let above : Encloses f.at.owner.labels name.labels = record { front = within.front; ends = within.ends ∙ ap (λ (ls : List (List ℕ)). within.front ++ ls) (sym f.top.labels) } in
      absurd (none s.set s.held s.nsec (subst (λ (d : DomainName). IsUpTo d name) (sym of) (encloses_up_to f.at.owner name (marked f.at f.held) qualified above)))

  -- above a name the zone is not cut, and nothing redirects
  record IsFree (name : DomainName) : Type 0 where
    uncut : (k : ℕ) → 0 < k → ¬ (keys.IsCut (keys_in zone) (ancestor name k))
    undirected : (k : ℕ) → 0 < k → k ≤ length name.labels → ¬ (HasSet (keys_in zone) (ancestor name k) type_dname)

  module _ (name : DomainName) (qualified : name.is_fqdn ≡ true) (free : IsFree name) where
    by_front : (m : Nsec) (x : Contains chain m) (e : Encloses m.owner.labels name.labels) → IsClosed (keys_in zone) m.owner → (front : List (List ℕ)) → e.front ≡ front → SameName m.owner name
    by_front m x e closed [] is = record { labels = sym (e.ends ∙ ap (λ (f : List (List ℕ)). f ++ lower_labels m.owner.labels) is); marks = marked m x ∙ sym qualified }
    by_front m x e closed (f ∷ fs) is =
        let some : 0 < length e.front = subst (λ (ls : List (List ℕ)). 0 < length ls) (sym is) (omega arith) in
        let at : SameName m.owner (ancestor name (length e.front)) = at_ancestor m.owner name (marked m x ∙ sym qualified) e in
        absurd (elim closed [
          | inl cut ↦ free.uncut (length e.front) some (cut_same (keys_in zone) m.owner (ancestor name (length e.front)) at cut)
          | inr dname ↦ free.undirected (length e.front) some (front_within m.owner name e) (set_same (keys_in zone) m.owner (ancestor name (length e.front)) type_dname at dname)
        ])

    -- an owner name of the zone's own, or a cut, has a record of the chain
    linked : (t : ℕ) → HasSet (keys_in zone) name t → (n : Nsec) × Contains chain n × SameName n.owner name
    linked t h =
        let l = chained.complete h.key h.held in
        let above : Encloses l.by.owner.labels name.labels = record { front = l.encloses.front; ends = sym h.named.labels ∙ l.encloses.ends } in
        elim l.how [
          | inl s ↦ (l.by, l.held, same_trans l.by.owner h.key.name name s h.named)
          | inr closed ↦ (l.by, l.held, by_front l.by l.held above closed above.front refl)
        ]

    -- and its NSEC RRset is at the name
    at_name : (e : Rrset) (t : ℕ) → IsNsecFor zone.sets name e → HasSet (keys_in zone) name t → SameName e.0.name name
    at_name e t at h = let n = linked t h in at_owner zone.sets name e n.0 at n.1 n.2

  free_of : (name : DomainName) → IsOwn (keys_in zone) name → IsFree name
  free_of name own = record { uncut = λ k above. own.uncut k; undirected = own.undirected }

  last : (name : DomainName) (e : Rrset) → IsNsecFor zone.sets name e → ¬ (SameName e.0.name name) → IsLastBefore chain name (said e)
  last name e at differs = last_before zone.sets name e chained.is_chain.ascending at differs

  held_at : (name : DomainName) (e : Rrset) → IsNsecFor zone.sets name e → Contains chain (said e)
  held_at name e at = in_chain zone.sets e at.held at.nsec

  named_at : (name : DomainName) (e : Rrset) → SameName e.0.name name → SameName (said e).owner name
  named_at name e s = subst (λ (d : DomainName). SameName d name) (sym (said_owner e)) s

  apart : (name : DomainName) (e : Rrset) → IsNsecFor zone.sets name e → ¬ (Exists zone.sets name) → ¬ (SameName e.0.name name)
  apart name e at none s = none (exists_at zone.sets e name at.held s)

  -- a name of the zone's own that exists, with no NSEC RRset of its own, owns nothing
  empty_of : (name : DomainName) (e : Rrset) → name.is_fqdn ≡ true → IsOwn (keys_in zone) name → Exists zone.sets name → IsNsecFor zone.sets name e → ¬ (SameName e.0.name name) → IsEmpty (keys_in zone) name
  empty_of name e qualified own x at differs = record {
    qualified = qualified;
    own = own;
    exists = exists_of zone name x;
    owns_none = λ t h. differs (at_name name qualified (free_of name own) e t at h);
  }

  differing : (name : DomainName) → ¬ (Exists zone.sets name) → (m : Nsec) → Contains chain m → ¬ (SameName m.owner name)
  differing name none m x s = none (exists_in zone name (signed.exists_of (keys_in zone) chain chained name (record { at = m; held = x; at_or_below = encloses_same m.owner name s })))

  unnamed : (name : DomainName) → ¬ (Exists zone.sets name) → ¬ (IsNamed chain name.labels)
  unnamed name none x = none (exists_in zone name (signed.exists_of (keys_in zone) chain chained name x))

  missing_shown : (name : DomainName) (k : ℕ) (n : Nsec) → IsSynthesized (keys_in zone) name k → ¬ (Exists zone.sets name) → IsLastBefore chain name n → ShowsMissing zone.origin n name × ShowsEncloser n name k
  missing_shown name k n d none before =
      let differ = differing name none in (
        shows_missing zone.origin name chain chained.is_chain d.qualified n before (unnamed name none) (signed.is_open (keys_in zone) chain chained name d.qualified d.own differ),
        shows_encloser zone.origin name chain chained.is_chain d.qualified n before k (signed.encloser_of (keys_in zone) chain chained name d.qualified d.own differ k d.encloser),
      )

  -- an empty wildcard
  wild_empty_shown : (put : List Nsec) (name : DomainName) (k t : ℕ) (e w : Rrset) → IsSynthesized (keys_in zone) name k → ¬ (Exists zone.sets name) → IsEmpty (keys_in zone) (wildcard (ancestor name k))
      → IsLastBefore chain name (said e) → IsLastBefore chain (wildcard (ancestor name k)) (said w) → Contains put (said e) → Contains put (said w) → Proves zone.origin put name (no_type t)
  wild_empty_shown put name k t e w d none m before wild_before in_put wild_put =
      let source = wildcard (ancestor name k) in
      let h = missing_shown name k (said e) d none before in
      let differ : (n : Nsec) → Contains chain n → ¬ (SameName n.owner source) = λ n x s. m.owns_none 47 (set_same (keys_in zone) n.owner source 47 s (chained.owners n x)) in
      wild_empty in_put wild_put h.0 h.1
      (shows_empty zone.origin source chain chained.is_chain m.qualified (said w) wild_before (signed.named_of (keys_in zone) chain chained source m.qualified m.own differ source (encloses_drop 0 source.labels) m.exists) differ
      (signed.is_open (keys_in zone) chain chained source m.qualified m.own differ))

-- What there is if a name that exists lacks a type: the zone's own authority, or a cut.
data Place (zone : Zone) (name : DomainName) : Type 0 where
  at_own : IsAuthoritativeAt zone name → Place zone name
  at_cut : Delegates zone name 0 → Place zone name

place_by : (zone : Zone) (name : DomainName) (t : ℕ) (o : Outcome) → Exists zone.sets name → AnswersDirectly zone name t o → o ≡ zones.no_data → Place zone name
place_by zone name t o x (zones.delegated {k} {servers} d ds is) e = absurd (lack_not (zones.referral servers) refl e)
place_by zone name t o x (zones.at_cut d ds) e = at_cut d
place_by zone name t o x (zones.matched auth y) e = at_own auth
place_by zone name t o x (zones.wild {k} auth none enc y) e = absurd (none x)
place_by zone name t o x (zones.denied auth none no_wild) e = absurd (none x)

wild_lack : (o : Outcome) → by_wildcard o ≡ zones.no_data → o ≡ zones.no_data
wild_lack (zones.answer rs) e = absurd (lack_not (zones.wild_answer rs) refl e)
wild_lack (zones.alias rs) e = absurd (lack_not (zones.wild_alias rs) refl e)
wild_lack (zones.wild_answer rs) e = e
wild_lack (zones.wild_alias rs) e = e
wild_lack (zones.referral rs) e = e
wild_lack zones.no_data e = e
wild_lack zones.no_name e = e
wild_lack (zones.redirection k rs) e = e

-- What there is if a wildcard that stands for a name lacks a type.
record WildLack (zone : Zone) (name : DomainName) (t k : ℕ) : Type 0 where
  auth : IsAuthoritativeAt zone name
  exists : Exists zone.sets (wildcard (ancestor name k))
  lacks : at_node zone.sets (wildcard (ancestor name k)) t ≡ zones.no_data

cut_exists : (zone : Zone) (name : DomainName) → IsCut zone name → Exists zone.sets name
cut_exists zone name c = let h = (key_cut zone name c).servers in record { owner = h.key; held = h.held; at_or_below = encloses_same h.key.name name h.named }

wild_lack_by : (zone : Zone) (name : DomainName) (t k : ℕ) (o : Outcome) → ¬ (Exists zone.sets name) → HasClosestEncloser zone.sets name k → AnswersDirectly zone name t o → o ≡ zones.no_data → WildLack zone name t k
wild_lack_by zone name t k o none enc (zones.delegated {k = j} {servers} d ds is) e = absurd (lack_not (zones.referral servers) refl e)
wild_lack_by zone name t k o none enc (zones.at_cut d ds) e = absurd (none (cut_exists zone name d.cut))
wild_lack_by zone name t k o none enc (zones.matched auth y) e = absurd (none y)
wild_lack_by zone name t k o none enc (zones.wild {k = j} auth n c y) e = subst (WildLack zone name t) (closest_once zone.sets name j k c enc) (record { auth = auth; exists = y; lacks = wild_lack (at_node zone.sets (wildcard (ancestor name j)) t) e })
wild_lack_by zone name t k o none enc (zones.denied auth n no_wild) e = absurd (lack_not zones.no_name refl e)

no_encloser : (zone : Zone) (name : DomainName) (t : ℕ) (o : Outcome) → ¬ (Exists zone.sets name) → ((k : ℕ) → ¬ (Exists zone.sets (ancestor name k))) → AnswersDirectly zone name t o → o ≡ zones.no_data → ⊥
no_encloser zone name t o none nowhere (zones.delegated {k = j} {servers} d ds is) e = lack_not (zones.referral servers) refl e
no_encloser zone name t o none nowhere (zones.at_cut d ds) e = none (cut_exists zone name d.cut)
no_encloser zone name t o none nowhere (zones.matched auth y) e = none y
no_encloser zone name t o none nowhere (zones.wild {k = j} auth n c y) e = nowhere j c.exists
no_encloser zone name t o none nowhere (zones.denied auth n no_wild) e = lack_not zones.no_name refl e

cut_once : (zone : Zone) (name : DomainName) (j k : ℕ) → Delegates zone name j → Delegates zone name k → j ≡ k
cut_once zone name j k a b = elim (cases_lt j k) [
  | inl less ↦ absurd (a.highest k less b.cut)
  | inr more ↦ elim (cases_lt k j) [ inl greater ↦ absurd (b.highest j greater a.cut) | inr same ↦ omega arith ]
]

module _ (zone : Zone) (name : DomainName) (t : ℕ) (asked : IsAsked zone name) (chained : IsChained (keys_in zone) (chain_in zone.sets)) where
  first_by : (x : DomainName) → Exists zone.sets x → First zone chained
  first_by x h = first zone chained h.owner h.held

  in_wild : (k : ℕ) → HasClosestEncloser zone.sets name k → Encloses zone.origin.labels (wildcard (ancestor name k)).labels
  in_wild k enc = wild_within zone.origin.labels (ancestor name k) (encloser_within zone name k asked.owners asked.within enc)

  own_by : IsAuthoritativeAt zone name → ((k : ℕ) → ¬ (Redirects zone name k)) → IsOwn (keys_in zone) name
  own_by auth undirected = own_of zone asked.apex asked.owners name auth undirected

  -- above a cut, or a name that is not cut above
  free_above : (k : ℕ) → ((j : ℕ) → k < j → ¬ (IsCut zone (ancestor name j))) → ((j : ℕ) → ¬ (Redirects zone name j)) → IsFree zone chained (ancestor name k)
  free_above k uncut undirected = record {
    uncut = λ j above c. uncut (k + j) (omega arith) (cut_of zone asked.apex asked.owners (ancestor name (k + j)) (subst (keys.IsCut (keys_in zone)) (up_ancestor name k j) c));
    undirected = λ j above near h. undirected_at j above near (subst (λ (d : DomainName). HasSet (keys_in zone) d type_dname) (up_ancestor name k j) h);
  } where
    undirected_at : (j : ℕ) → 0 < j → j ≤ length (ancestor name k).labels → ¬ (HasSet (keys_in zone) (ancestor name (k + j)) type_dname)
    undirected_at j above near = no_dname_above zone asked.apex asked.owners name k uncut undirected (k + j) (omega arith) (omega (arith, near, length-drop k name.labels))

  names : (e w : Option Rrset) → Answers zone name t zones.no_name → MissingIsShown zone.sets name e w → (j : ℕ) → HasClosestEncloser zone.sets name j → Proves zone.origin (all_said e w) name nsec.no_name
  names e w answers (shown.nowhere none) j enc = absurd (none j enc.exists)
  names e w answers (shown.below {k} c of of_wild) j enc =
      let d = direct_by zone name t zones.no_name zones.no_name answers refl refl in
      let g = missing_by zone name t zones.no_name d.answers refl in
      let f = first_by (ancestor name k) c.exists in
      let wild = wildcard (ancestor name k) in
      let h = has zone chained name asked.qualified asked.within f e of in
      let hw = has zone chained wild asked.qualified (in_wild k c) f w of_wild in
      name_errors_are_proved zone (chain_in zone.sets) (all_said e w) name t k (said h.set) (said hw.set) asked answers c chained
      (last zone chained name h.set h.at (apart zone chained name h.set h.at g.none)) (last zone chained wild hw.set hw.at (apart zone chained wild hw.set hw.at (g.no_wildcard k c)))
      (put_name e w h.set h.is) (put_wild e w hw.set hw.is)

  -- a name that exists
  types : (e : Option Rrset) → ¬ (t ≡ type_any) → (t ≡ type_ds → ¬ (SameName name zone.origin)) → Answers zone name t zones.no_data → Exists zone.sets name → NsecFor zone.sets name e → Proves zone.origin (all_said e None) name (no_type t)
  types e one below answers x of =
      let d = direct_by zone name t zones.no_data zones.no_data answers refl refl in
      let h = has zone chained name asked.qualified asked.within (first_by name x) e of in
      elim (decide_same h.set.0.name name) [
        | inl s ↦ no_data_is_proved zone (chain_in zone.sets) (all_said e None) name t (said h.set) asked one below answers x chained (held_at zone chained name h.set h.at) (named_at zone chained name h.set s) (put_name e None h.set h.is)
        | inr differs ↦ by_place d.undirected h differs (place_by zone name t zones.no_data x d.answers refl)
      ] where
        by_place : ((k : ℕ) → ¬ (Redirects zone name k)) → (h : Has zone.sets name e) → ¬ (SameName h.set.0.name name) → Place zone name → Proves zone.origin (all_said e None) name (no_type t)
        by_place undirected h differs (at_own auth) =
            let m = empty_of zone chained name h.set asked.qualified (own_by auth undirected) x h.at differs in
            empty_names_are_proved (keys_in zone) (chain_in zone.sets) (all_said e None) name t (said h.set) chained m (last zone chained name h.set h.at differs) (put_name e None h.set h.is)
        by_place undirected h differs (at_cut cut) =
            absurd (differs (at_name zone chained name asked.qualified (free_above 0 cut.highest undirected) h.set type_ns h.at (key_cut zone name cut.cut).servers))

  -- the wildcard of a name of the zone's own is one too, if it is no cut
  own_wild : (k : ℕ) → HasClosestEncloser zone.sets name k → ¬ (Exists zone.sets name) → IsOwn (keys_in zone) name → ¬ (IsCut zone (wildcard (ancestor name k))) → IsOwn (keys_in zone) (wildcard (ancestor name k))
  own_wild k c none own no_cut = record { uncut = uncut; undirected = undirected } where
    above : 0 < k
    above = by_count k c.exists where
      by_count : (j : ℕ) → Exists zone.sets (ancestor name j) → 0 < j
      by_count zero x = absurd (none x)
      by_count (suc j) x = omega arith

    near : k ≤ length name.labels
    near = signed.encloser_within (keys_in zone) name k (encloser_of zone name k c)

    uncut : (j : ℕ) → ¬ (keys.IsCut (keys_in zone) (ancestor (wildcard (ancestor name k)) j))
    uncut zero cut = no_cut (cut_of zone asked.apex asked.owners (wildcard (ancestor name k)) cut)
    uncut (suc j) cut = own.uncut (k + j) (subst (keys.IsCut (keys_in zone)) (up_ancestor name k j) cut)

    undirected : (j : ℕ) → 0 < j → j ≤ length (wildcard (ancestor name k)).labels → ¬ (HasSet (keys_in zone) (ancestor (wildcard (ancestor name k)) j) type_dname)
    undirected zero less within h = absurd (omega arith)
    undirected (suc j) less within h = own.undirected (k + j) (omega (arith, above)) (omega (arith, within, near, length-drop k name.labels)) (subst (λ (d : DomainName). HasSet (keys_in zone) d type_dname) (up_ancestor name k j) h)

  -- a wildcard
  wild_types : (e w : Option Rrset) → ¬ (t ≡ type_any) → ((k : ℕ) → HasClosestEncloser zone.sets name k → ¬ (IsCut zone (wildcard (ancestor name k)))) → Answers zone name t zones.no_data → ¬ (Exists zone.sets name) → MissingIsShown zone.sets name e w
      → Proves zone.origin (all_said e w) name (no_type t)
  wild_types e w one uncut answers none (shown.nowhere nowhere) = absurd (no_encloser zone name t zones.no_data none nowhere (direct_by zone name t zones.no_data zones.no_data answers refl refl).answers refl)
  wild_types e w one uncut answers none (shown.below {k} c of of_wild) =
      let d = direct_by zone name t zones.no_data zones.no_data answers refl refl in
      let g = wild_lack_by zone name t k zones.no_data none c d.answers refl in
      let wild = wildcard (ancestor name k) in
      let f = first_by wild g.exists in
      let h = has zone chained name asked.qualified asked.within f e of in
      let hw = has zone chained wild asked.qualified (in_wild k c) f w of_wild in
      let own = own_by g.auth d.undirected in
      let synthesized : IsSynthesized (keys_in zone) name k = record { qualified = asked.qualified; own = own; missing = λ x. none (exists_in zone name x); encloser = encloser_of zone name k c } in
      let wild_own = own_wild k c none own (uncut k c) in
      let before = last zone chained name h.set h.at (apart zone chained name h.set h.at none) in
      elim (decide_same hw.set.0.name wild) [
        | inl s ↦
            let neither = by_any zone.sets wild t (zones.any_of (records_at wild zone.sets)) (t == type_any) refl one g.lacks in
            let lacks : Lacks (keys_in zone) wild t = record {
              of_zone = inl wild_own;
              none = none_set zone asked.apex asked.owners wild t neither.none;
              no_alias = none_set zone asked.apex asked.owners wild type_cname neither.no_alias;
              below_apex = λ ds. not_wild (ancestor name k) zone.origin (encloser_within zone name k asked.owners asked.within c);
            } in
            wild_types_are_denied (keys_in zone) (chain_in zone.sets) (all_said e w) name k t (said h.set) (said hw.set) chained synthesized lacks before (held_at zone chained wild hw.set hw.at) (named_at zone chained wild hw.set s)
            (put_name e w h.set h.is) (put_wild e w hw.set hw.is)
        | inr differs ↦
            wild_empty_shown zone chained (all_said e w) name k t h.set hw.set synthesized none (empty_of zone chained wild hw.set asked.qualified wild_own g.exists hw.at differs) before (last zone chained wild hw.set hw.at differs)
            (put_name e w h.set h.is) (put_wild e w hw.set hw.is)
      ]

  cuts : (e : Option Rrset) (k : ℕ) (servers : Records) → Answers zone name t (zones.referral servers) → Delegates zone name k → rrset zone.sets (ancestor name k) type_ds ≡ None → NsecFor zone.sets (ancestor name k) e
      → Proves zone.origin (all_said e None) (ancestor name k) unsigned
  cuts e k servers answers d none of =
      let undirected = (direct_by zone name t (zones.referral servers) (zones.referral servers) answers refl refl).undirected in
      let cut = key_cut zone (ancestor name k) d.cut in
      let h = has zone chained (ancestor name k) asked.qualified d.cut.within (first zone chained cut.servers.key cut.servers.held) e of in
      let s = at_name zone chained (ancestor name k) asked.qualified (free_above k d.highest undirected) h.set type_ns h.at cut.servers in
      referrals_are_proved zone (chain_in zone.sets) (all_said e None) name k (said h.set) asked d none chained (held_at zone chained (ancestor name k) h.set h.at) (named_at zone chained (ancestor name k) h.set s) (put_name e None h.set h.is)

-- what is shown where a name does not exist
of_no_name : (zone : Zone) (name : DomainName) (e w : Option Rrset) → Shows zone name zones.no_name e w → MissingIsShown zone.sets name e w
of_no_name zone name e w (shown.name_error h) = h

of_wild_answer : (zone : Zone) (name : DomainName) (rs : Records) (e w : Option Rrset) → Shows zone name (zones.wild_answer rs) e w → NsecFor zone.sets name e
of_wild_answer zone name rs e w (shown.expansion h) = h

of_wild_alias : (zone : Zone) (name : DomainName) (rs : Records) (e w : Option Rrset) → Shows zone name (zones.wild_alias rs) e w → NsecFor zone.sets name e
of_wild_alias zone name rs e w (shown.alias_expansion h) = h

pub shown_sets_prove : ShownSetsProve
shown_sets_prove zone name about t outcome claim e w asked chained answers shows (shown.denies_name {k} c) = names zone name t asked chained e w answers (of_no_name zone name e w shows) k c
shown_sets_prove zone name about t outcome claim e w asked chained answers shows (shown.denies_type one below uncut) = by_shown e w shows where
  by_shown : (e w : Option Rrset) → Shows zone name zones.no_data e w → Proves zone.origin (all_said e w) name (no_type t)
  by_shown e w (shown.lacking x of) = types zone name t asked chained e one below answers x of
  by_shown e w (shown.wild_lacking none m) = wild_types zone name t asked chained e w one uncut answers none m
shown_sets_prove zone name about t outcome claim e w asked chained answers shows (shown.tells_wildcard {k} {rs} c) =
    let d = direct_by zone name t (zones.wild_answer rs) (zones.wild_answer rs) answers refl refl in
    let g = wild_by zone name t rs (zones.wild_answer rs) d.answers refl in
    let h = has zone chained name asked.qualified asked.within (first zone chained c.exists.owner c.exists.held) e (of_wild_answer zone name rs e w shows) in
    let p = wild_answers_are_proved zone (chain_in zone.sets) (all_said e w) name t rs (said h.set) asked answers chained (last zone chained name h.set h.at (apart zone chained name h.set h.at g.none)) (put_name e w h.set h.is) in
    subst (λ j. Proves zone.origin (all_said e w) name (nsec.by_wildcard j)) (closest_once zone.sets name p.0 k p.1 c) p.2
shown_sets_prove zone name about t outcome claim e w asked chained answers shows (shown.tells_wild_alias {k} {rs} c) =
    let d = direct_by zone name t (zones.wild_alias rs) (zones.wild_alias rs) answers refl refl in
    let g = alias_by zone name t rs (zones.wild_alias rs) d.answers refl in
    let h = has zone chained name asked.qualified asked.within (first zone chained c.exists.owner c.exists.held) e (of_wild_alias zone name rs e w shows) in
    let p = wild_aliases_are_proved zone (chain_in zone.sets) (all_said e w) name t rs (said h.set) asked answers chained (last zone chained name h.set h.at (apart zone chained name h.set h.at g.none)) (put_name e w h.set h.is) in
    subst (λ j. Proves zone.origin (all_said e w) name (nsec.by_wildcard j)) (closest_once zone.sets name p.0 k p.1 c) p.2
shown_sets_prove zone name about t outcome claim e w asked chained answers shows (shown.tells_unsigned {k} {servers} d none) = by_shown e w shows where
  some_none : (ds : Records) (o : Option Records) → o ≡ Some ds → o ≡ None → ⊥
  some_none ds o p q = cc

  by_shown : (e w : Option Rrset) → Shows zone name (zones.referral servers) e w → Proves zone.origin (all_said e w) (ancestor name k) unsigned
  by_shown e w (shown.unsigned_cut {k = j} c no_ds of) = cuts zone name t asked chained e k servers answers d none (subst (λ i. NsecFor zone.sets (ancestor name i) e) (cut_once zone name j k c d) of)
  by_shown e w (shown.signed_cut {k = j} {ds} c has_ds) = absurd (some_none ds (rrset zone.sets (ancestor name k) type_ds) (subst (λ i. rrset zone.sets (ancestor name i) type_ds ≡ Some ds) (cut_once zone name j k c d) has_ds) none)
