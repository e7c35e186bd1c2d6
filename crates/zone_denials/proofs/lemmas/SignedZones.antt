-- The chain of a signed zone has what the zone has.
use Rattle.std.proofs.Common.{◌≡◌, ℕ, zero, suc, ◌+◌, ◌-◌, ◌<◌, ◌≤◌, true, List, [], ◌∷◌, ◌++◌, drop, length, length-append, inl, inr, refl, sym, ap, subst, ◌∙◌, append_assoc, arith}
use Rattle.std.specs.Prelude.{◌⊎◌}
use Rattle.std.specs.List.{Contains, drop-map}
use Rattle.std.proofs.lemmas.List.{drop-drop, length-drop, length-map}
use Rattle.std.proofs.lemmas.List.Elements.{All-contains}
use Rattle.wire_names.specs.rr.domain.DomainName.{DomainName}
use Rattle.wire_names.specs.rr.domain.NameOrder.{Encloses, SameName, lower_label, lower_labels}
use Rattle.wire_messages.specs.Numbers.{type_cname, type_dname, type_ds, type_ns, type_soa}
use Rattle.zone_denials.proofs.lemmas.EnclosedBetween.{same_back}
use Rattle.zone_denials.proofs.lemmas.NsecChains.{enclosed_same, encloses_drop, encloses_same, shows_empty, shows_encloser, shows_missing}
use Rattle.zone_denials.specs.Nsec.{IsAtCut, Nsec, ShowsEncloser, ShowsLack, ShowsMissing, ancestor, closest, empty, insecure, lacking, missing, wild_lacking, wildcard}
use Rattle.zone_denials.specs.NsecChain.{IsLastBefore, IsNamed, AreOpenAbove}
use Rattle.zone_denials.specs.NsecLaws.{IsEncloser}
use Rattle.zone_denials.specs.SignedZone.{Exists, HasClosestEncloser, HasSet, IsChained, IsClosed, IsCut, IsOwn, IsListed, ZoneKeys}
use Rattle.zone_denials.specs.SignedZoneLaws.{CutsAreProved, EmptyNamesAreProved, IsSynthesized, Lacks, NamesAreDenied, OwnersAreLinked, TypesAreDenied, WildTypesAreDenied, WildcardsAreProved}

pub same_trans : (a b c : DomainName) → SameName a b → SameName b c → SameName a c
same_trans a b c p q = record { labels = p.labels ∙ q.labels; marks = p.marks ∙ q.marks }

pub set_same : (zone : ZoneKeys) (a b : DomainName) (t : ℕ) → SameName a b → HasSet zone a t → HasSet zone b t
set_same zone a b t s h = record { key = h.key; held = h.held; named = same_trans h.key.name a b h.named s; typed = h.typed }

pub cut_same : (zone : ZoneKeys) (a b : DomainName) → SameName a b → IsCut zone a → IsCut zone b
cut_same zone a b s c = record { below_apex = λ e. c.below_apex (same_trans a b zone.origin s e); servers = set_same zone a b type_ns s c.servers }

pub enclosing_trans : (a b c : List (List ℕ)) → Encloses a b → Encloses b c → Encloses a c
enclosing_trans a b c p q = record { front = q.front ++ p.front; ends = q.ends ∙ ap (λ ls. q.front ++ ls) p.ends ∙ sym (append_assoc q.front p.front (lower_labels a)) }

abbrev tail : List (List ℕ) → List (List ℕ)
tail [] = []
tail (l ∷ ls) = ls

-- of two ends of a list one is an end of the other
pub record IsEnd (end whole : List (List ℕ)) : Type 0 where
  pub front : List (List ℕ)
  pub is : whole ≡ front ++ end

ends_compare : (f a g b : List (List ℕ)) → f ++ a ≡ g ++ b → IsEnd b a ⊎ IsEnd a b
ends_compare [] a g b e = inl (record { front = g; is = e })
ends_compare (x ∷ f) a [] b e = inr (record { front = x ∷ f; is = sym e })
ends_compare (x ∷ f) a (y ∷ g) b e = ends_compare f a g b (by_tail (x ∷ (f ++ a)) (y ∷ (g ++ b)) e) where
  by_tail : (xs ys : List (List ℕ)) → xs ≡ ys → tail xs ≡ tail ys
  by_tail xs ys e = ap tail e

-- of two names above a third one is above the other
comparable : (a b c : List (List ℕ)) → Encloses a c → Encloses b c → Encloses b a ⊎ Encloses a b
comparable a b c p q = elim (ends_compare p.front (lower_labels a) q.front (lower_labels b) (sym p.ends ∙ q.ends)) [
  | inl h ↦ let r : Encloses b a = record { front = h.front; ends = h.is } in inl r
  | inr h ↦ let r : Encloses a b = record { front = h.front; ends = h.is } in inr r
]

drop_front : (f a : List (List ℕ)) → drop (length f) (f ++ a) ≡ a
drop_front [] a = refl
drop_front (x ∷ f) a = drop_front f a

-- a name above another is one of its ancestors
pub at_ancestor : (other name : DomainName) → other.is_fqdn ≡ name.is_fqdn → (e : Encloses other.labels name.labels) → SameName other (ancestor name (length e.front))
at_ancestor other name marks e = record {
  labels = sym (drop_front e.front (lower_labels other.labels)) ∙ ap (drop (length e.front)) (sym e.ends) ∙ drop-map lower_label (length e.front) name.labels;
  marks = marks;
}

-- so many labels in front of a name are not more than it has
pub front_within : (other name : DomainName) (e : Encloses other.labels name.labels) → length e.front ≤ length name.labels
front_within other name e = omega (arith, ap length e.ends, length-append e.front (lower_labels other.labels), length-map name.labels lower_label)

drop_over : (ls : List (List ℕ)) (k : ℕ) → length ls ≤ k → drop k ls ≡ []
drop_over [] zero h = refl
drop_over [] (suc k) h = refl
drop_over (l ∷ ls) zero h = absurd (omega arith)
drop_over (l ∷ ls) (suc k) h = drop_over ls k (omega arith)

at_root : (name : DomainName) (k : ℕ) → length name.labels ≤ k → ancestor name k ≡ ancestor name (length name.labels)
at_root name k over = ap (λ (ls : List (List ℕ)). let d : DomainName = record { labels = ls; is_fqdn = name.is_fqdn } in d) (drop_over name.labels k over ∙ sym (drop_over name.labels (length name.labels) (omega arith)))

not_more : (l k : ℕ) → (k ≤ l) ⊎ (l < k)
not_more l zero = inl (omega arith)
not_more zero (suc k) = inr (omega arith)
not_more (suc l) (suc k) = elim (not_more l k) [ inl h ↦ inl (omega arith) | inr h ↦ inr (omega arith) ]

-- the closest encloser is one of the name's ancestors
pub encloser_within : (zone : ZoneKeys) (name : DomainName) (k : ℕ) → HasClosestEncloser zone name k → k ≤ length name.labels
encloser_within zone name k h = elim (not_more (length name.labels) k) [
  | inl near ↦ near
  | inr over ↦ absurd (h.longest (length name.labels) over (subst (Exists zone) (at_root name k (omega arith)) h.exists))
]

pub exists_at_keys : (zone : ZoneKeys) (name : DomainName) (t : ℕ) → HasSet zone name t → Exists zone name
exists_at_keys zone name t s = record { owner = s.key; held = s.held; at_or_below = encloses_same s.key.name name s.named }

module _ (zone : ZoneKeys) (chain : List Nsec) (chained : IsChained zone chain) where
  marked : (m : Nsec) → Contains chain m → m.owner.is_fqdn ≡ true
  marked m = All-contains (λ (q : Nsec). q.owner.is_fqdn ≡ true) chain m chained.is_chain.qualified

  pub exists_of : (up : DomainName) → IsNamed chain up.labels → Exists zone up
  exists_of up x =
      let s = chained.owners x.at x.held in
      record { owner = s.key; held = s.held; at_or_below = enclosed_same up.labels x.at.owner s.key.name s.named x.at_or_below }

  module _ (name : DomainName) (qualified : name.is_fqdn ≡ true) (own : IsOwn zone name) where
    -- a record above the name, or at it
    same_marks : (m : Nsec) → Contains chain m → m.owner.is_fqdn ≡ name.is_fqdn
    same_marks m x = marked m x ∙ sym qualified

    pub uncut : (m : Nsec) → Contains chain m → Encloses m.owner.labels name.labels → ¬ (IsCut zone m.owner)
    uncut m x e c = own.uncut (length e.front) (cut_same zone m.owner (ancestor name (length e.front)) (at_ancestor m.owner name (same_marks m x) e) c)

    -- above the name, and not at it, nothing is redirected
    undirected_by : (m : Nsec) (x : Contains chain m) (e : Encloses m.owner.labels name.labels) (front : List (List ℕ)) → e.front ≡ front → ¬ (SameName m.owner name) → ¬ (HasSet zone m.owner type_dname)
    undirected_by m x e [] is differs h = differs (record { labels = sym (e.ends ∙ ap (λ f. f ++ lower_labels m.owner.labels) is); marks = same_marks m x })
    undirected_by m x e (f ∷ fs) is differs h = own.undirected (length e.front) (subst (λ ls. 0 < length ls) (sym is) (omega arith)) (front_within m.owner name e)
        (set_same zone m.owner (ancestor name (length e.front)) type_dname (at_ancestor m.owner name (same_marks m x) e) h)

    pub undirected : (m : Nsec) → Contains chain m → Encloses m.owner.labels name.labels → ¬ (SameName m.owner name) → ¬ (HasSet zone m.owner type_dname)
    undirected m x e = undirected_by m x e e.front refl

    pub not_at_cut : (m : Nsec) → Contains chain m → ¬ (IsCut zone m.owner) → ¬ (IsAtCut m)
    not_at_cut m x no_cut c = no_cut (record {
      below_apex = λ s. c.above ((chained.types m type_soa x (inl no_cut)).1 ((chained.apex m x).1 s));
      servers = (chained.types m type_ns x (inl no_cut)).0 c.servers;
    })

    pub closed_above : (m : Nsec) → Contains chain m → Encloses m.owner.labels name.labels → ¬ (SameName m.owner name) → ¬ (IsClosed zone m.owner)
    closed_above m x e differs c = elim c [ inl cut ↦ uncut m x e cut | inr dname ↦ undirected m x e differs dname ]

    module _ (differ : (m : Nsec) → Contains chain m → ¬ (SameName m.owner name)) where
      pub is_open : AreOpenAbove chain name
      is_open m x e = record {
        uncut = not_at_cut m x (uncut m x e);
        undirected = λ t. undirected m x e (differ m x) ((chained.types m type_dname x (inl (uncut m x e))).0 t);
      }

      -- what exists above the name, or at it, the chain has
      pub named_of : (up : DomainName) → Encloses up.labels name.labels → Exists zone up → IsNamed chain up.labels
      named_of up above x =
          let l = chained.complete x.owner x.held in
          elim l.how [
            | inl s ↦ let r : IsNamed chain up.labels = record { at = l.by; held = l.held; at_or_below = enclosed_same up.labels x.owner.name l.by.owner s x.at_or_below } in r
            | inr closed ↦ elim (comparable up.labels l.by.owner.labels x.owner.name.labels x.at_or_below l.encloses) [
              | inl over ↦ absurd (closed_above l.by l.held (enclosing_trans l.by.owner.labels up.labels name.labels over above) (differ l.by l.held) closed)
              | inr under ↦ let r : IsNamed chain up.labels = record { at = l.by; held = l.held; at_or_below = under } in r
            ]
          ]

      pub encloser_of : (k : ℕ) → HasClosestEncloser zone name k → IsEncloser chain name k
      encloser_of k h = record {
        exists = named_of (ancestor name k) (encloses_drop k name.labels) h.exists;
        longest = λ j less x. h.longest j less (exists_of (ancestor name j) x);
      }

  differing : (name : DomainName) → ¬ (Exists zone name) → (m : Nsec) → Contains chain m → ¬ (SameName m.owner name)
  differing name none m x s = none (exists_of name (record { at = m; held = x; at_or_below = encloses_same m.owner name s }))

  unnamed : (name : DomainName) → ¬ (Exists zone name) → ¬ (IsNamed chain name.labels)
  unnamed name none x = none (exists_of name x)

-- the encloser of a name that is missing is above it
above_by : (zone : ZoneKeys) (name : DomainName) (k : ℕ) → ¬ (Exists zone name) → Exists zone (ancestor name k) → 0 < k
above_by zone name zero none x = absurd (none x)
above_by zone name (suc k) none x = omega arith

-- what a wildcard is below, its name is too
own_wild : (zone : ZoneKeys) (name : DomainName) (k : ℕ) → IsOwn zone name → ¬ (Exists zone name) → HasClosestEncloser zone name k → ¬ (Exists zone (wildcard (ancestor name k))) → IsOwn zone (wildcard (ancestor name k))
own_wild zone name k own none h none_wild = record { uncut = uncut; undirected = undirected } where
  above : (j : ℕ) → ancestor (wildcard (ancestor name k)) (suc j) ≡ ancestor name (k + j)
  above j = ap (λ (ls : List (List ℕ)). let d : DomainName = record { labels = ls; is_fqdn = name.is_fqdn } in d) (drop-drop j k name.labels)

  uncut : (j : ℕ) → ¬ (IsCut zone (ancestor (wildcard (ancestor name k)) j))
  uncut zero c = none_wild (record { owner = c.servers.key; held = c.servers.held; at_or_below = encloses_same c.servers.key.name (wildcard (ancestor name k)) c.servers.named })
  uncut (suc j) c = own.uncut (k + j) (subst (IsCut zone) (above j) c)

  undirected : (j : ℕ) → 0 < j → j ≤ length (wildcard (ancestor name k)).labels → ¬ (HasSet zone (ancestor (wildcard (ancestor name k)) j) type_dname)
  undirected zero less near s = absurd (omega arith)
  undirected (suc j) less near s =
      let pos : 0 < k = above_by zone name k none h.exists in
      let within = encloser_within zone name k h in
      let left : length (drop k name.labels) ≡ length name.labels - k = length-drop k name.labels in
      own.undirected (k + j) (omega arith) (omega arith) (subst (λ n. HasSet zone n type_dname) (above j) s)

pub names_are_denied : NamesAreDenied
names_are_denied zone chain shown name k n m chained d last last_wild put put_wild =
    let wild = wildcard (ancestor name k) in
    let differ = differing zone chain chained name d.missing in
    let own_at_wild = own_wild zone name k d.own d.missing d.encloser d.no_wildcard in
    let differ_wild = differing zone chain chained wild d.no_wildcard in
    missing put put_wild
    (shows_missing zone.origin name chain chained.is_chain d.qualified n last (unnamed zone chain chained name d.missing) (is_open zone chain chained name d.qualified d.own differ))
    (shows_encloser zone.origin name chain chained.is_chain d.qualified n last k (encloser_of zone chain chained name d.qualified d.own differ k d.encloser))
    (shows_missing zone.origin wild chain chained.is_chain d.qualified m last_wild (unnamed zone chain chained wild d.no_wildcard) (is_open zone chain chained wild d.qualified own_at_wild differ_wild))

missing_shown : (zone : ZoneKeys) (chain : List Nsec) (name : DomainName) (k : ℕ) (n : Nsec) → IsChained zone chain → IsSynthesized zone name k → IsLastBefore chain name n → ShowsMissing zone.origin n name × ShowsEncloser n name k
missing_shown zone chain name k n chained d last =
    let differ = differing zone chain chained name d.missing in (
      shows_missing zone.origin name chain chained.is_chain d.qualified n last (unnamed zone chain chained name d.missing) (is_open zone chain chained name d.qualified d.own differ),
      shows_encloser zone.origin name chain chained.is_chain d.qualified n last k (encloser_of zone chain chained name d.qualified d.own differ k d.encloser),
    )

pub wildcards_are_proved : WildcardsAreProved
wildcards_are_proved zone chain shown name k n chained d last put = let s = missing_shown zone chain name k n chained d last in closest put s.0 s.1

listed_at : (zone : ZoneKeys) (name : DomainName) (t : ℕ) (n : Nsec) → SameName n.owner name → Lacks zone name t → (u : ℕ) → (u ≡ t) ⊎ ((u ≡ type_soa) ⊎ (u ≡ type_cname)) → IsListed zone n.owner u
listed_at zone name t n s l u which = elim l.of_zone [
  | inl own ↦ inl (λ c. own.uncut 0 (cut_same zone n.owner name s c))
  | inr ds ↦ inr (inr (elim which [ inl e ↦ inl (e ∙ ds) | inr e ↦ inr e ]))
]

lack_shown : (zone : ZoneKeys) (chain : List Nsec) (name : DomainName) (t : ℕ) (n : Nsec) → IsChained zone chain → Lacks zone name t → Contains chain n → SameName n.owner name → ShowsLack n name t
lack_shown zone chain name t n chained l x s = record {
  matches = s;
  lacks = λ c. l.none (set_same zone n.owner name t s ((chained.types n t x (listed_at zone name t n s l t (inl refl))).0 c));
  no_alias = λ c. l.no_alias (set_same zone n.owner name type_cname s ((chained.types n type_cname x (listed_at zone name t n s l type_cname (inr (inr refl)))).0 c));
  cut = λ c. elim l.of_zone [
    | inl own ↦ absurd (at_cut own c)
    | inr ds ↦ ds
  ];
  apex = λ ds c. l.below_apex ds (same_trans name n.owner zone.origin (same_back n.owner name s) ((chained.apex n x).0 ((chained.types n type_soa x (listed_at zone name t n s l type_soa (inr (inl refl)))).0 c)));
} where
  at_cut : IsOwn zone name → IsAtCut n → ⊥
  at_cut own c = own.uncut 0 (cut_same zone n.owner name s (record {
    below_apex = λ e. c.above ((chained.types n type_soa x (inl (λ d. own.uncut 0 (cut_same zone n.owner name s d)))).1 ((chained.apex n x).1 e));
    servers = (chained.types n type_ns x (inl (λ d. own.uncut 0 (cut_same zone n.owner name s d)))).0 c.servers;
  }))

pub types_are_denied : TypesAreDenied
types_are_denied zone chain shown name t n chained l x s put = lacking put (lack_shown zone chain name t n chained l x s)

pub wild_types_are_denied : WildTypesAreDenied
wild_types_are_denied zone chain shown name k t n m chained d l last x s put put_wild =
    let h = missing_shown zone chain name k n chained d last in
    wild_lacking put put_wild h.0 h.1 (lack_shown zone chain (wildcard (ancestor name k)) t m chained l x s)

pub empty_names_are_proved : EmptyNamesAreProved
empty_names_are_proved zone chain shown name t n chained d last put =
    let differ : (m : Nsec) → Contains chain m → ¬ (SameName m.owner name) = λ m x s. d.owns_none 47 (set_same zone m.owner name 47 s (chained.owners m x)) in
    empty put (shows_empty zone.origin name chain chained.is_chain d.qualified n last (named_of zone chain chained name d.qualified d.own differ name (encloses_drop 0 name.labels) d.exists) differ (is_open zone chain chained name d.qualified d.own differ))

pub cuts_are_proved : CutsAreProved
cuts_are_proved zone chain shown name n chained cut no_ds x s put = insecure put s
    (record {
      servers = (chained.types n type_ns x (inr (inl refl))).1 (set_same zone name n.owner type_ns (same_back n.owner name s) cut.servers);
      above = λ c. cut.below_apex (same_trans name n.owner zone.origin (same_back n.owner name s) ((chained.apex n x).0 ((chained.types n type_soa x (inr (inr (inr (inl refl))))).0 c)));
    })
    (λ c. no_ds (set_same zone n.owner name type_ds s ((chained.types n type_ds x (inr (inr (inl refl)))).0 c)))

pub owners_are_linked : OwnersAreLinked
owners_are_linked zone chain name t chained qualified own h =
    let l = chained.complete h.key h.held in
    let above : Encloses l.by.owner.labels name.labels = record { front = l.encloses.front; ends = sym h.named.labels ∙ l.encloses.ends } in
    elim l.how [
      | inl s ↦ (l.by, l.held, same_trans l.by.owner h.key.name name s h.named)
      | inr closed ↦ (l.by, l.held, by_front l.by l.held above closed above.front refl)
    ] where
      by_front : (m : Nsec) (x : Contains chain m) (e : Encloses m.owner.labels name.labels) → IsClosed zone m.owner → (front : List (List ℕ)) → e.front ≡ front → SameName m.owner name
      by_front m x e closed [] is = record { labels = sym (e.ends ∙ ap (λ f. f ++ lower_labels m.owner.labels) is); marks = same_marks zone chain chained name qualified own m x }
      by_front m x e closed (f ∷ fs) is = absurd (elim closed [
        | inl cut ↦ uncut zone chain chained name qualified own m x e cut
        | inr dname ↦ own.undirected (length e.front) (subst (λ ls. 0 < length ls) (sym is) (omega arith)) (front_within m.owner name e) (set_same zone m.owner (ancestor name (length e.front)) type_dname (at_ancestor m.owner name (same_marks zone chain chained name qualified own m x) e) dname)
      ])
