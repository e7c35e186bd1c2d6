-- The NSEC3 chain of a signed zone has what the zone has.
use Rattle.std.proofs.Common.{◌≡◌, ℕ, suc, true, List, [], ◌∷◌, inl, inr, refl, sym, ap, ◌∙◌, arith}
use Rattle.std.specs.Prelude.{◌⊎◌}
use Rattle.std.specs.List.{Contains}
use Rattle.wire_names.specs.rr.domain.DomainName.{DomainName}
use Rattle.wire_messages.specs.Numbers.{type_cname, type_dname, type_ds, type_ns, type_soa}
use Rattle.zone_denials.proofs.lemmas.NsecChains.{encloses_drop}
use Rattle.zone_denials.proofs.lemmas.SignedZones.{encloser_within, enclosing_trans, exists_at_keys}
use Rattle.zone_denials.proofs.lemmas.Nsec3Chains.{covers, differing, encloser_shown, hashed_or, in_chain3}
use Rattle.zone_denials.specs.Nsec.{ancestor, wildcard}
use Rattle.zone_denials.specs.Nsec3.{Hashing, IsAtCut3, Nsec3, ShowsEncloser3, ShowsLack3, IsOpen3, closest, hash_of, insecure, lacking, lacking_out, missing, out, wild_lacking}
use Rattle.zone_denials.specs.Nsec3Chain.{IsHashed, IsLastBelow}
use Rattle.zone_denials.specs.SignedZone.{Exists, HasSet, IsCut, IsListed, ZoneKeys}
use Rattle.zone_denials.specs.SignedZoneLaws.{Lacks}
use Rattle.zone_denials.specs.SignedZone3.{CutsAreProved3, CutsLeftOutAreProved3, Collides, IsChained3, IsIn, IsMatch, NamesAreDenied3, TypesAreDenied3, WildTypesAreDenied3, WildcardsAreProved3}

module _ (zone : ZoneKeys) (by : Hashing) (chain : List Nsec3) (chained : IsChained3 zone by chain) where
  -- a name that does not exist and collides with no other has no record
  pub unhashed : (name : DomainName) → ¬ (Exists zone name) → Collides zone by name ⊎ ¬ (IsHashed by chain name)
  unhashed name none = elim (hashed_or by chain name) [
    | inl x ↦ let s = chained.names x.at x.held in let r : Collides zone by name = record { none = none; other = s.name; exists = s.exists; same = sym x.is ∙ s.is } in inl r
    | inr h ↦ inr h
  ]

  pub not_at_cut : (n : Nsec3) (name : DomainName) → IsIn zone name → IsMatch by chain name n → Exists zone name → ¬ (IsCut zone name) → ¬ (IsAtCut3 n)
  not_at_cut n name q m x no_cut c = no_cut (record {
    below_apex = λ s. c.above ((chained.types n name type_soa m.held q m.is x (inl no_cut)).1 ((chained.apex name).1 s));
    servers = (chained.types n name type_ns m.held q m.is x (inl no_cut)).0 c.servers;
  })

  pub is_open : (n : Nsec3) (name : DomainName) → IsIn zone name → IsMatch by chain name n → Exists zone name → ¬ (IsCut zone name) → ¬ (HasSet zone name type_dname) → IsOpen3 n
  is_open n name q m x no_cut no_dname = record {
    uncut = not_at_cut n name q m x no_cut;
    undirected = λ t. no_dname ((chained.types n name type_dname m.held q m.is x (inl no_cut)).0 t);
  }

  listed_at : (name : DomainName) (t : ℕ) → Lacks zone name t → (u : ℕ) → (u ≡ t) ⊎ ((u ≡ type_soa) ⊎ (u ≡ type_cname)) → IsListed zone name u
  listed_at name t l u which = elim l.of_zone [
    | inl own ↦ inl (own.uncut 0)
    | inr ds ↦ inr (inr (elim which [ inl e ↦ inl (e ∙ ds) | inr e ↦ inr e ]))
  ]

  pub lack_shown : (name : DomainName) (t : ℕ) (n : Nsec3) → IsIn zone name → Exists zone name → Lacks zone name t → IsMatch by chain name n → ShowsLack3 by n name t
  lack_shown name t n q x l m = record {
    matches = m.is;
    lacks = λ c. l.none ((chained.types n name t m.held q m.is x (listed_at name t l t (inl refl))).0 c);
    no_alias = λ c. l.no_alias ((chained.types n name type_cname m.held q m.is x (listed_at name t l type_cname (inr (inr refl)))).0 c);
    cut = λ c. elim l.of_zone [ inl own ↦ absurd (not_at_cut n name q m x (own.uncut 0) c) | inr ds ↦ ds ];
    apex = λ ds c. l.below_apex ds ((chained.apex name).0 ((chained.types n name type_soa m.held q m.is x (listed_at name t l type_soa (inr (inl refl)))).0 c));
  }

  -- the record of the closest encloser and the cover of the next closer name
  pub shown_by : (shown : List Nsec3) (name : DomainName) (k : ℕ) (e c : Nsec3) → IsIn zone (ancestor name (suc k)) → ¬ (IsHashed by chain (ancestor name k)) → Exists zone (ancestor name (suc k)) → ¬ (IsCut zone (ancestor name (suc k)))
      → ¬ (HasSet zone (ancestor name (suc k)) type_dname) → IsMatch by chain (ancestor name (suc k)) e → IsLastBelow chain (hash_of by (ancestor name k)) c → Contains shown e → Contains shown c → ShowsEncloser3 by shown name k c
  shown_by shown name k e c q none x no_cut no_dname m last put_e put_c = encloser_shown by chain shown name k e c chained.is_chain
      (record { held = m.held; matches = m.is; is_open = is_open e (ancestor name (suc k)) q m x no_cut no_dname }) (record { unhashed = none; last = last }) put_e put_c

-- the wildcard below a name of the zone is in the zone
wildcard_in : (zone : ZoneKeys) (name : DomainName) → IsIn zone name → IsIn zone (wildcard name)
wildcard_in zone name inside = record { qualified = inside.qualified; within = record { front = (42 ∷ []) ∷ inside.within.front; ends = ap (λ ls. (42 ∷ []) ∷ ls) inside.within.ends } }

pub names_are_denied3 : NamesAreDenied3
names_are_denied3 zone by chain shown name k e c w chained d inside m last last_wild put_e put_c put_w =
    elim (unhashed zone by chain chained (ancestor name k) (d.encloser.longest k (omega arith))) [
      | inl x ↦ inl (inl x)
      | inr none ↦ elim (unhashed zone by chain chained (wildcard (ancestor name (suc k))) d.no_wildcard) [
        | inl x ↦ inl (inr x)
        | inr none_wild ↦ inr (
            missing (shown_by zone by chain chained shown name k e c inside none d.encloser.exists (d.own.uncut (suc k)) (d.own.undirected (suc k) (omega arith) (encloser_within zone name (suc k) d.encloser)) m last put_e put_c) put_w
            (covers chain chained.is_chain (hash_of by (wildcard (ancestor name (suc k)))) w (differing by chain (wildcard (ancestor name (suc k))) none_wild) last_wild))
      ]
    ]

pub wildcards_are_proved3 : WildcardsAreProved3
wildcards_are_proved3 zone by chain shown name k c chained d last put_c =
    elim (unhashed zone by chain chained (ancestor name k) (d.encloser.longest k (omega arith))) [
      | inl x ↦ inl x
      | inr none ↦ inr (closest put_c (covers chain chained.is_chain (hash_of by (ancestor name k)) c (differing by chain (ancestor name k) none) last))
    ]

pub types_are_denied3 : TypesAreDenied3
types_are_denied3 zone by chain shown name t n chained q x l m put = lacking put (lack_shown zone by chain chained name t n q x l m)

pub wild_types_are_denied3 : WildTypesAreDenied3
wild_types_are_denied3 zone by chain shown name k t e c w chained d inside m last x l matched put_e put_c put_w =
    elim (unhashed zone by chain chained (ancestor name k) (d.encloser.longest k (omega arith))) [
      | inl y ↦ inl y
      | inr none ↦ inr (
          wild_lacking (shown_by zone by chain chained shown name k e c inside none d.encloser.exists (d.own.uncut (suc k)) (d.own.undirected (suc k) (omega arith) (encloser_within zone name (suc k) d.encloser)) m last put_e put_c) put_w
          (lack_shown zone by chain chained (wildcard (ancestor name (suc k))) t w (wildcard_in zone (ancestor name (suc k)) inside) x l matched))
    ]

pub cuts_are_proved3 : CutsAreProved3
cuts_are_proved3 zone by chain shown name n chained q cut no_ds m put =
    let x : Exists zone name = exists_at_keys zone name type_ns cut.servers in
    insecure put m.is
    (record {
      servers = (chained.types n name type_ns m.held q m.is x (inr (inl refl))).1 cut.servers;
      above = λ c. cut.below_apex ((chained.apex name).0 ((chained.types n name type_soa m.held q m.is x (inr (inr (inr (inl refl))))).0 c));
    })
    (λ c. no_ds ((chained.types n name type_ds m.held q m.is x (inr (inr (inl refl)))).0 c))

-- what is above a name that exists exists
exists_above : (zone : ZoneKeys) (name : DomainName) (k : ℕ) → Exists zone name → Exists zone (ancestor name k)
exists_above zone name k x = record { owner = x.owner; held = x.held; at_or_below = enclosing_trans (ancestor name k).labels name.labels x.owner.name.labels (encloses_drop k name.labels) x.at_or_below }

pub cuts_left_out_are_proved3 : CutsLeftOutAreProved3
cuts_left_out_are_proved3 zone by chain shown name k e c chained cut of_zone inside none own m no_dname last put_e put_c =
    let at_name : Exists zone name = exists_at_keys zone name type_ns cut.servers in
    let next : Exists zone (ancestor name k) = exists_above zone name k at_name in
    let over : Exists zone (ancestor name (suc k)) = exists_above zone name (suc k) at_name in
    let s = shown_by zone by chain chained shown name k e c inside none over (own.uncut 0) no_dname m last put_e put_c in
    let opted : c.opt_out ≡ true = elim (chained.complete (ancestor name k) next of_zone) [ inl h ↦ absurd (none h) | inr all ↦ all c (in_chain3 chain (hash_of by (ancestor name k)) c last) s.covers ] in
    (out s opted, lacking_out s opted)
