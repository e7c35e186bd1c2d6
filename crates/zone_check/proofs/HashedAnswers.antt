-- What functions that ask of zones with NSEC3 records answer.
use Rattle.std.proofs.Common.{◌≡◌, ◌==◌, ◌&&◌, ◌++◌, ◌∙◌, ◌≤◌, ℕ, zero, suc, Bool, true, false, List, [], ◌∷◌, length, take, drop, slice_index_or, Option, Some, None, option_map, refl, sym, ap, subst, inl, inr, arith}
use Rattle.std.specs.Prelude.{◌↔◌, ◌⊎◌, not, IfOk, IsTrue, Result, Ok, Err, is_some}
use Rattle.std.specs.List.{Contains, find}
use Rattle.std.specs.Option.{option_and_then}
use Rattle.wire_messages.specs.rr.RecordData.{type_of}
use Rattle.wire_messages.specs.declared.rr.rdata.RData.{RData}
use Rattle.wire_messages.specs.declared.rr.record.Record.{Record}
use Rattle.wire_names.specs.rr.domain.DomainName.{DomainName, wire_form}
use Rattle.wire_names.specs.rr.domain.NameOrder.{lower_name}
use Rattle.wire_names.proofs.lemmas.rr.domain.SameNames.{lower_labels-twice}
use Rattle.zone_check.proofs.ChainOwners.{find_in}
use Rattle.zone_check.proofs.HashChains.{hash_passes}
use Rattle.zone_check.proofs.HashKeys.{cover_there, one_cover, one_first, one_next}
use Rattle.zone_check.specs.CheckedZones.{CheckedZone, Owns, Records, type_nsec3}
use Rattle.zone_check.specs.HashedZones.{HasHash, IsCover, IsFirst, IsIdleNsec3, IsLaterHash, IsNextHash, IsOptedOut, IsUnlisted3, OfNsec3, first_with, hash_at, hashing_of, is_of_hash, label_hash, nsec3_at, nsec3_of}
use Rattle.zone_check.specs.SignedZones.{IsListed, octets_of}
use Rattle.zone_denials.specs.HashLabels.{hash_in}
use Rattle.zone_denials.specs.Nsec3.{Hashing, Nsec3, hash_of}
use Rattle.zone_denials.specs.Nsec3Data.{nsec3_by, nsec3_in}
use Rattle.zone_denials.specs.declared.nsec3_data.Nsec3Data.{Nsec3Data}
use Rattle.zone_denials.proofs.lemmas.Nsec3Chains.{hash_alike}

some_same : {A : Type 0} {x y : A} → Some x ≡ Some y → x ≡ y
some_same e = cc

none_some : {A : Type 0} {x : A} → None ≡ Some x → ⊥
none_some e = cc

false_true : false ≡ true → ⊥
false_true e = cc

pub not_is : (b : Bool) (P : Type 0) → (IsTrue b ↔ P) → IsTrue (not b) ↔ (¬ P)
not_is true P h = (λ e. absurd (false_true e), λ fails. absurd (fails (h.0 refl)))
not_is false P h = (λ _ p. false_true (h.1 p), λ _. refl)

-- the first label of a name by its octets
take_front : (xs ys : List ℕ) (n : ℕ) → length xs ≡ n → take n (xs ++ ys) ≡ xs
take_front [] ys zero e = refl
take_front [] ys (suc n) e = absurd (omega (arith, e))
take_front (x ∷ xs) ys zero e = absurd (omega (arith, e))
take_front (x ∷ xs) ys (suc n) e = ap (λ zs. x ∷ zs) (take_front xs ys n (omega (arith, e)))

pub first_label : (labels : List (List ℕ)) → 33 ≤ length (wire_form labels) → slice_index_or (wire_form labels) 0 0 ≡ 32 → hash_in (take 32 (drop 1 (wire_form labels))) ≡ label_hash labels
first_label [] some e = absurd (omega (arith, some))
first_label (l ∷ ls) some e = ap hash_in (take_front l (wire_form ls) 32 e)

-- whether an NSEC3 record is one of this apex
pub owner_is : (t : ℕ) (b c : Bool) → (t == type_nsec3) ≡ true → b ≡ c → b ≡ ((t == type_nsec3) && c)
owner_is t b c e is = is ∙ ap (λ s. s && c) (sym e)

module _ (zone : CheckedZone) where
  pub unread : (r : Record RData) → hash_at zone.origin r ≡ None → nsec3_of zone.origin r ≡ None
  unread r e = ap (option_and_then (λ (hash : List ℕ). option_and_then (nsec3_in hash) (octets_of type_nsec3 r.rdata))) e

  pub read : (r : Record RData) (h : List ℕ) → hash_at zone.origin r ≡ Some h → nsec3_of zone.origin r ≡ option_and_then (nsec3_in h) (octets_of type_nsec3 r.rdata)
  read r h e = ap (option_and_then (λ (hash : List ℕ). option_and_then (nsec3_in hash) (octets_of type_nsec3 r.rdata))) e

  pub said : (r : Record RData) (n : Nsec3) (Is : Nsec3 → Type 0) (b : Bool) → nsec3_of zone.origin r ≡ Some n → (IsTrue b ↔ Is n) → IsTrue b ↔ OfNsec3 Is (nsec3_of zone.origin r)
  said r n Is b e is = subst (λ (o : Option Nsec3). IsTrue b ↔ OfNsec3 Is o) (sym e) is

  pub said_none : (r : Record RData) (Is : Nsec3 → Type 0) → nsec3_of zone.origin r ≡ None → IsTrue false ↔ OfNsec3 Is (nsec3_of zone.origin r)
  said_none r Is e = subst (λ (o : Option Nsec3). IsTrue false ↔ OfNsec3 Is o) (sym e) (λ no. absurd (false_true no), λ no. absurd no)

  found_passes : (test : Record RData → Bool) (rs : Records) (r : Record RData) → find test rs ≡ Some r → test r ≡ true
  found_passes test rs r e =
      let f = find_in test rs (ap is_some e) in
      ap test (some_same (sym e ∙ f.is)) ∙ f.passes

  pub at_first : (h : List ℕ) (r : Record RData) → first_with zone h ≡ Some r → nsec3_at zone h ≡ option_and_then (nsec3_in h) (octets_of type_nsec3 r.rdata)
  at_first h r e = ap (option_and_then (nsec3_of zone.origin)) e ∙ read r h (hash_passes zone.origin h r (found_passes (is_of_hash zone.origin h) zone.records r e))

  pub at_none : (h : List ℕ) → first_with zone h ≡ None → nsec3_at zone h ≡ None
  at_none h e = ap (option_and_then (nsec3_of zone.origin)) e

  pub later_is : (hash later next : List ℕ) (b : Bool) → IsFirst (IsLaterHash zone hash) later → (IsTrue b ↔ (later ≡ next)) → IsTrue b ↔ IsNextHash zone hash next
  later_is hash later next b f is = (
    λ t. inl (subst (IsFirst (IsLaterHash zone hash)) (is.0 t) f),
    λ n. is.1 (one_next zone hash later next (inl f) n),
  )

  pub first_is_next : (hash next : List ℕ) (b : Bool) → ((other : List ℕ) → ¬ (IsLaterHash zone hash other)) → (IsTrue b ↔ IsFirst (HasHash zone) next) → IsTrue b ↔ IsNextHash zone hash next
  first_is_next hash next b none is = (
    λ t. inr (is.0 t, none),
    λ n. elim n [ inl f ↦ absurd (none next f.is) | inr g ↦ is.1 g.0 ],
  )

  pub first_is : (first hash : List ℕ) (b : Bool) → IsFirst (HasHash zone) first → (IsTrue b ↔ (first ≡ hash)) → IsTrue b ↔ IsFirst (HasHash zone) hash
  first_is first hash b f is = (λ t. subst (IsFirst (HasHash zone)) (is.0 t) f, λ g. is.1 (one_first (HasHash zone) first hash f g))

  pub no_first : (hash : List ℕ) → ((other : List ℕ) → ¬ (HasHash zone other)) → IsTrue false ↔ IsFirst (HasHash zone) hash
  no_first hash none = (λ no. absurd (false_true no), λ f. absurd (none hash f.is))

  pub opted_is : (hash cover : List ℕ) (n : Nsec3) → IsCover zone hash cover → nsec3_at zone cover ≡ Some n → IsTrue n.opt_out ↔ IsOptedOut zone hash
  opted_is hash cover n covers e = (
    λ t. record { cover = cover; covers = covers; out = subst (OfNsec3 (λ m. m.opt_out ≡ true)) (sym e) t },
    λ o. subst (OfNsec3 (λ m. m.opt_out ≡ true)) (ap (nsec3_at zone) (one_cover zone hash o.cover cover o.covers covers) ∙ e) o.out,
  )

  pub not_opted : (hash cover : List ℕ) → IsCover zone hash cover → nsec3_at zone cover ≡ None → IsTrue false ↔ IsOptedOut zone hash
  not_opted hash cover covers e = (
    λ no. absurd (false_true no),
    λ o. absurd (subst (OfNsec3 (λ m. m.opt_out ≡ true)) (ap (nsec3_at zone) (one_cover zone hash o.cover cover o.covers covers) ∙ e) o.out),
  )

  pub uncovered : (hash : List ℕ) → ((other : List ℕ) → ¬ (HasHash zone other)) → IsTrue false ↔ IsOptedOut zone hash
  uncovered hash none = (λ no. absurd (false_true no), λ o. absurd (none o.cover (cover_there zone hash o.cover o.covers)))

  pub unlisted_is : (by : Hashing) (r : Record RData) (n : Nsec3) (b : Bool) → ¬ (Owns zone r.name type_nsec3) → IsListed zone r.name (type_of r.rdata) → nsec3_at zone (hash_of by r.name) ≡ Some n → (IsTrue b ↔ Contains n.types (type_of r.rdata)) → IsTrue (not b) ↔ IsUnlisted3 zone by r
  unlisted_is by r n b named listed e is =
      let other = not_is b (Contains n.types (type_of r.rdata)) is in (
        λ t. record { named = named; listed = listed; missing = subst (OfNsec3 (λ m. ¬ (Contains m.types (type_of r.rdata)))) (sym e) (other.0 t) },
        λ u. other.1 (subst (OfNsec3 (λ m. ¬ (Contains m.types (type_of r.rdata)))) e u.missing),
      )

  pub idle_by : {E : Type 0} (result : Result Bool E) (by : Hashing) (r : Record RData) → hashing_of zone ≡ Some by → IfOk result (λ is. (b : Hashing) → hashing_of zone ≡ Some b → (IsTrue is ↔ IsIdleNsec3 zone b r)) → IfOk result (λ is. IsTrue is ↔ IsIdleNsec3 zone by r)
  idle_by (Ok is) by r e h = h by e
  idle_by (Err f) by r e h = tt

  pub unread_is : (r : Record RData) (hash : Option (List ℕ)) (found : Option Nsec3Data) (b c : Bool) → type_of r.rdata ≡ type_nsec3 → hash ≡ hash_at zone.origin r → is_some hash ≡ not b → b ≡ false
      → ((h : List ℕ) → option_map (nsec3_by h) found ≡ option_and_then (nsec3_in h) (octets_of type_nsec3 r.rdata)) → is_some found ≡ not c → IsTrue c ↔ ((type_of r.rdata ≡ type_nsec3) × (nsec3_of zone.origin r ≡ None))
  unread_is r None found b c typed e there fails says some = absurd (false_true (there ∙ ap not fails))
  unread_is r (Some h) found b c typed e there fails says some = by_data found c some (sym (read r h (sym e) ∙ sym (says h))) where
    by_data : (found : Option Nsec3Data) (c : Bool) → is_some found ≡ not c → option_map (nsec3_by h) found ≡ nsec3_of zone.origin r → IsTrue c ↔ ((type_of r.rdata ≡ type_nsec3) × (nsec3_of zone.origin r ≡ None))
    by_data None true some is = (λ _. (typed, sym is), λ _. refl)
    by_data None false some is = absurd (false_true some)
    by_data (Some it) true some is = absurd (false_true (sym some))
    by_data (Some it) false some is = (λ no. absurd (false_true no), λ x. absurd (none_some (sym (is ∙ x.1))))

pub kept_is : (b : Bool) (P Q : Type 0) → Q → (IsTrue b ↔ P) → IsTrue (not b) ↔ ((¬ Q) ⊎ (¬ P))
kept_is b P Q q h = (λ t. inr ((not_is b P h).0 t), λ x. elim x [ inl kept ↦ absurd (kept q) | inr kept ↦ (not_is b P h).1 kept ])

pub if_iff : {E : Type 0} (result : Result Bool E) (P Q : Type 0) → (P → Q) → (Q → P) → IfOk result (λ is. IsTrue is ↔ P) → IfOk result (λ is. IsTrue is ↔ Q)
if_iff (Ok is) P Q forth back h = (λ t. forth (h.0 t), λ q. h.1 (back q))
if_iff (Err f) P Q forth back h = tt

pub if_at : {E : Type 0} (result : Result (Option Nsec3Data) E) (says : List ℕ → Option Nsec3) (h : List ℕ) (want : Option Nsec3) → want ≡ says h → IfOk result (λ found. (hash : List ℕ) → option_map (nsec3_by hash) found ≡ says hash) → IfOk result (λ found. option_map (nsec3_by h) found ≡ want)
if_at (Ok found) says h want e f = f h ∙ sym e
if_at (Err g) says h want e f = tt

pub hash_lower : (by : Hashing) (name lower : DomainName) → lower ≡ lower_name name → hash_of by lower ≡ hash_of by name
hash_lower by name lower e = ap (hash_of by) e ∙ hash_alike by (lower_name name) name (lower_labels-twice name.labels)

pub first_label_at : (wire : List ℕ) (labels : List (List ℕ)) → wire ≡ wire_form labels → 33 ≤ length wire → slice_index_or wire 0 0 ≡ 32 → hash_in (take 32 (drop 1 wire)) ≡ label_hash labels
first_label_at wire labels is some e = subst (λ (w : List ℕ). hash_in (take 32 (drop 1 w)) ≡ label_hash labels) (sym is) (first_label labels (subst (λ (w : List ℕ). 33 ≤ length w) is some) (subst (λ (w : List ℕ). slice_index_or w 0 0 ≡ 32) is e))
