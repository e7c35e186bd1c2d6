-- What a zone has not, told by its keys.
use Rattle.std.proofs.Common.{◌≡◌, ◌<◌, ◌+◌, ◌-◌, ℕ, suc, Bool, true, false, cond, ◌&&◌, ◌||◌, List, [], ◌∷◌, ◌++◌, get_or, length, length-append, Some, inl, inr, refl, sym, ap, subst, ◌∙◌, arith}
use Rattle.std.specs.Prelude.{◌==◌, is_some}
use Rattle.std.specs.Char.{to_ascii_lowercase}
use Rattle.std.specs.List.{All, Contains}
use Rattle.std.specs.Map.{keys_of, lookup}
use Rattle.std.specs.Ordering.{is_eq, nat_cmp}
use Rattle.std.proofs.lemmas.Bool.{cases_lt}
use Rattle.std.proofs.lemmas.Bool.Decides.{nat_tests}
use Rattle.std.proofs.lemmas.List.{get_or-append-add, length-map}
use Rattle.std.proofs.lemmas.List.Elements.{All-contains, Contains-append_right}
use Rattle.std.proofs.lemmas.Str.Ascii.{lowercase_is}
use Rattle.wire_names.specs.rr.domain.DomainName.{DomainName, name_len, wire_form}
use Rattle.wire_names.specs.representation.NameHash.{equal_is}
use Rattle.wire_names.specs.rr.domain.NameOrder.{Encloses, SameName, lower_label, lower_labels, name_cmp}
use Rattle.wire_messages.specs.declared.rr.rr_key.RrKey.{RrKey}
use Rattle.hickory_base.proofs.lemmas.zone_store.ZoneByName.{eq_numbers, eq_then}
use Rattle.hickory_base.specs.zone_store.ZoneSets.{is_key}
use Rattle.wire_names.proofs.lemmas.rr.domain.WireForm.{name_len-wire_form}
use Rattle.zone_answers.proofs.lemmas.names.EnclosedBetween.{same_of}
use Rattle.zone_answers.proofs.lemmas.names.WildcardLabels.{lower_len}
use Rattle.zone_answers.proofs.lemmas.zones.Cuts.{encloses_length}
use Rattle.zone_answers.specs.declared.features.Lengths.{Lengths}
use Rattle.zone_answers.specs.representation.Features.{CutsNothing, CutsWithin, IsNoDname, IsOfLength, IsStarless, IsWildWithin, has_star}
use Rattle.zone_answers.specs.Zones.{Exists, HasDname, IsCut, Records, Sets, Zone, rrset, wildcard}

and_both : (a b : Bool) → (a && b) ≡ true → (a ≡ true) × (b ≡ true)
and_both true b h = (refl, h)
and_both false b h = absurd cc

same_number : (a b : ℕ) → (a == b) ≡ true → a ≡ b
same_number a b h = grind (arith, nat_tests)

-- an RRset lies under a key of its name and type
pub record Under (sets : Sets) (name : DomainName) (t : ℕ) : Type 0 where
  pub key : RrKey
  pub held : Contains (keys_of sets) key
  pub same : SameName name key.name
  pub of_type : t ≡ key.record_type

under_step : (b : Bool) (name : DomainName) (t : ℕ) (e : RrKey × Records) (sets : Sets) → is_key name t e.0 ≡ b → is_some (cond b (Some e.1) (lookup (is_key name t) sets)) ≡ true
    → (is_some (lookup (is_key name t) sets) ≡ true → Under sets name t) → Under (e ∷ sets) name t
under_step true name t e sets is h go =
    let both = and_both (is_eq (name_cmp name e.0.name)) (is_eq (nat_cmp t e.0.record_type)) (sym (eq_then (name_cmp name e.0.name) (nat_cmp t e.0.record_type)) ∙ is) in
    record {
      key = e.0;
      held = (0, omega arith, refl);
      same = same_of name e.0.name (equal_is (name_cmp name e.0.name) both.0);
      of_type = same_number t e.0.record_type (sym (eq_numbers t e.0.record_type) ∙ both.1);
    }
under_step false name t e sets is h go =
    let x : Under sets name t = go h in
    record { key = x.key; held = Contains-append_right (e.0 ∷ []) (keys_of sets) x.key x.held; same = x.same; of_type = x.of_type }

under : (sets : Sets) (name : DomainName) (t : ℕ) → is_some (rrset sets name t) ≡ true → Under sets name t
under [] name t h = absurd cc
under (e ∷ sets) name t h = under_step (is_key name t e.0) name t e sets refl h (under sets name t)

pub none_cut : (zone : Zone) → All (CutsNothing zone.origin) (keys_of zone.sets) → (name : DomainName) → ¬ (IsCut zone name)
none_cut zone all name c =
    let x : Under zone.sets name 2 = under zone.sets name 2 c.servers in
    let n : CutsNothing zone.origin x.key = All-contains (CutsNothing zone.origin) (keys_of zone.sets) x.key all x.held in
    let e : Encloses x.key.name.labels zone.origin.labels = n.servers (sym x.of_type) in
    absurd (omega (arith, encloses_length _ _ e, ap length x.same.labels, length-map name.labels lower_label, length-map x.key.name.labels lower_label, c.below_apex))

pub none_redirecting : (zone : Zone) → All IsNoDname (keys_of zone.sets) → (name : DomainName) → ¬ (HasDname zone name)
none_redirecting zone all name d =
    let x : Under zone.sets name 39 = under zone.sets name 39 d.dname in
    All-contains IsNoDname (keys_of zone.sets) x.key all x.held (sym x.of_type)

star : (c : ℕ) → to_ascii_lowercase c ≡ 42 → c ≡ 42
star c e = elim (cases_lt c 65) [
  | inl small ↦ sym ((lowercase_is c).1 small) ∙ e
  | inr some ↦ elim (cases_lt 90 c) [
    | inl big ↦ sym ((lowercase_is c).2 big) ∙ e
    | inr letter ↦ absurd (omega (arith, (lowercase_is c).0 (some, omega arith), e))
  ]
]

or_none : (a b : Bool) → (a || b) ≡ false → (a ≡ false) × (b ≡ false)
or_none true b h = absurd cc
or_none false b h = (refl, h)

no_star : (c : ℕ) → (c == 42) ≡ false → ¬ (c ≡ 42)
no_star c h e = absurd (grind (arith, nat_tests))

head_star : (l rest : List ℕ) → has_star (l ++ rest) ≡ false → lower_label l ≡ 42 ∷ [] → ⊥
head_star [] rest a e = absurd cc
head_star (c ∷ l) rest a e = let first : to_ascii_lowercase c ≡ 42 = cc in no_star c (or_none (c == 42) (has_star (l ++ rest)) a).0 (star c first)

rest_of : (l rest : List ℕ) → has_star (l ++ rest) ≡ false → has_star rest ≡ false
rest_of [] rest a = a
rest_of (c ∷ l) rest a = rest_of l rest (or_none (c == 42) (has_star (l ++ rest)) a).1

-- a label that is `*` is an octet `*` of the name
none_inside : (ls front more : List (List ℕ)) → has_star (wire_form ls) ≡ false → lower_labels ls ≡ front ++ (42 ∷ []) ∷ more → ⊥
none_inside [] [] more a e = absurd cc
none_inside [] (f ∷ front) more a e = absurd cc
none_inside (l ∷ ls) [] more a e =
    let first : lower_label l ≡ 42 ∷ [] = cc in
    head_star l (wire_form ls) (or_none (length l == 42) (has_star (l ++ wire_form ls)) a).1 first
none_inside (l ∷ ls) (f ∷ front) more a e =
    let next : lower_labels ls ≡ front ++ (42 ∷ []) ∷ more = cc in
    none_inside ls front more (rest_of l (wire_form ls) (or_none (length l == 42) (has_star (l ++ wire_form ls)) a).1) next

pub none_wild : (sets : Sets) → All IsStarless (keys_of sets) → (encloser : DomainName) → ¬ (Exists sets (wildcard encloser))
none_wild sets all encloser x =
    let n : IsStarless x.owner = All-contains IsStarless (keys_of sets) x.owner all x.held in
    none_inside x.owner.name.labels x.at_or_below.front (lower_labels encloser.labels) n.octets x.at_or_below.ends

same_size : (ls ms : List (List ℕ)) → lower_labels ls ≡ lower_labels ms → length (wire_form ls) ≡ length (wire_form ms)
same_size ls ms e = omega (arith, ap name_len e, lower_len ls, lower_len ms, name_len-wire_form ls, name_len-wire_form ms)

-- a cut is at a name of such a length
pub cut_of_length : (zone : Zone) (lengths : Lengths) → All (CutsWithin zone.origin lengths) (keys_of zone.sets) → (name : DomainName) → IsCut zone name → IsOfLength lengths (length (wire_form name.labels))
cut_of_length zone lengths all name c =
    let x : Under zone.sets name 2 = under zone.sets name 2 c.servers in
    let n : CutsWithin zone.origin lengths x.key = All-contains (CutsWithin zone.origin lengths) (keys_of zone.sets) x.key all x.held in
    elim (n.servers (sym x.of_type)) [
      | inl e ↦ absurd (omega (arith, encloses_length _ _ e, ap length x.same.labels, length-map name.labels lower_label, length-map x.key.name.labels lower_label, c.below_apex))
      | inr o ↦ subst (IsOfLength lengths) (same_size x.key.name.labels name.labels (sym x.same.labels)) o
    ]

-- a `*` of the octets behind which so many stand
record StarAt (bytes : List ℕ) (rest : ℕ) : Type 0 where
  at : ℕ
  within : at < length bytes
  star : get_or bytes at 0 ≡ 42
  behind : length bytes - at - 1 ≡ rest

star_first : (l : List ℕ) (ls more : List (List ℕ)) → lower_label l ≡ 42 ∷ [] → lower_labels ls ≡ lower_labels more → StarAt (wire_form (l ∷ ls)) (length (wire_form more))
star_first [] ls more first rest = absurd cc
star_first (c ∷ []) ls more first rest =
    let is : to_ascii_lowercase c ≡ 42 = cc in
    record { at = 1; within = omega arith; star = star c is; behind = omega (arith, same_size ls more rest) }
star_first (c ∷ (d ∷ l)) ls more first rest = absurd cc

star_later : (l bytes : List ℕ) (n : ℕ) → StarAt bytes n → StarAt (length l ∷ (l ++ bytes)) n
star_later l bytes n s = record {
  at = 1 + (length l + s.at);
  within = omega (arith, s.within, length-append l bytes);
  star = let e : 1 + (length l + s.at) ≡ suc (length l + s.at) = omega arith in ap (λ k. get_or (length l ∷ (l ++ bytes)) k 0) e ∙ get_or-append-add l bytes s.at 0 ∙ s.star;
  behind = omega (arith, s.behind, s.within, length-append l bytes);
}

-- a label that is `*` is an octet `*` of the name, and behind it stand the labels behind that label
star_inside : (ls front more : List (List ℕ)) → lower_labels ls ≡ front ++ (42 ∷ []) ∷ lower_labels more → StarAt (wire_form ls) (length (wire_form more))
star_inside [] [] more e = absurd cc
star_inside [] (f ∷ front) more e = absurd cc
star_inside (l ∷ ls) [] more e =
    let first : lower_label l ≡ 42 ∷ [] = cc in
    let rest : lower_labels ls ≡ lower_labels more = cc in
    star_first l ls more first rest
star_inside (l ∷ ls) (f ∷ front) more e =
    let next : lower_labels ls ≡ front ++ (42 ∷ []) ∷ lower_labels more = cc in
    star_later l (wire_form ls) (length (wire_form more)) (star_inside ls front more next)

-- a wildcard stands right below a name of such a length
pub wild_of_length : (sets : Sets) (lengths : Lengths) → All (IsWildWithin lengths) (keys_of sets) → (encloser : DomainName) → Exists sets (wildcard encloser) → IsOfLength lengths (length (wire_form encloser.labels))
wild_of_length sets lengths all encloser x =
    let n : IsWildWithin lengths x.owner = All-contains (IsWildWithin lengths) (keys_of sets) x.owner all x.held in
    let s : StarAt (wire_form x.owner.name.labels) (length (wire_form encloser.labels)) = star_inside x.owner.name.labels x.at_or_below.front encloser.labels x.at_or_below.ends in
    subst (IsOfLength lengths) s.behind (n.stars.each s.at s.within s.star)
