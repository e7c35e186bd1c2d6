-- The records of the replies of RFC 4035 appendix B and RFC 5155 appendix B are proofs.
use Rattle.std.proofs.Common.{◌≡◌, ◌<◌, ◌==◌, ◌&&◌, ℕ, zero, suc, Bool, true, false, List, [], ◌∷◌, drop, inl, inr, refl, sym, subst, ◌∙◌, arith}
use Rattle.std.specs.Prelude.{not}
use Rattle.std.specs.List.{Contains}
use Rattle.std.proofs.lemmas.Bool.Decides.{nat_tests}
use Rattle.wire_names.proofs.lemmas.rr.domain.Ends.{ends-decides}
use Rattle.wire_names.specs.rr.domain.DomainName.{DomainName}
use Rattle.wire_names.specs.rr.domain.NameOrder.{Encloses, encloses}
use Rattle.zone_denials.proofs.lemmas.Members.{head_or_in}
use Rattle.zone_denials.specs.Nsec.{IsAboveEnd, Nsec, closest, insecure, lacking, missing, wild_lacking}
use Rattle.zone_denials.specs.Nsec3 as nsec3
use Rattle.zone_denials.specs.WorkedDenials.{EmptyNoData3, NameError, NameError3, NoData, NoData3, UnsignedZone, UnsignedZone3, WildcardExpansion, WildcardExpansion3, WildcardNoData, WildcardNoData3, at_apex, at_b, at_ns1, at_wild, at_xyw, of_apex, of_cut, of_ns1, of_ns2, of_w, of_wild, of_xw, of_yw, wild_name}

false_true : false ≡ true → ⊥
false_true e = cc

apart : (ns ms : List (List ℕ)) → encloses ns ms ≡ false → ¬ (Encloses ns ms)
apart ns ms e h = false_true ((ends-decides ns ms false (sym e)).1 h)

encloses_by : (ns ms : List (List ℕ)) → encloses ns ms ≡ true → Encloses ns ms
encloses_by ns ms e = (ends-decides ns ms true (sym e)).0 refl

not_above : (n : Nsec) (labels : List (List ℕ)) → encloses labels n.owner.labels ≡ false → encloses labels n.next.labels ≡ false → ¬ (IsAboveEnd n labels)
not_above n labels e f (inl h) = apart labels n.owner.labels e h
not_above n labels e f (inr h) = apart labels n.next.labels f h

abbrev has_none : ℕ → List ℕ → Bool
has_none t [] = true
has_none t (u ∷ us) = not (u == t) && has_none t us

lacks : (t : ℕ) (us : List ℕ) → has_none t us ≡ true → ¬ (Contains us t)
lacks t [] e h = omega (arith, h.1)
lacks t (u ∷ us) e h = elim (head_or_in u us t h) [
  | inl is ↦ absurd (by_test (u == t) refl e is)
  | inr more ↦ lacks t us (rest (u == t) e) more
] where
  by_test : (b : Bool) → (u == t) ≡ b → (not b && has_none t us) ≡ true → u ≡ t → ⊥
  by_test true g e is = false_true e
  by_test false g e is = let same : (u == t) ≡ true = grind (arith, nat_tests) in false_true (sym g ∙ same)

  rest : (b : Bool) → (not b && has_none t us) ≡ true → has_none t us ≡ true
  rest true e = absurd (false_true e)
  rest false e = e

-- a fact on none of the numbers below one, or below two
first_not : (P : ℕ → Type 0) → ¬ (P 0) → (j : ℕ) → j < 1 → ¬ (P j)
first_not P none zero less = none
first_not P none (suc j) less = absurd (omega (arith, less))

two_not : (P : ℕ → Type 0) → ¬ (P 0) → ¬ (P 1) → (j : ℕ) → j < 2 → ¬ (P j)
two_not P none other zero less = none
two_not P none other (suc zero) less = other
two_not P none other (suc (suc j)) less = absurd (omega (arith, less))

pub name_error : NameError
name_error = missing {n = at_b} {m = at_apex} {k = 1} (0, omega arith, refl) (1, omega arith, refl)
    (record { covers = record { after = refl; before = inl refl }; is_open = λ e. absurd (apart _ _ refl e); none_below = apart _ _ refl })
    (record { above = inl (encloses_by _ _ refl); longest = first_not (λ j. IsAboveEnd at_b (drop j _)) (not_above at_b _ refl refl) })
    (record {
      covers = record { after = refl; before = inl refl };
      is_open = λ _. record { uncut = λ c. c.above (1, omega arith, refl); undirected = lacks 39 at_apex.types refl };
      none_below = apart _ _ refl;
    })

pub no_data : NoData
no_data = lacking {n = at_ns1} (0, omega arith, refl) (record {
  matches = record { labels = refl; marks = refl };
  lacks = lacks 15 at_ns1.types refl;
  no_alias = lacks 5 at_ns1.types refl;
  cut = λ c. absurd (lacks 2 at_ns1.types refl c.servers);
  apex = λ e. absurd (omega (arith, e));
})

pub unsigned_zone : UnsignedZone
unsigned_zone = insecure {n = at_b} (0, omega arith, refl) (record { labels = refl; marks = refl }) (record { servers = (0, omega arith, refl); above = lacks 6 at_b.types refl }) (lacks 43 at_b.types refl)

pub wildcard_expansion : WildcardExpansion
wildcard_expansion = closest {n = at_xyw} {k = 2} (0, omega arith, refl)
    (record { covers = record { after = refl; before = inl refl }; is_open = λ e. absurd (apart _ _ refl e); none_below = apart _ _ refl })
    (record { above = inl (encloses_by _ _ refl); longest = two_not (λ j. IsAboveEnd at_xyw (drop j wild_name.labels)) (not_above at_xyw _ refl refl) (not_above at_xyw _ refl refl) })

pub wildcard_no_data : WildcardNoData
wildcard_no_data = wild_lacking {n = at_xyw} {m = at_wild} {k = 2} (0, omega arith, refl) (1, omega arith, refl)
    (record { covers = record { after = refl; before = inl refl }; is_open = λ e. absurd (apart _ _ refl e); none_below = apart _ _ refl })
    (record { above = inl (encloses_by _ _ refl); longest = two_not (λ j. IsAboveEnd at_xyw (drop j wild_name.labels)) (not_above at_xyw _ refl refl) (not_above at_xyw _ refl refl) })
    (record {
      matches = record { labels = refl; marks = refl };
      lacks = lacks 28 at_wild.types refl;
      no_alias = lacks 5 at_wild.types refl;
      cut = λ c. absurd (lacks 2 at_wild.types refl c.servers);
      apex = λ e. absurd (omega (arith, e));
    })

-- a hash that is known is between two others
between : (n : nsec3.Nsec3) (hash known : List ℕ) → hash ≡ known → nsec3.IsBelow n.hash known → nsec3.IsBelow known n.next → nsec3.CoversHash n hash
between n hash known e up down = inl (subst (nsec3.IsBelow n.hash) (sym e) up, subst (λ (h : List ℕ). nsec3.IsBelow h n.next) (sym e) down)

open_without : (n : nsec3.Nsec3) → has_none 2 n.types ≡ true → has_none 39 n.types ≡ true → nsec3.IsOpen3 n
open_without n cut dname = record { uncut = λ c. lacks 2 n.types cut c.servers; undirected = lacks 39 n.types dname }

pub name_error3 : NameError3
name_error3 h = nsec3.missing {k = 1} {c = of_apex} {m = of_cut}
    (record { match = of_xw; put = (1, omega arith, refl); matches = sym h.at_xw; is_open = open_without of_xw refl refl; covers_put = (0, omega arith, refl); covers = between of_apex _ _ h.no_cxw refl refl })
    (2, omega arith, refl) (between of_cut _ _ h.no_wild refl refl)

lacks_by : (n : nsec3.Nsec3) (name : DomainName) (t : ℕ) → n.hash ≡ nsec3.hash_of (record { salt = 170 ∷ 187 ∷ 204 ∷ 221 ∷ []; iterations = 12 }) name → has_none t n.types ≡ true → has_none 5 n.types ≡ true → has_none 2 n.types ≡ true → ¬ (t ≡ 43)
    → nsec3.ShowsLack3 (record { salt = 170 ∷ 187 ∷ 204 ∷ 221 ∷ []; iterations = 12 }) n name t
lacks_by n name t is none alias cut other = record {
  matches = is;
  lacks = lacks t n.types none;
  no_alias = lacks 5 n.types alias;
  cut = λ c. absurd (lacks 2 n.types cut c.servers);
  apex = λ e. absurd (other e);
}

pub no_data3 : NoData3
no_data3 h = nsec3.lacking {n = of_ns1} (0, omega arith, refl) (lacks_by of_ns1 _ 15 (sym h.at_ns1) refl refl refl (λ e. omega (arith, e)))

pub empty_no_data3 : EmptyNoData3
empty_no_data3 h = nsec3.lacking {n = of_yw} (0, omega arith, refl) (lacks_by of_yw _ 1 (sym h.at_yw) refl refl refl (λ e. omega (arith, e)))

pub unsigned_zone3 : UnsignedZone3
unsigned_zone3 h = nsec3.out {k = 0} {c = of_cut} (record {
  match = of_apex;
  put = (1, omega arith, refl);
  matches = sym h.at_apex;
  is_open = record { uncut = λ c. c.above (3, omega arith, refl); undirected = lacks 39 of_apex.types refl };
  covers_put = (0, omega arith, refl);
  covers = between of_cut _ _ h.no_c refl refl;
}) refl

pub wildcard_expansion3 : WildcardExpansion3
wildcard_expansion3 h = nsec3.closest {k = 1} {c = of_ns2} (0, omega arith, refl) (between of_ns2 _ _ h.no_zw refl refl)

pub wildcard_no_data3 : WildcardNoData3
wildcard_no_data3 h = nsec3.wild_lacking {k = 1} {c = of_ns2} {n = of_wild}
    (record { match = of_w; put = (0, omega arith, refl); matches = sym h.at_w; is_open = open_without of_w refl refl; covers_put = (1, omega arith, refl); covers = between of_ns2 _ _ h.no_zw refl refl })
    (2, omega arith, refl) (lacks_by of_wild _ 28 (sym h.at_wild) refl refl refl (λ e. omega (arith, e)))
