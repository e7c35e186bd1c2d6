-- Whether a request is to the zone of an apex is decided: its question, the apexes and the ends of names are compared.
use Rattle.std.proofs.Common.{◌≡◌, ◌⊎◌, inl, inr, ℕ, ◌-◌, ◌≤◌, ◌<◌, Bool, true, false, true≢false, List, [], ◌∷◌, length, take, drop, Result, Ok, Err, All, Contains, Decides, bytes_eq, refl, sym, ap, ap₂, subst, arith}
use Rattle.std.specs.Cmp.Lexicographic.{pointwise}
use Rattle.std.specs.List.{AllByRecursion}
use Rattle.std.proofs.lemmas.Bool.{cases_lt}
use Rattle.std.proofs.lemmas.Bool.Decides.{not_from_Decides}
use Rattle.std.proofs.lemmas.List.Elements.{All-from_recursion, recursion_from_All}
use Rattle.std.proofs.lemmas.Slice.Eq.{bytes_eq-Decides, ends_is, slice_eq-Decides}
use Rattle.wire_names.specs.rr.domain.DomainName.{DomainName}
use Rattle.wire_names.specs.rr.domain.NameOrder.{Encloses, SameName, lower_labels, lower_name}
use Rattle.wire_messages.specs.declared.op.query.Query.{Query}
use Rattle.hickory_base.specs.requests.Questions.{one_query}
use Rattle.hickory_base.specs.requests.Requests.{ReceivedRequest}
use Rattle.hickory_base.specs.declared.errors.LookupError.{LookupError}
use Rattle.hickory_catalog.specs.requests.Alone.{IsOfZone}
use Rattle.hickory_catalog.specs.zones.Find.{IsNearest, MayAnswer}
use Rattle.hickory_catalog.proofs.lemmas.zones.Alone.{contains_behind, contains_cases}
use Rattle.hickory_catalog.proofs.lemmas.zones.Nearest.{MayBy}

abbrev Decided : Type 0 → Type 0
Decided P = P ⊎ (¬ P)

module _ {P : Type 0} where
  by_test : (b : Bool) → Decides b P → Decided P
  by_test true tells = inl (tells.0 refl)
  by_test false tells = inr (not_from_Decides false tells refl)

  -- of two claims that follow from each other
  as_well : {Q : Type 0} → (P → Q) → (Q → P) → Decided P → Decided Q
  as_well there back (inl p) = inl (there p)
  as_well there back (inr fails) = inr (λ q. fails (back q))

  both : {Q : Type 0} → Decided P → Decided Q → Decided (P × Q)
  both (inl p) (inl q) = inl (p, q)
  both (inl p) (inr fails) = inr (λ h. fails h.1)
  both (inr fails) other = inr (λ h. fails h.0)

-- names
marks_decided : (a b : Bool) → Decided (a ≡ b)
marks_decided true true = inl refl
marks_decided true false = inr true≢false
marks_decided false true = inr (λ e. true≢false (sym e))
marks_decided false false = inl refl

labels_decided : (ls ms : List (List ℕ)) → Decided (ls ≡ ms)
labels_decided ls ms = by_test (pointwise bytes_eq ls ms) (slice_eq-Decides bytes_eq-Decides ls ms (pointwise bytes_eq ls ms) refl)

name_of_parts : (a b : DomainName) → (a.labels ≡ b.labels) × (a.is_fqdn ≡ b.is_fqdn) → a ≡ b
name_of_parts a b h = ap₂ (λ (labels : List (List ℕ)) (mark : Bool). let name : DomainName = record { labels = labels; is_fqdn = mark } in name) h.0 h.1

name_decided : (a b : DomainName) → Decided (a ≡ b)
name_decided a b =
    as_well (name_of_parts a b) (λ e. (ap (λ (name : DomainName). name.labels) e, ap (λ (name : DomainName). name.is_fqdn) e)) (both (labels_decided a.labels b.labels) (marks_decided a.is_fqdn b.is_fqdn))

same_decided : (a b : DomainName) → Decided (SameName a b)
same_decided a b =
    as_well {P = (lower_labels a.labels ≡ lower_labels b.labels) × (a.is_fqdn ≡ b.is_fqdn)} {Q = SameName a b} (λ h. record { labels = h.0; marks = h.1 }) (λ same. (same.labels, same.marks))
    (both (labels_decided (lower_labels a.labels) (lower_labels b.labels)) (marks_decided a.is_fqdn b.is_fqdn))

encloses_decided : (ns ms : List (List ℕ)) → Decided (Encloses ns ms)
encloses_decided ns ms =
    let apex : List (List ℕ) = lower_labels ns in
    let name : List (List ℕ) = lower_labels ms in
    let test : Bool = pointwise bytes_eq apex (drop (length name - length apex) name) in
    let tells = ends_is bytes_eq-Decides name apex test refl in
    by_test test (λ yes. record { front = take (length name - length apex) name; ends = tells.0 yes }, λ encloses. tells.1 encloses.front encloses.ends)

may_by_decided : (b : Bool) (apex name : DomainName) → Decided (MayBy b apex name)
may_by_decided true apex name = both (marks_decided apex.is_fqdn true) (encloses_decided apex.labels name.labels)
may_by_decided false apex name = same_decided apex name

may_decided : (apex name : DomainName) → Decided (MayAnswer apex name)
may_decided apex name = may_by_decided name.is_fqdn apex name

-- that the apex may not answer, or has no more labels than n
short_decided : (name : DomainName) (n : ℕ) (apex : DomainName) → Decided (MayAnswer apex name → length apex.labels ≤ n)
short_decided name n apex = by (may_decided apex name) (cases_lt n (length apex.labels)) where
  by : Decided (MayAnswer apex name) → (n < length apex.labels) ⊎ (length apex.labels ≤ n) → Decided (MayAnswer apex name → length apex.labels ≤ n)
  by may (inr short) = inl (λ _. short)
  by (inl may) (inl long) = inr (λ h. omega (arith, h may, long))
  by (inr fails) (inl long) = inl (λ may. absurd (fails may))

module _ {X : Type 0} (P : X → Type 0) (each : (x : X) → Decided (P x)) where
  each_decided : (xs : List X) → Decided (AllByRecursion P xs)
  each_decided [] = inl tt
  each_decided (x ∷ xs) = both (each x) (each_decided xs)

  all_decided : (xs : List X) → Decided (All P xs)
  all_decided xs = as_well (All-from_recursion P xs) (recursion_from_All P xs) (each_decided xs)

module _ {V : Type 0} where
  -- for some value, or for none
  abbrev OneOrNone : (V → Type 0) → Type 0
  OneOrNone P = ((value : V) × P value) ⊎ ((value : V) → ¬ (P value))

  kept_at : (apex : DomainName) (zone : DomainName × V) → zone.0 ≡ apex → zone ≡ (apex, zone.1)
  kept_at apex zone e = ap (λ (name : DomainName). let z : DomainName × V = (name, zone.1) in z) e

  zone_step : (apex : DomainName) (zone : DomainName × V) (zones : List (DomainName × V)) → Decided (zone.0 ≡ apex) → OneOrNone (λ value. Contains zones (apex, value)) → OneOrNone (λ value. Contains (zone ∷ zones) (apex, value))
  zone_step apex zone zones (inl e) behind = inl (zone.1, (0, omega arith, kept_at apex zone e))
  zone_step apex zone zones (inr other) (inl found) = inl (found.0, contains_behind zone (apex, found.0) zones found.1)
  zone_step apex zone zones (inr other) (inr none) = inr (λ value among. not_there value (contains_cases zone (apex, value) zones among)) where
    not_there : (value : V) → (zone ≡ (apex, value)) ⊎ Contains zones (apex, value) → ⊥
    not_there value (inl same) = other (ap (λ (z : DomainName × V). z.0) same)
    not_there value (inr behind) = none value behind

  zone_decided : (zones : List (DomainName × V)) (apex : DomainName) → OneOrNone (λ value. Contains zones (apex, value))
  zone_decided [] apex = inr (λ value among. omega (arith, among.1))
  zone_decided (zone ∷ zones) apex = zone_step apex zone zones (name_decided zone.0 apex) (zone_decided zones apex)

  longest_decided : (zones : List (DomainName × V)) (name : DomainName) (n : ℕ) → Decided (All (λ (other : DomainName × V). MayAnswer other.0 name → length other.0.labels ≤ n) zones)
  longest_decided zones name n = all_decided (λ (other : DomainName × V). MayAnswer other.0 name → length other.0.labels ≤ n) (λ other. short_decided name n other.0) zones

  nearest_decided : (zones : List (DomainName × V)) (name apex : DomainName) → OneOrNone (λ value. IsNearest zones name (apex, value))
  nearest_decided zones name apex = by (zone_decided zones apex) (both (may_decided apex name) (longest_decided zones name (length apex.labels))) where
    by : OneOrNone (λ value. Contains zones (apex, value)) → Decided (MayAnswer apex name × All (λ (other : DomainName × V). MayAnswer other.0 name → length other.0.labels ≤ length apex.labels) zones) → OneOrNone (λ value. IsNearest zones name (apex, value))
    by (inr none) _ = inr (λ value near. none value near.among)
    by (inl found) (inl h) = inl (found.0, record { among = found.1; may_answer = h.0; longest = h.1 })
    by (inl found) (inr fails) = inr (λ value near. fails (near.may_answer, near.longest))

  pub of_zone_decided : (zones : List (DomainName × V)) (request : ReceivedRequest) (apex : DomainName) → OneOrNone (λ value. IsOfZone zones request (apex, value))
  of_zone_decided zones request apex = by (one_query request.message.queries.queries) refl where
    of_query : (query : Query) → one_query request.message.queries.queries ≡ Ok query → OneOrNone (λ value. IsNearest zones (lower_name query.name) (apex, value)) → OneOrNone (λ value. IsOfZone zones request (apex, value))
    of_query query is (inl found) = inl (found.0, record { query = query; asks = is; nearest = found.1 })
    of_query query is (inr none) = inr (λ value of.
        let same : of.query ≡ query = let asks = of.asks in cc in
        none value (subst (λ (q : Query). IsNearest zones (lower_name q.name) (apex, value)) same of.nearest))

    by : (result : Result Query LookupError) → one_query request.message.queries.queries ≡ result → OneOrNone (λ value. IsOfZone zones request (apex, value))
    by (Err e) is = inr (λ value of. let asks = of.asks in absurd cc)
    by (Ok query) is = of_query query is (nearest_decided zones (lower_name query.name) apex)
