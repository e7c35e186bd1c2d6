-- The nearest zone is found as the last one up to the name, or up to what the name shares with that one at its end.
use Rattle.std.proofs.Common.{◌≡◌, ℕ, ◌+◌, ◌-◌, ◌<◌, ◌≤◌, inl, inr, Bool, true, false, List, [], ◌∷◌, ◌++◌, length, take, drop, Option, Some, None, refl, sym, ap, subst, ◌∙◌, arith, length-append, length-drop, append_assoc}
use Rattle.std.specs.Prelude.{slice_index_or}
use Rattle.std.specs.Bool.{MatchBool}
use Rattle.std.specs.List.{All}
use Rattle.std.specs.Map.{lookup}
use Rattle.std.specs.BTreeMap.{is_at}
use Rattle.std.specs.BTreeMap.Range.{IsLeBy}
use Rattle.std.proofs.lemmas.Bool.{cases_lt}
use Rattle.std.proofs.lemmas.List.{length-map, map-append, take-append-drop}
use Rattle.wire_names.specs.rr.domain.DomainName.{DomainName}
use Rattle.wire_names.specs.rr.domain.NameOrder.{SameName, Encloses, IsSharedEnd, name_cmp, lower_label, lower_labels}
use Rattle.hickory_catalog.specs.zones.Find.{MayAnswer, Finds}
use Rattle.hickory_catalog.specs.representation.Search.{IsLastUpTo, LastUpTo}
use Rattle.hickory_catalog.proofs.lemmas.zones.EnclosedBetween.{between, between_same, encloses_up_to}
use Rattle.hickory_catalog.proofs.lemmas.zones.Lookups.{Found, found_in, none_in}

-- two ends of one list that are as long are the same
pub ends_same : (front other xs ys : List (List ℕ)) → front ++ xs ≡ other ++ ys → length xs ≡ length ys → xs ≡ ys
ends_same [] [] xs ys e n = e
ends_same [] (l ∷ other) xs ys e n = absurd (omega (arith, ap length e, length-append other ys))
ends_same (l ∷ front) [] xs ys e n = absurd (omega (arith, ap length e, length-append front xs))
ends_same (l ∷ front) (m ∷ other) xs ys e n = let rest : front ++ xs ≡ other ++ ys = cc in ends_same front other xs ys rest n

pub lower_length : (ls : List (List ℕ)) → length (lower_labels ls) ≡ length ls
lower_length ls = length-map ls lower_label

pub same_length : (a b : DomainName) → SameName a b → length a.labels ≡ length b.labels
same_length a b s = omega (arith, ap length s.labels, lower_length a.labels, lower_length b.labels)

-- the two cases of what may answer
abbrev pub MayBy : Bool → DomainName → DomainName → Type 0
MayBy b apex name = MatchBool b ((apex.is_fqdn ≡ true) × Encloses apex.labels name.labels) (SameName apex name)

no_longer_by : (b : Bool) (apex name : DomainName) → MayBy b apex name → length apex.labels ≤ length name.labels
no_longer_by true apex name h = omega (arith, ap length h.1.ends, length-append h.1.front (lower_labels apex.labels), lower_length apex.labels, lower_length name.labels)
no_longer_by false apex name h = omega (arith, same_length apex name h)

pub no_longer : (apex name : DomainName) → MayAnswer apex name → length apex.labels ≤ length name.labels
no_longer apex name h = no_longer_by name.is_fqdn apex name h

-- a fully qualified name above a fully qualified one, or that one
pub record IsAbove (name ancestor : DomainName) : Type 0 where
  pub front : List (List ℕ)
  pub ends : name.labels ≡ front ++ ancestor.labels
  pub asked : name.is_fqdn ≡ true
  pub marked : ancestor.is_fqdn ≡ true

lower_ends : (name ancestor : DomainName) (a : IsAbove name ancestor) → lower_labels name.labels ≡ lower_labels a.front ++ lower_labels ancestor.labels
lower_ends name ancestor a = ap lower_labels a.ends ∙ map-append lower_label a.front ancestor.labels

-- an apex that may answer and has as many labels as a name above is that name
same_at : (apex name ancestor : DomainName) → IsAbove name ancestor → MayAnswer apex name → length apex.labels ≡ length ancestor.labels → SameName apex ancestor
same_at apex name ancestor a may n =
    let h : MayBy true apex name = subst (λ (b : Bool). MayBy b apex name) a.asked may in
    let size : length (lower_labels apex.labels) ≡ length (lower_labels ancestor.labels) = omega (arith, lower_length apex.labels, lower_length ancestor.labels) in
    record {
      labels = ends_same h.1.front (lower_labels a.front) (lower_labels apex.labels) (lower_labels ancestor.labels) (sym h.1.ends ∙ lower_ends name ancestor a) size;
      marks = h.0 ∙ sym a.marked;
    }

-- the zones that may answer for the name have fewer labels than n
abbrev pub AreShorter : {V : Type 0} → List (DomainName × V) → DomainName → ℕ → Type 0
AreShorter {V} zones name n = All (λ (zone : DomainName × V). MayAnswer zone.0 name → length zone.0.labels < n) zones

-- they have fewer labels than the name above, and enclose the other name as well
abbrev pub EncloseBoth : {V : Type 0} → List (DomainName × V) → DomainName → DomainName → DomainName → Type 0
EncloseBoth {V} zones name ancestor other = All (λ (zone : DomainName × V). MayAnswer zone.0 name → (length zone.0.labels < length ancestor.labels) × Encloses zone.0.labels other.labels) zones

pub encloses_more : (ns ms : List (List ℕ)) → Encloses ns ms → length ns ≤ length ms
encloses_more ns ms e = omega (arith, ap length e.ends, length-append e.front (lower_labels ns), lower_length ns, lower_length ms)

-- of two ends of one list the shorter one is the end of the other
ends_within : (front other xs ys : List (List ℕ)) → front ++ xs ≡ other ++ ys → length xs ≤ length ys → (more : List (List ℕ)) × (ys ≡ more ++ xs)
ends_within front [] xs ys e n = (front, sym e)
ends_within [] (m ∷ other) xs ys e n = absurd (omega (arith, ap length e, length-append other ys))
ends_within (l ∷ front) (m ∷ other) xs ys e n = let rest : front ++ xs ≡ other ++ ys = cc in ends_within front other xs ys rest n

parts : (apex name : DomainName) → name.is_fqdn ≡ true → MayAnswer apex name → MayBy true apex name
parts apex name asked may = subst (λ (b : Bool). MayBy b apex name) asked may

-- an apex that may answer for the name, and has no more labels than a name above, encloses that one
encloses_above : (apex name ancestor : DomainName) → IsAbove name ancestor → MayAnswer apex name → length apex.labels ≤ length ancestor.labels → Encloses apex.labels ancestor.labels
encloses_above apex name ancestor a may n =
    let h : MayBy true apex name = parts apex name a.asked may in
    let r = ends_within h.1.front (lower_labels a.front) (lower_labels apex.labels) (lower_labels ancestor.labels) (sym h.1.ends ∙ lower_ends name ancestor a) (omega (arith, lower_length apex.labels, lower_length ancestor.labels)) in
    record { front = r.0; ends = r.1 }

-- and does not stand behind it
up_to_above : (apex name ancestor : DomainName) → IsAbove name ancestor → MayAnswer apex name → length apex.labels ≤ length ancestor.labels → IsLeBy name_cmp apex ancestor
up_to_above apex name ancestor a may n = encloses_up_to apex ancestor (parts apex name a.asked may).0 a.marked (encloses_above apex name ancestor a may n)

-- an apex that encloses a name above may answer
may_above : (apex name ancestor : DomainName) → IsAbove name ancestor → apex.is_fqdn ≡ true → Encloses apex.labels ancestor.labels → MayAnswer apex name
may_above apex name ancestor a mark e =
    let ends : lower_labels name.labels ≡ (lower_labels a.front ++ e.front) ++ lower_labels apex.labels =
    lower_ends name ancestor a ∙ ap (λ (ls : List (List ℕ)). lower_labels a.front ++ ls) e.ends ∙ sym (append_assoc (lower_labels a.front) e.front (lower_labels apex.labels)) in
    let h : MayBy true apex name = (mark, record { front = lower_labels a.front ++ e.front; ends = ends }) in
    subst (λ (b : Bool). MayBy b apex name) (sym a.asked) h

module _ {V : Type 0} (zones : List (DomainName × V)) (name : DomainName) where
  at_relative : (v : V) → name.is_fqdn ≡ false → Found zones name v → Finds zones name (Some v)
  at_relative v e f = (
    f.apex,
    record {
      among = f.among;
      may_answer = subst (λ (b : Bool). MayBy b f.apex name) (sym e) f.same;
      longest = λ k d h may. omega (arith, no_longer _ name may, same_length f.apex name f.same);
    },
  )

  not_at_relative : name.is_fqdn ≡ false → lookup (is_at (name_cmp name)) zones ≡ None → Finds zones name None
  not_at_relative e none = λ k d h may. none_in name zones none k d h (subst (λ (b : Bool). MayBy b (slice_index_or zones k d).0 name) e may)

  -- a name that is not fully qualified is looked up
  pub looked_up : (found : Option V) → name.is_fqdn ≡ false → lookup (is_at (name_cmp name)) zones ≡ found → Finds zones name found
  looked_up None e none = not_at_relative e none
  looked_up (Some v) e found = at_relative v e (found_in name zones v found)

  pub itself : name.is_fqdn ≡ true → IsAbove name name
  itself e = record { front = []; ends = refl; asked = e; marked = e }

  pub all_shorter : AreShorter zones name (length name.labels + 1)
  all_shorter = λ k d h may. omega (arith, no_longer _ name may)

  -- the last zone up to a name above that encloses it is the nearest
  pub reached : (ancestor : DomainName) (zone : DomainName × V) → IsAbove name ancestor → AreShorter zones name (length ancestor.labels + 1) → IsLastUpTo zones ancestor zone
      → zone.0.is_fqdn ≡ true → Encloses zone.0.labels ancestor.labels → Finds zones name (Some zone.1)
  reached ancestor zone a shorter last mark e = (
    zone.0,
    record {
      among = last.among;
      may_answer = may_above zone.0 name ancestor a mark e;
      longest = λ k d h may.
          let n : length (slice_index_or zones k d).0.labels ≤ length ancestor.labels = omega (arith, shorter k d h may) in
          let above : IsLeBy name_cmp (slice_index_or zones k d).0 ancestor = up_to_above _ name ancestor a may n in
          encloses_more _ _ (between (slice_index_or zones k d).0 zone.0 ancestor (last.last k d h above) last.up_to (encloses_above _ name ancestor a may n));
    },
  )

  -- no zone up to a name above: none answers
  pub none_reached : (ancestor : DomainName) → IsAbove name ancestor → AreShorter zones name (length ancestor.labels + 1) → LastUpTo zones ancestor None → Finds zones name None
  none_reached ancestor a shorter none = λ k d h may. none k d h (up_to_above _ name ancestor a may (omega (arith, shorter k d h may)))

  -- where the last zone up to a name above does not enclose it, only zones above both may answer
  pub passed : (ancestor : DomainName) (zone : DomainName × V) → IsAbove name ancestor → AreShorter zones name (length ancestor.labels + 1) → IsLastUpTo zones ancestor zone
      → ¬ ((zone.0.is_fqdn ≡ true) × Encloses zone.0.labels ancestor.labels) → EncloseBoth zones name ancestor zone.0
  passed ancestor zone a shorter last apart =
      λ k d h may.
      let n : length (slice_index_or zones k d).0.labels ≤ length ancestor.labels = omega (arith, shorter k d h may) in
      let up : IsLeBy name_cmp (slice_index_or zones k d).0 zone.0 = last.last k d h (up_to_above _ name ancestor a may n) in
      let ne = λ (size : length (slice_index_or zones k d).0.labels ≡ length ancestor.labels).
      let s : SameName zone.0 ancestor = between_same (slice_index_or zones k d).0 zone.0 ancestor up last.up_to (same_at _ name ancestor a may size) in
      apart (s.marks ∙ a.marked, record { front = []; ends = sym s.labels }) in
      (omega (arith, n, ne), between (slice_index_or zones k d).0 zone.0 ancestor up last.up_to (encloses_above _ name ancestor a may n))

  -- the end that a name above shares with the other name is a name above
  pub cut_above : (ancestor other next : DomainName) → IsAbove name ancestor → IsSharedEnd ancestor other next → IsAbove name next
  cut_above ancestor other next a s =
      subst (IsAbove name) (sym s.ends)
      (record {
        front = a.front ++ take s.count ancestor.labels;
        ends = a.ends ∙ ap (λ (ls : List (List ℕ)). a.front ++ ls) (sym (take-append-drop s.count ancestor.labels)) ∙ sym (append_assoc a.front (take s.count ancestor.labels) (drop s.count ancestor.labels));
        asked = a.asked;
        marked = a.marked;
      })

  -- an apex that encloses both is no longer than that end
  cut_apex : (ancestor other next apex : DomainName) → IsAbove name ancestor → IsSharedEnd ancestor other next → MayAnswer apex name → length apex.labels < length ancestor.labels → Encloses apex.labels other.labels
      → length apex.labels < length next.labels + 1
  cut_apex ancestor other next apex a s may less e =
      let left : length next.labels ≡ length ancestor.labels - s.count = ap (λ (d : DomainName). length d.labels) s.ends ∙ length-drop s.count ancestor.labels in
      elim (cases_lt (length next.labels) (length apex.labels)) [
        | inl longer ↦
            let k : ℕ = length ancestor.labels - length apex.labels in
            let within : Encloses apex.labels ancestor.labels = encloses_above apex name ancestor a may (omega arith) in
            let size : length (lower_labels (drop k ancestor.labels)) ≡ length (lower_labels apex.labels) = omega (arith, lower_length (drop k ancestor.labels), lower_length apex.labels, length-drop k ancestor.labels) in
            let split : lower_labels (take k ancestor.labels) ++ lower_labels (drop k ancestor.labels) ≡ within.front ++ lower_labels apex.labels =
            sym (map-append lower_label (take k ancestor.labels) (drop k ancestor.labels)) ∙ ap lower_labels (take-append-drop k ancestor.labels) ∙ within.ends in
            let same : lower_labels (drop k ancestor.labels) ≡ lower_labels apex.labels = ends_same (lower_labels (take k ancestor.labels)) within.front _ _ split size in
            let shared : Encloses (drop k ancestor.labels) other.labels = record { front = e.front; ends = e.ends ∙ ap (λ (ls : List (List ℕ)). e.front ++ ls) (sym same) } in
            absurd (s.longest k (omega arith) (omega (arith, left)) shared)
        | inr shorter ↦ omega (arith, shorter)
      ]

  pub cut_shorter : (ancestor other next : DomainName) → IsAbove name ancestor → EncloseBoth zones name ancestor other → IsSharedEnd ancestor other next → AreShorter zones name (length next.labels + 1)
  cut_shorter ancestor other next a both s = λ k d h may. cut_apex ancestor other next _ a s may (both k d h may).0 (both k d h may).1

  pub none_left : (ancestor other : DomainName) → ancestor ≡ record { labels = []; is_fqdn = true } → EncloseBoth zones name ancestor other → Finds zones name None
  none_left ancestor other e both = λ k d h may. absurd (omega (arith, (both k d h may).0, ap (λ (d : DomainName). length d.labels) e))
