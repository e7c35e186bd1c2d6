-- The lines of a text, one after another: what becomes of them, and the counts of that.
use Rattle.std.proofs.Common.{◌≡◌, ℕ, zero, suc, set, add-one, ◌+◌, ◌<◌, ◌≤◌, Bool, cond, List, [], ◌∷◌, ◌++◌, length, take, Option, Some, None, refl, sym, ap, ◌∙◌, subst, arith, append_assoc, length-append}
use Rattle.std.specs.Prelude.{count_by, is_none, unwrap_or}
use Rattle.std.proofs.lemmas.List.{append-nil, take_all, take_at, length-take-le}
use Rattle.std.proofs.lemmas.List.Sums.{sum_by-append}
use Rattle.std.proofs.Math.Seq.{take-suc-set}
use Rattle.std.proofs.lemmas.Grind.{flat_map-append}
use Rattle.wire_names.specs.rr.domain.DomainName.{DomainName}
use Rattle.wire_names.specs.rr.domain.NameText.{name_text}
use Rattle.name_lists.specs.Names.{plain_line, plain_lines}
use Rattle.name_lists.specs.Counts.{BecomeOf, given_names, is_taken, has_no_names, skipped_numbers, Counts, counts_of, lines_in, counted, AddsLine}

abbrev pub Outcome : Type 0
Outcome = Option (List DomainName)

-- ---- what lines give

line_some : (text : List ℕ) (more : List ℕ) → (text ++ 10 ∷ []) ++ more ≡ [] → ⊥
line_some text more e = absurd (omega (arith, ap length e, length-append (text ++ 10 ∷ []) more, length-append text (10 ∷ [])))

pub gives_none : (names : List DomainName) → plain_lines names ≡ [] → names ≡ []
gives_none [] e = refl
gives_none (name ∷ names) e = absurd (line_some (name_text name.labels name.is_fqdn) (plain_lines names) e)

-- ---- counts

one_before : (p : Outcome → Bool) (o : Outcome) (os : List Outcome) → count_by p (o ∷ os) ≡ cond (p o) 1 0 + count_by p os
one_before p o os = sum_by-append (λ x. cond (p x) 1 0) (o ∷ []) os ∙ omega arith

one_more : (p : Outcome → Bool) (os : List Outcome) (o : Outcome) → count_by p (os ++ o ∷ []) ≡ count_by p os + cond (p o) 1 0
one_more p os o = sum_by-append (λ x. cond (p x) 1 0) os (o ∷ []) ∙ omega arith

numbers_more : (first : ℕ) (os : List Outcome) (o : Outcome) → skipped_numbers first (os ++ o ∷ []) ≡ skipped_numbers first os ++ skipped_numbers (first + length os) (o ∷ [])
numbers_more first [] o = ap (λ n. skipped_numbers n (o ∷ [])) (omega arith)
numbers_more first (None ∷ os) o = ap (λ ns. first ∷ ns) (numbers_more (first + 1) os o ∙ ap (λ n. skipped_numbers (first + 1) os ++ skipped_numbers n (o ∷ [])) (omega arith))
numbers_more first (Some names ∷ os) o = numbers_more (first + 1) os o ∙ ap (λ n. skipped_numbers (first + 1) os ++ skipped_numbers n (o ∷ [])) (omega arith)

pub lines_counted : (os : List Outcome) → lines_in (counts_of os) ≡ length os
lines_counted [] = refl
lines_counted (None ∷ os) = omega (arith, lines_counted os, one_before is_taken None os, one_before has_no_names None os, one_before is_none None os)
lines_counted (Some [] ∷ os) = omega (arith, lines_counted os, one_before is_taken (Some []) os, one_before has_no_names (Some []) os, one_before is_none (Some []) os)
lines_counted (Some (name ∷ names) ∷ os) =
    omega (arith, lines_counted os, one_before is_taken (Some (name ∷ names)) os, one_before has_no_names (Some (name ∷ names)) os, one_before is_none (Some (name ∷ names)) os)

pub same_counts : (t u b c s r : ℕ) (f g : List ℕ) → t ≡ u → b ≡ c → s ≡ r → f ≡ g
    → let x : Counts = record { taken = t; without_names = b; skipped = s; first_skipped = f } in let y : Counts = record { taken = u; without_names = c; skipped = r; first_skipped = g } in x ≡ y
same_counts t u b c s r f g et eb es ef =
    ap (λ (n : ℕ). let x : Counts = record { taken = n; without_names = b; skipped = s; first_skipped = f } in x) et
    ∙ ap (λ (n : ℕ). let x : Counts = record { taken = u; without_names = n; skipped = s; first_skipped = f } in x) eb
    ∙ ap (λ (n : ℕ). let x : Counts = record { taken = u; without_names = c; skipped = n; first_skipped = f } in x) es
    ∙ ap (λ (ns : List ℕ). let x : Counts = record { taken = u; without_names = c; skipped = r; first_skipped = ns } in x) ef

take_front : (n : ℕ) (xs ys : List ℕ) → take n (take n xs ++ ys) ≡ take n (xs ++ ys)
take_front zero xs ys = refl
take_front (suc n) [] ys = refl
take_front (suc n) (x ∷ xs) ys = ap (λ r. x ∷ r) (take_front n xs ys)

first_more : (os : List Outcome) (o : Outcome) (more : List ℕ) → skipped_numbers (1 + length os) (o ∷ []) ≡ more → take 3 (skipped_numbers 1 (os ++ o ∷ [])) ≡ take 3 (take 3 (skipped_numbers 1 os) ++ more)
first_more os o more e = ap (take 3) (numbers_more 1 os o ∙ ap (λ ns. skipped_numbers 1 os ++ ns) e) ∙ sym (take_front 3 (skipped_numbers 1 os) more)

first_kept : (os : List Outcome) (names : List DomainName) → take 3 (skipped_numbers 1 (os ++ Some names ∷ [])) ≡ take 3 (skipped_numbers 1 os)
first_kept os names = ap (take 3) (numbers_more 1 os (Some names) ∙ append-nil (skipped_numbers 1 os))

pub counts_more : (os : List Outcome) (o : Outcome) → counts_of (os ++ o ∷ []) ≡ counted (counts_of os) o
counts_more os None =
    same_counts _ _ _ _ _ _ _ _ (one_more is_taken os None ∙ omega arith) (one_more has_no_names os None ∙ omega arith) (one_more is_none os None)
    (first_more os None ((lines_in (counts_of os) + 1) ∷ []) (ap (λ n. n ∷ []) (omega (arith, lines_counted os))))
counts_more os (Some []) =
    same_counts _ _ _ _ _ _ _ _ (one_more is_taken os (Some []) ∙ omega arith) (one_more has_no_names os (Some [])) (one_more is_none os (Some []) ∙ omega arith) (first_kept os [])
counts_more os (Some (name ∷ names)) =
    same_counts _ _ _ _ _ _ _ _ (one_more is_taken os (Some (name ∷ names))) (one_more has_no_names os (Some (name ∷ names)) ∙ omega arith) (one_more is_none os (Some (name ∷ names)) ∙ omega arith)
    (first_kept os (name ∷ names))

names_more : (os : List Outcome) (o : Outcome) → plain_lines (given_names (os ++ o ∷ [])) ≡ plain_lines (given_names os) ++ plain_lines (unwrap_or o [])
names_more os o =
    ap plain_lines (flat_map-append (λ x. unwrap_or x []) os (o ∷ []) ∙ ap (λ ns. given_names os ++ ns) (append-nil (unwrap_or o [])))
    ∙ flat_map-append plain_line (given_names os) (unwrap_or o [])

-- the numbers that are kept, where a place is free and where none is
pub noted : (k n : ℕ) (xs : List ℕ) → length xs ≡ 3 → k < 3 → take (k + 1) (set xs k n) ≡ take 3 (take k xs ++ n ∷ [])
noted k n xs len lt =
    let within : k < length xs = omega arith in
    let put : take (k + 1) (set xs k n) ≡ take k xs ++ n ∷ [] = ap (λ m. take m (set xs k n)) (add-one k) ∙ take-suc-set xs k n within in
    let short : length (take k xs ++ n ∷ []) ≤ 3 = omega (arith, length-append (take k xs) (n ∷ []), length-take-le k xs (omega arith)) in
    put ∙ sym (take_all 3 (take k xs ++ n ∷ []) short)

pub none_noted : (k n : ℕ) (xs : List ℕ) → length xs ≡ 3 → 3 ≤ k → take (k + 1) xs ≡ take 3 (take k xs ++ n ∷ [])
none_noted k n xs len le =
    take_all (k + 1) xs (omega arith) ∙ sym (take_at xs (n ∷ []) 3 len) ∙ ap (λ ys. take 3 (ys ++ n ∷ [])) (sym (take_all k xs (omega arith)))

pub takes : (counts : Counts) (names : List DomainName) → (names ≡ [] → ⊥) → record counts { taken = counts.taken + 1 } ≡ counted counts (Some names)
takes counts [] some = absurd (some refl)
takes counts (name ∷ names) some = refl

pub counted_one : (counts : Counts) (o : Outcome) → lines_in (counted counts o) ≡ lines_in counts + 1
counted_one counts None = omega arith
counted_one counts (Some []) = omega arith
counted_one counts (Some (name ∷ names)) = omega arith

-- ---- the lines so far

-- The lines at the front became these, and their names and counts were told; what becomes of those left is still to be
-- seen.
pub record Adapting (lines left : List (List ℕ)) (text : List ℕ) (counts : Counts) : Type 0 where
  pub outcomes : List (Option (List DomainName))
  pub done : (os : List (Option (List DomainName))) → BecomeOf left os → BecomeOf lines (outcomes ++ os)
  pub handed : text ≡ plain_lines (given_names outcomes)
  pub told : counts ≡ counts_of outcomes

module _ (lines : List (List ℕ)) where
  pub adapting_none : Adapting lines lines [] (counts_of [])
  adapting_none = record { outcomes = []; done = λ os b. b; handed = refl; told = refl }

  pub adapting_more : (left : List (List ℕ)) (line : List ℕ) (behind : List (List ℕ)) (text new : List ℕ) (counts new_counts : Counts)
      → Adapting lines left text counts → left ≡ line ∷ behind → AddsLine line text counts new new_counts → Adapting lines behind new new_counts
  adapting_more left line behind text new counts new_counts so e adds =
      let s : Adapting lines (line ∷ behind) text counts = subst (λ ls. Adapting lines ls text counts) e so in
      let o : Option (List DomainName) = adds.outcome in
      record {
        outcomes = s.outcomes ++ o ∷ [];
        done = λ os b. subst (BecomeOf lines) (sym (append_assoc s.outcomes (o ∷ []) os)) (s.done (o ∷ os) (adds.becomes, b));
        handed = adds.handed ∙ ap (λ t. t ++ plain_lines (unwrap_or o [])) s.handed ∙ sym (names_more s.outcomes o);
        told = adds.counts_it ∙ ap (λ (c : Counts). counted c o) s.told ∙ sym (counts_more s.outcomes o);
      }

  pub adapting_all : (left : List (List ℕ)) (text : List ℕ) (counts : Counts) → Adapting lines left text counts → left ≡ []
      → (os : List (Option (List DomainName))) × BecomeOf lines os × (text ≡ plain_lines (given_names os)) × (counts ≡ counts_of os)
  adapting_all left text counts so e =
      let s : Adapting lines [] text counts = subst (λ ls. Adapting lines ls text counts) e so in
      (s.outcomes, subst (BecomeOf lines) (append-nil s.outcomes) (s.done [] tt), s.handed, s.told)
