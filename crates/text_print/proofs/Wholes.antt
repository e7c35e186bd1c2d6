-- Data that are such as a record is read with, and the text of data in the form of a row.
use Rattle.std.proofs.Common.{◌≡◌, ◌∙◌, ℕ, ◌+◌, ◌-◌, ◌^◌, ◌<◌, List, [], ◌∷◌, ◌++◌, length, get_or, take, drop, Some, sym, ap, subst, refl, append_assoc, suc, not, Bool, true, false}
use Rattle.std.specs.List.{AllByRecursion}
use Rattle.std.proofs.lemmas.List.{take-append-drop, take_more, take_rest}
use Rattle.std.proofs.lemmas.List.Concat.{flat_map-append}
use Rattle.record_text.specs.TypeTable.{TypeRow, row_of}
use Rattle.text_print.specs.Printed.{line_of, text_of}
use Rattle.text_print.specs.PrintedData.{ArePrintedData, ArePrintedFields, IsPrintedRest, PutsWords}
use Rattle.text_print.specs.PrintedData.ArePrintedData.{in_form}

recursion_push : {X : Type 0} (P : X → Type 0) (xs : List X) (x : X) → AllByRecursion P xs → P x → AllByRecursion P (xs ++ x ∷ [])
recursion_push P [] x h one = (one, tt)
recursion_push P (y ∷ xs) x h one = (h.0, recursion_push P xs x h.1 one)

pub recursion_more : {X : Type 0} (P : X → Type 0) (xs : List X) (i : ℕ) (d : X) → i < length xs → AllByRecursion P (take i xs) → P (get_or xs i d) → AllByRecursion P (take (i + 1) xs)
recursion_more P xs i d below h one = subst (AllByRecursion P) (sym (take_more xs i d below)) (recursion_push P (take i xs) (get_or xs i d) h one)

pub form_row : (number : ℕ) (row : TypeRow) (all : List ℕ) (len : ℕ) (start middle after : List ℕ) → row_of number ≡ Some row → start ≡ [] → PutsWords (λ printed. ArePrintedFields row.fields printed (take len all)) start middle
    → PutsWords (λ printed. IsPrintedRest row.rest printed (take (length all - len) (drop len all))) middle after → PutsWords (λ printed. ArePrintedData number printed all) [] after
form_row number row all len start middle after found none (front, put, fields) (behind, more, rest) = (
  front ++ behind,
  more ∙ ap (λ (t : List ℕ). t ++ line_of behind) (put ∙ ap (λ (t : List ℕ). t ++ line_of front) none) ∙ sym (flat_map-append text_of front behind),
  in_form found (record {
    front = front;
    behind = behind;
    front_octets = take len all;
    behind_octets = drop len all;
    in_order = refl;
    together = sym (take-append-drop len all);
    fields = fields;
    rest = subst (λ (o : List ℕ). IsPrintedRest row.rest behind o) (take_rest all len) rest;
  }),
)

pub segments_at : (xs : List ℕ) → ((k : ℕ) → get_or xs k 0 < 2 ^ 16) → AllByRecursion (λ s. s < 2 ^ 16) xs
segments_at [] h = tt
segments_at (x ∷ xs) h = (h 0, segments_at xs (λ k. h (suc k)))

pub not_false : (b : Bool) → not b ≡ false → b ≡ true
not_false true e = refl
not_false false e = cc

pub line_made : (name ttl class type content a b c d e f : List ℕ) → b ≡ a ++ name → c ≡ b ++ 32 ∷ ttl → d ≡ c ++ 32 ∷ class → e ≡ d ++ 32 ∷ type → f ≡ e ++ content → f ≡ a ++ (name ++ 32 ∷ (ttl ++ 32 ∷ (class ++ 32 ∷ (type ++ content))))
line_made name ttl class type content a b c d e f one two three four last = rw (last, four, three, two, one) (simp append_assoc)
