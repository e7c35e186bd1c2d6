-- A type is printed by its mnemonic, or as TYPE and its number (RFC 3597 section 5).
use Rattle.std.proofs.Common.{◌≡◌, ◌∙◌, ℕ, zero, suc, ◌^◌, ◌<◌, ◌==◌, ◌&&◌, Bool, true, false, nat_lt, cond, List, [], ◌∷◌, ◌++◌, length, get_or, codes, find, Option, Some, decimal, sym, ap, subst, refl, arith, length-append}
use Rattle.std.specs.Int.{w16, to_be_bytes}
use Rattle.std.proofs.lemmas.Bool.{and_parts, eqb-true}
use Rattle.std.proofs.lemmas.Bool.Decides.{nat_tests}
use Rattle.wire_names.specs.rr.domain.DomainName.{DomainName}
use Rattle.text_words.specs.declared.words.Word.{Word}
use Rattle.record_text.specs.declared.data.field.Field.TheVariants as field
use Rattle.record_text.specs.RecordText.{IsField, SpellsType}
use Rattle.record_text.specs.RecordText.IsField.{type, in_digits}
use Rattle.record_text.specs.RecordText.SpellsType.{mnemonic, numbered}
use Rattle.record_text.specs.TypeTable.{TypeRow, row_of, rows}
use Rattle.record_text.proofs.TypesOnce.{types_once}
use Rattle.text_print.specs.Printed.Printed.{plain}
use Rattle.text_print.specs.PrintedData.{IsPrintedField, PutsField, PutsType}
use Rattle.text_print.proofs.PrintedFields.{plain_word}
use Rattle.text_print.proofs.Simple.{are_simple, simple_all}
use Rattle.text_print.proofs.Spelled.{AllSimple, number_is, number_simple, simple_append, simple_plain}

-- a row that is found stands in the table
record Found (some : List TypeRow) (number : ℕ) (r : TypeRow) : Type 0 where
  pub place : ℕ
  pub below : place < length some
  pub at : get_or some place r ≡ r
  pub numbered : r.number ≡ number

step : (number : ℕ) (first : TypeRow) (others : List TypeRow) (r : TypeRow) (b : Bool) → (first.number == number) ≡ b → (find (λ (row : TypeRow). row.number == number) others ≡ Some r → Found others number r)
    → cond b (Some first) (find (λ (row : TypeRow). row.number == number) others) ≡ Some r → Found (first ∷ others) number r
step number first others r true h rest e =
    let same : first ≡ r = cc in
    record { place = 0; below = omega arith; at = same; numbered = sym (ap (λ (row : TypeRow). row.number) same) ∙ eqb-true first.number number h }
step number first others r false h rest e =
    let found : Found others number r = rest e in
    record { place = suc found.place; below = omega (arith, found.below); at = found.at; numbered = found.numbered }

find_row : (some : List TypeRow) (number : ℕ) (r : TypeRow) → find (λ (row : TypeRow). row.number == number) some ≡ Some r → Found some number r
find_row [] number r e = absurd (cc)
find_row (first ∷ others) number r e = step number first others r (first.number == number) refl (find_row others number r) e

-- each mnemonic can stand as a word
abbrev rows_simple : List TypeRow → Bool
rows_simple [] = true
rows_simple (row ∷ others) = (are_simple row.mnemonic && nat_lt 0 (length row.mnemonic)) && rows_simple others

simple_at : (some : List TypeRow) → rows_simple some ≡ true → (k : ℕ) (r : TypeRow) → k < length some → get_or some k r ≡ r → (are_simple r.mnemonic && nat_lt 0 (length r.mnemonic)) ≡ true
simple_at [] all k r below at = absurd (omega (arith, below))
simple_at (first ∷ others) all zero r below at =
    subst (λ (row : TypeRow). (are_simple row.mnemonic && nat_lt 0 (length row.mnemonic)) ≡ true) at (and_parts (are_simple first.mnemonic && nat_lt 0 (length first.mnemonic)) (rows_simple others) all).0
simple_at (first ∷ others) all (suc k) r below at = simple_at others (and_parts (are_simple first.mnemonic && nat_lt 0 (length first.mnemonic)) (rows_simple others) all).1 k r (omega (arith, below)) at

all_simple : rows_simple rows ≡ true
all_simple = refl

pub put_mnemonic : (number : ℕ) (row : TypeRow) (before after : List ℕ) → row_of number ≡ Some row → after ≡ before ++ 32 ∷ row.mnemonic → PutsType number before after
put_mnemonic number row before after found put =
    let at : Found rows number row = find_row rows number row found in
    let parts = and_parts (are_simple row.mnemonic) (nat_lt 0 (length row.mnemonic)) (simple_at rows all_simple at.place row at.below at.at) in
    let some : 0 < length row.mnemonic = grind (arith, nat_tests) in
    (row.mnemonic, put, plain_word row.mnemonic (simple_plain row.mnemonic (simple_all row.mnemonic parts.0) some), mnemonic (at.place, row, at.below, at.at, (at.numbered, refl)))

pub put_numbered : (number : ℕ) (before after : List ℕ) → number < 2 ^ 16 → after ≡ before ++ 32 ∷ (codes "TYPE" ++ decimal number) → PutsType number before after
put_numbered number before after small put =
    let digits = number_simple number (omega (arith, small)) in
    let simple : AllSimple (codes "TYPE" ++ decimal number) = simple_append (codes "TYPE") (decimal number) (simple_all (codes "TYPE") refl) digits.0 in
    let some : 0 < length (codes "TYPE" ++ decimal number) = omega (arith, length-append (codes "TYPE") (decimal number), digits.1) in (
      codes "TYPE" ++ decimal number,
      put,
      plain_word (codes "TYPE" ++ decimal number) (simple_plain (codes "TYPE" ++ decimal number) simple some),
      numbered (record { front = codes "TYPE"; digits = decimal number; in_order = refl; letters = refl; spelled = number_is number (omega (arith, small)); small = small }),
    )

only_type : (origin : Option DomainName) (w : Word) (others text : List ℕ) (number : ℕ) → SpellsType text number → w.bytes.now ≡ text → IsField origin field.RecordType w others → others ≡ to_be_bytes w16 number
only_type origin w others text number is e (type {number = n} p i) = ap (λ (m : ℕ). to_be_bytes w16 m) (types_once w.bytes.now n number i (subst (λ (t : List ℕ). SpellsType t number) (sym e) is))
only_type origin w others text number is e (in_digits p i) = elim i [ ]

pub put_type_field : (number : ℕ) (octets before after : List ℕ) → octets ≡ to_be_bytes w16 number → PutsType number before after → PutsField field.RecordType octets before after
put_type_field number octets before after is (text, put, good, spelled) = (
  plain text,
  put,
  good,
  subst (λ (o : List ℕ). IsPrintedField field.RecordType (plain text) o) (sym is) (record {
    is = λ origin w p. type p.0 (subst (λ (t : List ℕ). SpellsType t number) (sym p.1) spelled);
    only = λ origin w others p f. only_type origin w others text number spelled p.1 f;
  }),
)
