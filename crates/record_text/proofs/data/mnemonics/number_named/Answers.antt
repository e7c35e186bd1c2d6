use Rattle.std.proofs.Common.{◌≡◌, ◌∙◌, ◌<◌, ℕ, zero, suc, List, [], ◌∷◌, Option, Some, None, length, get_or, ap, refl, sym, subst, arith}
use Rattle.std.proofs.lemmas.List.{length-map, get_or-map}
use Rattle.std.specs.Prelude.{Any, IfNone, IfSome, map}
use Rattle.record_text.specs.declared.data.mnemonics.Mnemonic.{Mnemonic}
use Rattle.record_text.specs.RecordText.{HasNone, SameLetters, mnemonic_view}
use Rattle.record_text.specs.Mnemonics.{NamedNumber}
use Rattle.record_text.proofs.data.mnemonics.number_named.Goals as goal

viewed : (own : List Mnemonic) (text : List ℕ) (found : Option ℕ) → IfSome found (λ number. Any (λ row. (row.number ≡ number) × SameLetters row.letters.now text) own)
    → IfSome found (λ number. Any (λ row. (row.number ≡ number) × SameLetters row.letters text) (map mnemonic_view own))
viewed own text None h = h
viewed own text (Some number) (k, row, below, at, named) = (k, mnemonic_view row, omega (arith, length-map own mnemonic_view), get_or-map mnemonic_view own k row (mnemonic_view row) below ∙ ap mnemonic_view at, named)

pub returns-clause-named : goal.returns-clause-named
returns-clause-named c = subst (λ (all : List NamedNumber). IfSome c.number_called.result (λ number. Any (λ row. (row.number ≡ number) × SameLetters row.letters c.args.letters.now) all)) c.table_of.ensures (viewed c.table_of.result.now c.args.letters.now c.number_called.result c.number_called.ensures.named)

-- a row of the table is a row as the code has it
own_row : (own : List Mnemonic) (text : List ℕ) (number k : ℕ) (row : NamedNumber) → k < length (map mnemonic_view own) → get_or (map mnemonic_view own) k row ≡ row → (row.number ≡ number) × SameLetters row.letters text
    → Any (λ (r : Mnemonic). (r.number ≡ number) × SameLetters r.letters.now text) own
own_row [] text number k row below at named = absurd (omega arith)
own_row (r ∷ own) text number zero row below at named = (zero, r, omega arith, refl, subst (λ (t : NamedNumber). (t.number ≡ number) × SameLetters t.letters text) (sym at) named)
own_row (r ∷ own) text number (suc k) row below at named =
    let rest : Any (λ (s : Mnemonic). (s.number ≡ number) × SameLetters s.letters.now text) own = own_row own text number k row (omega arith) at named in
    (suc rest.0, rest.1, omega (arith, rest.2), rest.3, rest.4)

unnamed : (own : List Mnemonic) (text : List ℕ) (found : Option ℕ) → IfNone found (HasNone (λ number. Any (λ row. (row.number ≡ number) × SameLetters row.letters.now text) own))
    → IfNone found (HasNone (λ number. Any (λ row. (row.number ≡ number) × SameLetters row.letters text) (map mnemonic_view own)))
unnamed own text (Some number) h = h
unnamed own text None h = λ number any. h number (own_row own text number any.0 any.1 any.2 any.3 any.4)

pub returns-clause-none : goal.returns-clause-none
returns-clause-none c = subst (λ (all : List NamedNumber). IfNone c.number_called.result (HasNone (λ number. Any (λ row. (row.number ≡ number) × SameLetters row.letters c.args.letters.now) all))) c.table_of.ensures (unnamed c.table_of.result.now c.args.letters.now c.number_called.result c.number_called.ensures.none)
