use Rattle.std.proofs.Common.{◌≡◌, ◌∙◌, ◌<◌, ℕ, zero, suc, List, [], ◌∷◌, Option, Some, None, length, get_or, ap, refl, sym, subst, arith}
use Rattle.std.proofs.lemmas.List.{length-map, get_or-map}
use Rattle.std.specs.Prelude.{Any, IfNone, IfSome, map}
use Rattle.record_text.specs.declared.data.field.Row.{Row}
use Rattle.record_text.specs.RecordText.{HasNone, SameLetters, row_view}
use Rattle.record_text.specs.TypeTable.{TypeRow}
use Rattle.record_text.proofs.data.table.number_in.Goals as goal

viewed : (own : List Row) (text : List ℕ) (found : Option ℕ) → IfSome found (λ number. Any (λ row. (row.number ≡ number) × SameLetters row.mnemonic.now text) own)
    → IfSome found (λ number. Any (λ row. (row.number ≡ number) × SameLetters row.mnemonic text) (map row_view own))
viewed own text None h = h
viewed own text (Some number) (k, row, below, at, named) = (k, row_view row, omega (arith, length-map own row_view), get_or-map row_view own k row (row_view row) below ∙ ap row_view at, named)

pub returns-clause-named : goal.returns-clause-named
returns-clause-named c = subst (λ (all : List TypeRow). IfSome c.number_named.result (λ number. Any (λ row. (row.number ≡ number) × SameLetters row.mnemonic c.args.mnemonic.now) all)) c.requires (viewed c.args.table.now c.args.mnemonic.now c.number_named.result c.number_named.ensures.named)

-- a row of the table is a row as the code has it
own_row : (own : List Row) (text : List ℕ) (number k : ℕ) (row : TypeRow) → k < length (map row_view own) → get_or (map row_view own) k row ≡ row → (row.number ≡ number) × SameLetters row.mnemonic text
    → Any (λ (r : Row). (r.number ≡ number) × SameLetters r.mnemonic.now text) own
own_row [] text number k row below at named = absurd (omega arith)
own_row (r ∷ own) text number zero row below at named = (zero, r, omega arith, refl, subst (λ (t : TypeRow). (t.number ≡ number) × SameLetters t.mnemonic text) (sym at) named)
own_row (r ∷ own) text number (suc k) row below at named =
    let rest : Any (λ (s : Row). (s.number ≡ number) × SameLetters s.mnemonic.now text) own = own_row own text number k row (omega arith) at named in
    (suc rest.0, rest.1, omega (arith, rest.2), rest.3, rest.4)

unnamed : (own : List Row) (text : List ℕ) (found : Option ℕ) → IfNone found (HasNone (λ number. Any (λ row. (row.number ≡ number) × SameLetters row.mnemonic.now text) own))
    → IfNone found (HasNone (λ number. Any (λ row. (row.number ≡ number) × SameLetters row.mnemonic text) (map row_view own)))
unnamed own text (Some number) h = h
unnamed own text None h = λ number any. h number (own_row own text number any.0 any.1 any.2 any.3 any.4)

pub returns-clause-none : goal.returns-clause-none
returns-clause-none c = subst (λ (all : List TypeRow). IfNone c.number_named.result (HasNone (λ number. Any (λ row. (row.number ≡ number) × SameLetters row.mnemonic c.args.mnemonic.now) all))) c.requires (unnamed c.args.table.now c.args.mnemonic.now c.number_named.result c.number_named.ensures.none)
