-- Runs of records whose owner names are noted.
use Rattle.std.proofs.Common.{◌≡◌, ◌≢◌, inl, inr, ℕ, ◌+◌, ◌<◌, ◌≤◌, ◌^◌, List, [], ◌∷◌, ◌++◌, length, take, refl, sym, ap, ◌∙◌, subst, arith, length-append}
use Rattle.std.specs.List.{Contains}
use Rattle.std.proofs.lemmas.List.{take_all, take-append-le}
use Rattle.std.proofs.lemmas.List.Elements.{Contains-push_cases}
use Rattle.wire_writing.specs.representation.Noted.{Notes, HasNote}
use Rattle.wire_names.specs.rr.domain.DomainName.{wire_form}
use Rattle.wire_writing.specs.serialize.writing.OwnerNames.{OwnerPlace}
use Rattle.wire_writing.specs.representation.Endings.{OwnerNoted, NotedRun}
use Rattle.wire_writing.specs.serialize.writing.Writing.{Puts, PutsAll, PutsRepeating}
use Rattle.wire_messages.specs.declared.rr.rdata.RData.{RData}
use Rattle.wire_messages.specs.declared.rr.record.Record.{Record}
use Rattle.wire_writing.proofs.lemmas.serialize.writing.NameSteps.{HasNote-more}

run_more : (limit : ℕ) (rs : List (Record RData)) (r : Record RData) (old mid new : List ℕ) (notes between notes' : Notes) → NotedRun limit old notes rs mid between → Puts limit mid r new → OwnerNoted mid r new between notes' → NotedRun limit old notes (rs ++ r ∷ []) new notes'
run_more limit [] r old mid new notes between notes' (e, f) p o =
    (new, notes', subst (λ m. Puts limit m r new) e p, subst (λ ns. OwnerNoted old r new ns notes') f (subst (λ m. OwnerNoted m r new between notes') e o), (refl, refl))
run_more limit (q ∷ rs) r old mid new notes between notes' (m, ns, one, noted, rest) p o = (m, ns, one, noted, run_more limit rs r m mid new ns between notes' rest p o)

-- one record more, where all records so far were put
pub run_put : (limit : ℕ) (rs : List (Record RData)) (r : Record RData) (old mid new : List ℕ) (notes between notes' : Notes) (count : ℕ) → count ≡ length rs → NotedRun limit old notes (take count rs) mid between → Puts limit mid r new → OwnerNoted mid r new between notes' → NotedRun limit old notes (take (count + 1) (rs ++ r ∷ [])) new notes'
run_put limit rs r old mid new notes between notes' count e run p o =
    let all : take (count + 1) (rs ++ r ∷ []) ≡ rs ++ r ∷ [] = take_all (count + 1) (rs ++ r ∷ []) (omega (arith, length-append rs (r ∷ []), e)) in
    let front : take count rs ≡ rs = take_all count rs (omega (arith, e)) in
    subst (λ xs. NotedRun limit old notes xs new notes') (sym all) (run_more limit rs r old mid new notes between notes' (subst (λ xs. NotedRun limit old notes xs mid between) front run) p o)

-- a record that is left out
pub run_skips : (limit : ℕ) (rs : List (Record RData)) (r : Record RData) (old mid new : List ℕ) (notes between notes' : Notes) (count : ℕ) → count ≤ length rs → NotedRun limit old notes (take count rs) mid between → new ≡ mid → notes' ≡ between → NotedRun limit old notes (take count (rs ++ r ∷ [])) new notes'
run_skips limit rs r old mid new notes between notes' count le run e f =
    subst (λ xs. NotedRun limit old notes xs new notes') (sym (take-append-le count rs (r ∷ []) le))
    (subst (λ b. NotedRun limit old notes (take count rs) b notes') (sym e) (subst (λ ns. NotedRun limit old notes (take count rs) mid ns) (sym f) run))

-- two runs, one behind the other
pub run_both : (limit : ℕ) (rs qs : List (Record RData)) (old mid new : List ℕ) (notes between notes' : Notes) → NotedRun limit old notes rs mid between → NotedRun limit mid between qs new notes' → NotedRun limit old notes (rs ++ qs) new notes'
run_both limit [] qs old mid new notes between notes' (e, f) more = subst (λ ns. NotedRun limit old ns qs new notes') f (subst (λ m. NotedRun limit m between qs new notes') e more)
run_both limit (r ∷ rs) qs old mid new notes between notes' (m, ns, one, noted, rest) more = (m, ns, one, noted, run_both limit rs qs m mid new ns between notes' rest more)

-- Each owner name that was put where a pointer reaches is among the notes, but for the root.
abbrev pub Remembers : Notes → List OwnerPlace → Type 0
Remembers notes placed = (place : ℕ) (labels : List (List ℕ)) → Contains placed (record { place = place; labels = labels }) → place < 2 ^ 14 → labels ≢ [] → HasNote notes (wire_form labels)

no_wire : (labels : List (List ℕ)) → labels ≢ [] → wire_form labels ≢ []
no_wire [] ne e = ne refl
no_wire (l ∷ ls) ne e = omega (arith, ap length e)

remembers_more : (old new : List ℕ) (r : Record RData) (notes notes' : Notes) (placed : List OwnerPlace) → Remembers notes placed → OwnerNoted old r new notes notes' → Remembers notes' (placed ++ record { place = length old; labels = r.name.labels } ∷ [])
remembers_more old new r notes notes' placed rem o place labels among lt ne =
    elim (Contains-push_cases placed (record { place = length old; labels = r.name.labels }) (record { place = place; labels = labels }) among) [
      | inl c ↦ HasNote-more notes notes' (wire_form labels) o.adds (rem place labels c lt ne)
      | inr same ↦
          let at : length old ≡ place = ap (λ (p : OwnerPlace). p.place) same in
          let named : r.name.labels ≡ labels = ap (λ (p : OwnerPlace). p.labels) same in
          let had = o.compresses.remembers (no_wire r.name.labels (λ n. ne (sym named ∙ n))) (omega arith) in
          subst (λ ls. HasNote notes' (wire_form ls)) named had
    ]

repeats_from : (limit : ℕ) (rs : List (Record RData)) (old new : List ℕ) (notes notes' : Notes) (placed : List OwnerPlace) → Remembers notes placed → NotedRun limit old notes rs new notes' → PutsRepeating limit placed old rs new
repeats_from limit [] old new notes notes' placed rem run = run.0
repeats_from limit (r ∷ rs) old new notes notes' placed rem (m, ns, one, noted, rest) = (
  m,
  one,
  (λ place among lt ne. noted.compresses.repeats (no_wire r.name.labels ne) (rem place r.name.labels among lt ne)),
  repeats_from limit rs m new ns notes' (placed ++ record { place = length old; labels = r.name.labels } ∷ []) (remembers_more old m r notes ns placed rem noted) rest,
)

remembers_nothing : (notes : Notes) → Remembers notes []
remembers_nothing notes place labels among lt ne = absurd (omega (arith, among.1))

-- A run from no notes repeats owner names by pointers.
pub repeats : (limit : ℕ) (rs : List (Record RData)) (old new : List ℕ) (notes notes' : Notes) → NotedRun limit old notes rs new notes' → PutsRepeating limit [] old rs new
repeats limit rs old new notes notes' run = repeats_from limit rs old new notes notes' [] (remembers_nothing notes) run

-- records put one behind the other, and others behind them
pub puts_both : (limit : ℕ) (rs qs : List (Record RData)) (old mid new : List ℕ) → PutsAll limit old rs mid → PutsAll limit mid qs new → PutsAll limit old (rs ++ qs) new
puts_both limit [] qs old mid new e more = subst (λ m. PutsAll limit m qs new) e more
puts_both limit (r ∷ rs) qs old mid new (m, one, rest) more = (m, one, puts_both limit rs qs m mid new rest more)
