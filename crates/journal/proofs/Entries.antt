-- What a file stands for, with a gate closed or open.
use Rattle.std.proofs.Common.{◌≡◌, ◌≢◌, ◌⊎◌, inl, inr, ℕ, ◌+◌, List, [], ◌∷◌, ◌++◌, length, get_or, sym, ◌∙◌, ap, subst, arith, append_assoc, length-append}
use Rattle.std.specs.Int.{w32, to_be_bytes}
use Rattle.std.proofs.lemmas.Bool.{cases_eq}
use Rattle.std.proofs.lemmas.List.{append-nil}
use Rattle.journal.specs.Frames.{frame, frames, AreSmall, IsBeforeOrAfter, IsEnd, StandsFor, ended, framed}
use Rattle.journal.specs.JournalFile.{IsJournal}
use Rattle.journal.specs.Settled.{behind_gate, IsClosed}

-- frames, and then whatever the rest stands for
pub after_frames : (entries : List (List ℕ)) (rest : List ℕ) (more : List (List ℕ)) → AreSmall entries → StandsFor rest more → StandsFor (frames entries ++ rest) (entries ++ more)
after_frames [] rest more small stands = stands
after_frames (entry ∷ entries) rest more small stands =
    framed small.0 (append_assoc (frame entry) (frames entries) rest) (after_frames entries rest more small.1 stands)

-- a gate that is not open ends them
pub shut : (gate : ℕ) (rest : List ℕ) → gate ≢ 1 → IsEnd (gate ∷ rest)
shut gate rest closed entry more small e = closed (ap (λ (l : List ℕ). get_or l 0 0) e)

pub zero_not_one : (gate : ℕ) → gate ≡ 0 → gate ≢ 1
zero_not_one gate is e = absurd (omega arith)

pub not_open : (entries : List (List ℕ)) (gate : ℕ) → IsClosed entries gate → gate ≢ 1
not_open [] gate closed = zero_not_one gate closed
not_open (entry ∷ entries) gate closed = closed

pub closed_by_zero : (entries : List (List ℕ)) → IsClosed entries 0
closed_by_zero [] = λ i. 0
closed_by_zero (entry ∷ entries) = zero_not_one 0 (λ i. 0)

-- the first frame is whole, whatever stands behind it
pub framed_journal : (entry : List ℕ) (entries : List (List ℕ)) (rest : List ℕ) → AreSmall (entry ∷ entries) → IsJournal (frames (entry ∷ entries) ++ rest)
framed_journal entry entries rest small = inr (inr (entry, frames entries ++ rest, small.0, append_assoc (frame entry) (frames entries) rest))

-- a file with a closed gate is a journal's
pub closed_journal : (entries : List (List ℕ)) (gate : ℕ) (rest : List ℕ) → AreSmall entries → IsClosed entries gate → IsJournal (frames entries ++ gate ∷ rest)
closed_journal [] gate rest small closed = inr (inl closed)
closed_journal (entry ∷ entries) gate rest small closed = framed_journal entry entries (gate ∷ rest) small

-- the frames of two lists stand one behind the other
pub frames-append : (entries added : List (List ℕ)) (rest : List ℕ) → frames (entries ++ added) ++ rest ≡ frames entries ++ (frames added ++ rest)
frames-append [] added rest = λ i. frames added ++ rest
frames-append (e ∷ entries) added rest =
    append_assoc (frame e) (frames (entries ++ added)) rest ∙ ap (λ (l : List ℕ). frame e ++ l) (frames-append entries added rest) ∙ sym (append_assoc (frame e) (frames entries) (frames added ++ rest))

pub small_all : (entries added : List (List ℕ)) → AreSmall entries → AreSmall added → AreSmall (entries ++ added)
small_all [] added small new = new
small_all (e ∷ entries) added small new = (small.0, small_all entries added small.1 new)

-- a gate that is not open, whatever stands behind it
pub stands_closed : (entries : List (List ℕ)) (gate : ℕ) (rest : List ℕ) → gate ≢ 1 → AreSmall entries → StandsFor (frames entries ++ gate ∷ rest) entries
stands_closed entries gate rest closed small =
    subst (StandsFor (frames entries ++ gate ∷ rest)) (append-nil entries) (after_frames entries (gate ∷ rest) [] small (ended (shut gate rest closed)))

-- entries behind an open gate are frames, and what stands behind them
pub framed_by : (first : List ℕ) (others : List (List ℕ)) (junk : List ℕ) → 1 ∷ (behind_gate first others ++ junk) ≡ frames (first ∷ others) ++ 0 ∷ junk
framed_by first others junk = ap (λ (l : List ℕ). 1 ∷ l) (append_assoc ((to_be_bytes w32 (length first) ++ first) ++ frames others) (0 ∷ []) junk)

-- any gate before entries that stand whole
pub stands_gate : (entries : List (List ℕ)) (first : List ℕ) (others : List (List ℕ)) (gate : ℕ) (junk : List ℕ) → AreSmall entries → AreSmall (first ∷ others) → IsBeforeOrAfter entries (first ∷ others) (frames entries ++ gate ∷ (behind_gate first others ++ junk))
stands_gate entries first others gate junk small new = by (cases_eq gate 1)
  where
    by : (gate ≡ 1) ⊎ (gate ≢ 1) → IsBeforeOrAfter entries (first ∷ others) (frames entries ++ gate ∷ (behind_gate first others ++ junk))
    by (inl is_open) = inr (after_frames entries (gate ∷ (behind_gate first others ++ junk)) (first ∷ others) small
        (subst (λ f. StandsFor f (first ∷ others)) (sym (ap (λ (g : ℕ). g ∷ (behind_gate first others ++ junk)) is_open ∙ framed_by first others junk))
        (stands_closed (first ∷ others) 0 junk (zero_not_one 0 (λ i. 0)) new)))
    by (inr closed) = inl (stands_closed entries gate (behind_gate first others ++ junk) closed small)

-- a gate before entries that stand whole, where each byte is old or new
pub gate_journal : (entries : List (List ℕ)) (first : List ℕ) (others : List (List ℕ)) (gate : ℕ) (junk : List ℕ) → AreSmall entries → AreSmall (first ∷ others) → IsClosed entries gate ⊎ (gate ≡ 1)
    → IsJournal (frames entries ++ gate ∷ (behind_gate first others ++ junk))
gate_journal (entry ∷ entries) first others gate junk small new is = framed_journal entry entries (gate ∷ (behind_gate first others ++ junk)) small
gate_journal [] first others gate junk small new (inl closed) = inr (inl closed)
gate_journal [] first others gate junk small new (inr is_open) =
    subst IsJournal (sym (ap (λ (g : ℕ). g ∷ (behind_gate first others ++ junk)) is_open ∙ framed_by first others junk)) (framed_journal first others (0 ∷ junk) new)

-- with the gate open they are among the frames
pub opened_is : (entries : List (List ℕ)) (first : List ℕ) (others : List (List ℕ)) (junk : List ℕ) → frames entries ++ 1 ∷ (behind_gate first others ++ junk) ≡ frames (entries ++ first ∷ others) ++ 0 ∷ junk
opened_is entries first others junk = ap (λ (l : List ℕ). frames entries ++ l) (framed_by first others junk) ∙ sym (frames-append entries (first ∷ others) (0 ∷ junk))

length_all : (entries added : List (List ℕ)) → length (frames (entries ++ added)) ≡ length (frames entries) + length (frames added)
length_all entries added =
    ap length (sym (append-nil (frames (entries ++ added))) ∙ frames-append entries added [] ∙ ap (λ (l : List ℕ). frames entries ++ l) (append-nil (frames added)))
    ∙ length-append (frames entries) (frames added)

-- and the gate behind them stands so much further
pub place_all : (entries : List (List ℕ)) (first : List ℕ) (others : List (List ℕ)) → length (frames (entries ++ first ∷ others)) ≡ length (frames entries) + length (behind_gate first others)
place_all entries first others = omega (arith, length_all entries (first ∷ others), length-append ((to_be_bytes w32 (length first) ++ first) ++ frames others) (0 ∷ []))
