-- What a crash leaves in each step of adding entries.
use Rattle.std.proofs.Common.{◌≡◌, ◌≢◌, ◌⊎◌, inl, inr, ℕ, ◌+◌, ◌<◌, List, [], ◌∷◌, ◌++◌, length, get_or, add-zero, drop, sym, ◌∙◌, ap, subst, refl, arith, append_assoc, length-append, Bool, true, false, OnErr, Result, Ok, Err}
use Rattle.std.specs.Prelude.{IsFalse, IsTrue}
use Rattle.std.specs.Int.{w32, to_be_bytes}
use Rattle.std.proofs.lemmas.Bool.{cases_eq}
use Rattle.std.proofs.lemmas.List.{drop_at, get_or-drop}
use Rattle.sqlite_disk.specs.Disk.{Holds, Mixed, Torn, Follows}
use Rattle.journal.specs.Errors.{is_of_disk}
use Rattle.journal.specs.Frames.{frames, AreSmall, IsBeforeOrAfter, StandsFor}
use Rattle.journal.specs.JournalFile.{IsJournal}
use Rattle.journal.specs.JournalState.{JournalState}
use Rattle.journal.specs.Settled.{behind_gate, IsAtRest, IsClosed, IsOpened, IsSettled, IsStaged}
use Rattle.journal.specs.declared.error.JournalError.{JournalError}
use Rattle.journal.proofs.Files.{kept, written, one_byte, one_byte_done}
use Rattle.journal.proofs.Entries.{not_open, closed_by_zero, closed_journal, gate_journal, stands_closed, stands_gate, opened_is, small_all, place_all}

-- what stands behind a front
gate_at : (front : List ℕ) (gate : ℕ) (rest : List ℕ) → get_or (front ++ gate ∷ rest) (length front + 0) 0 ≡ gate
gate_at front gate rest =
    sym (get_or-drop (length front) (front ++ gate ∷ rest) 0 0) ∙ ap (λ (l : List ℕ). get_or l 0 0) (drop_at front (gate ∷ rest) (length front) (λ i. length front))

module _ {D : Type 0} (seen : D → List ℕ) (may_leave : D → List ℕ → Type 0) (disk : D) (end : ℕ) (entries : List (List ℕ)) where
  pub rests : IsAtRest seen may_leave disk end entries → (c : List ℕ) → may_leave disk c → StandsFor c entries
  rests s c left = subst (λ f. StandsFor f entries) (sym (s.durable c left ∙ s.file)) (stands_closed entries s.gate s.junk (not_open entries s.gate s.closed) s.small)

  pub rests_journal : IsAtRest seen may_leave disk end entries → (c : List ℕ) → may_leave disk c → IsJournal c
  rests_journal s c left = subst IsJournal (sym (s.durable c left ∙ s.file)) (closed_journal entries s.gate s.junk s.small s.closed)

  -- the file up to its gate, and what is behind it
  at_gate : (s : IsAtRest seen may_leave disk end entries) → seen disk ≡ (frames entries ++ s.gate ∷ []) ++ s.junk
  at_gate s = s.file ∙ sym (append_assoc (frames entries) (s.gate ∷ []) s.junk)

  behind : (s : IsAtRest seen may_leave disk end entries) → end + 1 ≡ length (frames entries ++ s.gate ∷ [])
  behind s = omega (arith, s.place, length-append (frames entries) (s.gate ∷ []))

  -- a write behind the gate leaves all that stands up to it
  up_to_gate : (s : IsAtRest seen may_leave disk end entries) → (n : ℕ) (now : List ℕ → Type 0) → Follows (Torn (end + 1) n) (may_leave disk) now → (c : List ℕ) → now c → c ≡ frames entries ++ s.gate ∷ drop (end + 1) c
  up_to_gate s n now follows c left =
      let from = follows c left in
      let torn : Torn (end + 1) n ((frames entries ++ s.gate ∷ []) ++ s.junk) c = subst (λ f. Torn (end + 1) n f c) (s.durable from.0 from.1 ∙ at_gate s) from.2 in
      kept (end + 1) n (frames entries ++ s.gate ∷ []) s.junk c torn (behind s) ∙ append_assoc (frames entries) (s.gate ∷ []) (drop (end + 1) c)

  pub staging : IsAtRest seen may_leave disk end entries → (n : ℕ) (now : List ℕ → Type 0) → Follows (Torn (end + 1) n) (may_leave disk) now → (c : List ℕ) → now c → StandsFor c entries
  staging s n now follows c left =
      subst (λ f. StandsFor f entries) (sym (up_to_gate s n now follows c left)) (stands_closed entries s.gate (drop (end + 1) c) (not_open entries s.gate s.closed) s.small)

  pub staging_journal : IsAtRest seen may_leave disk end entries → (n : ℕ) (now : List ℕ → Type 0) → Follows (Torn (end + 1) n) (may_leave disk) now → (c : List ℕ) → now c → IsJournal c
  staging_journal s n now follows c left =
      subst IsJournal (sym (up_to_gate s n now follows c left)) (closed_journal entries s.gate (drop (end + 1) c) s.small s.closed)

  pub staged : (s : IsAtRest seen may_leave disk end entries) → (first : List ℕ) (others : List (List ℕ)) (bytes : List ℕ) (next : D) → bytes ≡ behind_gate first others → Torn (end + 1) (length bytes) (seen disk) (seen next) → Holds (seen next) (end + 1) bytes
      → (junk : List ℕ) × (seen next ≡ frames entries ++ s.gate ∷ (behind_gate first others ++ junk))
  staged s first others bytes next are torn holds =
      let junk : List ℕ = drop (length bytes) (drop (end + 1) (seen next)) in
      let torn' : Torn (end + 1) (length bytes) ((frames entries ++ s.gate ∷ []) ++ s.junk) (seen next) = subst (λ f. Torn (end + 1) (length bytes) f (seen next)) (at_gate s) torn in (
        junk,
        written (end + 1) bytes (frames entries ++ s.gate ∷ []) s.junk (seen next) torn' (behind s) holds
            ∙ append_assoc (frames entries) (s.gate ∷ []) (bytes ++ junk) ∙ ap (λ (l : List ℕ). frames entries ++ s.gate ∷ (l ++ junk)) are,
      )

  module _ (first : List ℕ) (others : List (List ℕ)) (s : IsStaged seen may_leave disk end entries first others) where
    pub opening : AreSmall (first ∷ others) → (now : List ℕ → Type 0) → Follows (Torn end 1) (may_leave disk) now → (c : List ℕ) → now c → IsBeforeOrAfter entries (first ∷ others) c
    opening new now follows c left =
        let from = follows c left in
        let torn : Torn end 1 (frames entries ++ s.gate ∷ (behind_gate first others ++ s.junk)) c = subst (λ f. Torn end 1 f c) (s.durable from.0 from.1 ∙ s.file) from.2 in
        subst (IsBeforeOrAfter entries (first ∷ others)) (sym (one_byte end (frames entries) (behind_gate first others ++ s.junk) s.gate c s.place torn)) (stands_gate entries first others (get_or c end 0) s.junk s.small new)

    -- the gate is the old one, or open
    old_or_open : (c : List ℕ) → Mixed end (1 ∷ []) (frames entries ++ s.gate ∷ (behind_gate first others ++ s.junk)) c → IsClosed entries (get_or c end 0) ⊎ (get_or c end 0 ≡ 1)
    old_or_open c mixed = by (mixed.each 0 (omega arith) (omega (arith, s.place, length-append (frames entries) (s.gate ∷ (behind_gate first others ++ s.junk)))))
      where
        by : (get_or c (end + 0) 0 ≡ get_or (frames entries ++ s.gate ∷ (behind_gate first others ++ s.junk)) (end + 0) 0) ⊎ (get_or c (end + 0) 0 ≡ 1) → IsClosed entries (get_or c end 0) ⊎ (get_or c end 0 ≡ 1)
        by (inl same) = inl (subst (IsClosed entries) (sym (ap (λ k. get_or c k 0) (sym (add-zero end)) ∙ same ∙ here_gate)) s.closed)
          where
            here_gate : get_or (frames entries ++ s.gate ∷ (behind_gate first others ++ s.junk)) (end + 0) 0 ≡ s.gate
            here_gate = ap (λ k. get_or (frames entries ++ s.gate ∷ (behind_gate first others ++ s.junk)) (k + 0) 0) s.place ∙ gate_at (frames entries) s.gate (behind_gate first others ++ s.junk)
        by (inr is_open) = inr (ap (λ k. get_or c k 0) (sym (add-zero end)) ∙ is_open)

    pub opening_journal : AreSmall (first ∷ others) → (now : List ℕ → Type 0) → Follows (Mixed end (1 ∷ [])) (may_leave disk) now → (c : List ℕ) → now c → IsJournal c
    opening_journal new now follows c left =
        let from = follows c left in
        let mixed : Mixed end (1 ∷ []) (frames entries ++ s.gate ∷ (behind_gate first others ++ s.junk)) c = subst (λ f. Mixed end (1 ∷ []) f c) (s.durable from.0 from.1 ∙ s.file) from.2 in
        subst IsJournal (sym (one_byte end (frames entries) (behind_gate first others ++ s.junk) s.gate c s.place mixed.torn)) (gate_journal entries first others (get_or c end 0) s.junk s.small new (old_or_open c mixed))

    pub opened : (next : D) → Torn end 1 (seen disk) (seen next) → Holds (seen next) end (1 ∷ []) → seen next ≡ frames entries ++ 1 ∷ (behind_gate first others ++ s.junk)
    opened next torn holds =
        one_byte_done end (frames entries) (behind_gate first others ++ s.junk) s.gate 1 (seen next) s.place (subst (λ f. Torn end 1 f (seen next)) s.file torn) holds

  -- the file after more entries
  pub rests_more : (first : List ℕ) (others : List (List ℕ)) (next : D) (place : ℕ) → IsAtRest seen may_leave disk end entries → AreSmall (first ∷ others) → IsOpened seen may_leave next entries first others
      → place ≡ end + length (behind_gate first others) → IsAtRest seen may_leave next place (entries ++ first ∷ others)
  rests_more first others next place s small o moved = record {
    gate = 0;
    junk = o.junk;
    closed = closed_by_zero (entries ++ first ∷ others);
    file = o.file ∙ opened_is entries first others o.junk;
    place = moved ∙ ap (λ k. k + length (behind_gate first others)) s.place ∙ sym (place_all entries first others);
    small = small_all entries (first ∷ others) s.small small;
    durable = o.durable;
  }

pub behind_some : (first : List ℕ) (others : List (List ℕ)) (bytes : List ℕ) → bytes ≡ behind_gate first others → 0 < length bytes
behind_some first others bytes are = omega (arith, ap length are, length-append ((to_be_bytes w32 (length first) ++ first) ++ frames others) (0 ∷ []))

-- a write of the first byte, where there are entries
module _ {D : Type 0} (seen : D → List ℕ) (may_leave : D → List ℕ → Type 0) (disk : D) (end : ℕ) where
  -- the first gate is open
  first_is : (entries : List (List ℕ)) → IsAtRest seen may_leave disk end entries → 0 < end → (rest : List ℕ) × (seen disk ≡ 1 ∷ rest)
  first_is [] s some = absurd (omega (arith, s.place, some))
  first_is (e ∷ entries) s some = (_, s.file)

  pub clearing : (entries : List (List ℕ)) → IsAtRest seen may_leave disk end entries → 0 < end → (now : List ℕ → Type 0) → Follows (Torn 0 1) (may_leave disk) now → (c : List ℕ) → now c → StandsFor c entries ⊎ StandsFor c []
  clearing entries s some now follows c left =
      let from = follows c left in
      let first = first_is entries s some in
      let torn : Torn 0 1 (1 ∷ first.0) c = subst (λ f. Torn 0 1 f c) (s.durable from.0 from.1 ∙ first.1) from.2 in
      let is : c ≡ get_or c 0 0 ∷ first.0 = one_byte 0 [] first.0 1 c (λ i. 0) torn in
      by is first.1 (cases_eq (get_or c 0 0) 1)
    where
      by : {rest : List ℕ} → c ≡ get_or c 0 0 ∷ rest → seen disk ≡ 1 ∷ rest → (get_or c 0 0 ≡ 1) ⊎ (get_or c 0 0 ≢ 1) → StandsFor c entries ⊎ StandsFor c []
      by {rest} is file (inl is_open) =
          inl (subst (λ f. StandsFor f entries) (sym (is ∙ ap (λ (b : ℕ). b ∷ rest) is_open ∙ sym file ∙ s.file)) (stands_closed entries s.gate s.junk (not_open entries s.gate s.closed) s.small))
      by {rest} is file (inr closed) = inr (subst (λ f. StandsFor f []) (sym is) (stands_closed [] (get_or c 0 0) rest closed tt))

  pub clearing_journal : (entries : List (List ℕ)) → IsAtRest seen may_leave disk end entries → 0 < end → (now : List ℕ → Type 0) → Follows (Mixed 0 (0 ∷ [])) (may_leave disk) now → (c : List ℕ) → now c → IsJournal c
  clearing_journal entries s some now follows c left =
      let from = follows c left in
      let first = first_is entries s some in
      let mixed : Mixed 0 (0 ∷ []) (1 ∷ first.0) c = subst (λ f. Mixed 0 (0 ∷ []) f c) (s.durable from.0 from.1 ∙ first.1) from.2 in
      by first.1 (one_byte 0 [] first.0 1 c (λ i. 0) mixed.torn) (mixed.each 0 (omega arith) (omega arith))
    where
      by : {rest : List ℕ} → seen disk ≡ 1 ∷ rest → c ≡ get_or c 0 0 ∷ rest → (get_or c 0 0 ≡ 1) ⊎ (get_or c 0 0 ≡ 0) → IsJournal c
      by {rest} file is (inl is_open) = subst IsJournal (sym (is ∙ ap (λ (b : ℕ). b ∷ rest) is_open ∙ sym file ∙ s.file)) (closed_journal entries s.gate s.junk s.small s.closed)
      by file is (inr closed) = inr (inl closed)

  pub cleared : (entries : List (List ℕ)) (next : D) → IsAtRest seen may_leave disk end entries → 0 < end → Torn 0 1 (seen disk) (seen next) → Holds (seen next) 0 (0 ∷ []) → (junk : List ℕ) × (seen next ≡ 0 ∷ junk)
  cleared entries next s some torn holds =
      let first = first_is entries s some in
      (first.0, one_byte_done 0 [] first.0 1 0 (seen next) (λ i. 0) (subst (λ f. Torn 0 1 f (seen next)) first.1 torn) holds)

-- what holds anyway holds after an error
pub on_err : {T E P : Type 0} (result : Result T E) → P → OnErr result P
on_err (Ok x) p = tt
on_err (Err e) p = p

-- entries were taken out, and then others were not added
pub cleared_at_least : {D : Type 0} (seen : D → List ℕ) (may_leave : D → List ℕ → Type 0) (e : JournalError) (old cleared new : JournalState D) → (IsFalse (is_of_disk e) → new ≡ cleared) → (IsTrue (is_of_disk e) → new.is_open ≡ false)
    → ((entries : List (List ℕ)) → IsSettled seen may_leave old entries → IsSettled seen may_leave cleared [])
    → (new.is_open ≡ false) ⊎ ((before : List (List ℕ)) → IsSettled seen may_leave old before → IsSettled seen may_leave new before ⊎ IsSettled seen may_leave new [])
cleared_at_least {D} seen may_leave e old cleared new unwritten failed emptied = by (is_of_disk e) refl
  where
    by : (b : Bool) → is_of_disk e ≡ b → (new.is_open ≡ false) ⊎ ((before : List (List ℕ)) → IsSettled seen may_leave old before → IsSettled seen may_leave new before ⊎ IsSettled seen may_leave new [])
    by true is = inl (failed is)
    by false is = inr (λ before s. inr (subst (λ (j : JournalState D). IsSettled seen may_leave j []) (sym (unwritten is)) (emptied before s)))
