-- What becomes of a journal while a request is answered.
use Rattle.std.specs.Prelude.{◌≡◌, ◌⊎◌, ◌≤◌, ◌^◌, ℕ, Bool, length, true, false, List, [], ◌∷◌, ◌++◌, Result, OnErr, OnOk}
use Rattle.hickory_base.specs.requests.Requests.{ReceivedRequest}
use Rattle.journal.specs.Frames.{AreTooLong, IsBeforeOrAfter}
use Rattle.journal.specs.JournalState.{JournalState}
use Rattle.journal.specs.Settled.{IsSettled}

-- The journal takes no entry any more, or this one is too long for it.
abbrev pub RefusesEntry : Bool → List ℕ → Type 0
RefusesEntry takes entry = (takes ≡ false) ⊎ (2 ^ 32 ≤ length entry)

-- The same of the entries of a batch: one of them, or all together, may be too long.
abbrev pub RefusesEntries : Bool → List (List ℕ) → Type 0
RefusesEntries takes entries = (takes ≡ false) ⊎ AreTooLong entries

-- So it is with the entry of a request, or its message was not read from its bytes.
abbrev pub RefusesRequest : Bool → ReceivedRequest → Type 0
RefusesRequest takes request = (request.was_read ≡ false) ⊎ RefusesEntry takes request.bytes

module _ {D : Type 0} (seen : D → List ℕ) (may_leave : D → List ℕ → Type 0) where
  -- An entry is added where the answer is Ok, and is then on the disk. After an error the journal is as before, or it
  -- is shut, and the entry stands there whole or not at all. So it does after a crash at any moment of the call.
  pub record Journals {T E : Type 0} (answer : Result T E) (entry : List ℕ) (old new : JournalState D) : Type 0 where
    pub acknowledged : OnOk answer ((entries : List (List ℕ)) → IsSettled seen may_leave old entries → IsSettled seen may_leave new (entries ++ entry ∷ []))
    pub opened : OnOk answer ((old.is_open ≡ true) × (new.is_open ≡ true))
    pub refused : OnErr answer ((new ≡ old) ⊎ ((old.is_open ≡ true) × (new.is_open ≡ false)))
    pub crash : (entries : List (List ℕ)) → IsSettled seen may_leave old entries → (c : List ℕ) → may_leave new.disk c → IsBeforeOrAfter entries (entry ∷ []) c

  -- The same of the entries of a batch, all or none. Where there are none, the journal is left alone, whether it takes
  -- entries or not.
  pub record JournalsAll {T E : Type 0} (answer : Result T E) (added : List (List ℕ)) (old new : JournalState D) : Type 0 where
    pub acknowledged : OnOk answer ((entries : List (List ℕ)) → IsSettled seen may_leave old entries → IsSettled seen may_leave new (entries ++ added))
    pub opened : OnOk answer (((added ≡ []) × (new ≡ old)) ⊎ ((old.is_open ≡ true) × (new.is_open ≡ true)))
    pub refused : OnErr answer ((new ≡ old) ⊎ ((old.is_open ≡ true) × (new.is_open ≡ false)))
    pub crash : (entries : List (List ℕ)) → IsSettled seen may_leave old entries → (c : List ℕ) → may_leave new.disk c → IsBeforeOrAfter entries added c
