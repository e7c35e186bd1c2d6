-- What the answers of the functions that write records and lists of records say.
use Rattle.std.specs.Prelude.{◌≡◌, ℕ, ◌+◌, ◌<◌, List, [], ◌∷◌, ◌++◌, length, map, Bool, true, false, ◌||◌, Option, Some, None}
use Rattle.std.specs.Borrow.{Bor}
use Rattle.std.specs.Iterator.{Drains}
use Rattle.wire_names.specs.rr.domain.DomainName.{wire_form}
use Rattle.wire_writing.specs.representation.Noted.{Notes, AreNotes, KeepsNotes, Compresses}
use Rattle.wire_messages.specs.serialize.writing.RecordSize.{full_size, unwritable_reason}
use Rattle.wire_writing.specs.serialize.writing.Writing.{Puts, ListFront, ListsWritten}
use Rattle.wire_names.specs.declared.error.ProtoError.{ProtoError}
use Rattle.wire_writing.specs.declared.serialize.writing.list_encoder.Stops.{Stops}
use Rattle.wire_messages.specs.declared.rr.rdata.RData.{RData}
use Rattle.wire_messages.specs.declared.rr.record.Record.{Record}
use Rattle.wire_writing.specs.declared.serialize.writing.record_encoder.Ending.{Ending}
use Rattle.wire_writing.specs.declared.serialize.writing.record_encoder.Ending.TheVariants.{Whole, Cut, Stuck}

-- A record is put; or it has a form in bytes, but in full it passes the limit; or it has none. But for the first
-- nothing changes.
abbrev pub RecordEnds : ℕ → List ℕ → Record RData → List ℕ → Ending → Type 0
RecordEnds limit old r new Whole = Puts limit old r new
RecordEnds limit old r new Cut = (new ≡ old) × (unwritable_reason r.rdata ≡ None) × (limit < length old + full_size r)
RecordEnds limit old r new (Stuck e) = (new ≡ old) × (unwritable_reason r.rdata ≡ Some e)

-- The owner name of a record that was put was written by the notes and noted, and the notes hold of the new bytes.
pub record OwnerNoted (old : List ℕ) (r : Record RData) (new : List ℕ) (notes notes' : Notes) : Type 0 where
  pub hold : AreNotes new (length new) notes'
  pub adds : KeepsNotes notes notes'
  pub compresses : Compresses old new notes notes' (wire_form r.name.labels)

-- But for a record that was put nothing is noted.
abbrev pub NotesFollow : List ℕ → Record RData → List ℕ → Notes → Notes → Ending → Type 0
NotesFollow old r new notes notes' Whole = OwnerNoted old r new notes notes'
NotesFollow old r new notes notes' Cut = notes' ≡ notes
NotesFollow old r new notes notes' (Stuck e) = notes' ≡ notes

-- Records are put one behind the other, each owner name written by the notes so far, and noted.
abbrev pub NotedRun : ℕ → List ℕ → Notes → List (Record RData) → List ℕ → Notes → Type 0
NotedRun limit old notes [] new notes' = (new ≡ old) × (notes' ≡ notes)
NotedRun limit old notes (r ∷ rs) new notes' = (middle : List ℕ) × (between : Notes) × Puts limit old r middle × OwnerNoted old r middle notes between × NotedRun limit middle between rs new notes'

-- The iterator gives these records, one after another, and ends.
abbrev pub GivesRecords : {S : Type 0} → (S → Option (Bor (Record RData)) → S → Type 0) → S → List (Record RData) → Type 0
GivesRecords steps it records = (xs : List (Bor (Record RData))) × Drains steps it xs × (map (λ x. x.now) xs ≡ records)

-- what a list of one record that ended so has of it
abbrev pub count_of_one : Ending → ℕ
count_of_one Whole = 1
count_of_one Cut = 0
count_of_one (Stuck e) = 0

abbrev pub is_cut_by : Ending → Bool
is_cut_by Whole = false
is_cut_by Cut = true
is_cut_by (Stuck e) = false

abbrev pub fault_of : Ending → Option ProtoError
fault_of Whole = None
fault_of Cut = None
fault_of (Stuck e) = Some e

-- what was written of a list, and why it, or a list before it, could not be written on
pub record Front : Type 0 where
  pub count : ℕ
  pub is_cut : Bool
  pub fault : Option ProtoError

-- what a run has of a list, where no list before it was stuck
abbrev pub front_of_ending : ℕ → Ending → Front
front_of_ending count ending = record { count = count; is_cut = is_cut_by ending; fault = fault_of ending }

-- what of it is told of a list
abbrev pub seen_front : Front → ListFront
seen_front front = record { count = front.count; is_cut = front.is_cut }

-- A list is written behind others, of which one may have been stuck; if so, nothing is written any more.
abbrev pub ListFollows : ℕ → Option ProtoError → List ℕ → List (Record RData) → List ℕ → Front → Type 0
ListFollows limit fault old records new front = (lists : List (List (Record RData))) (start : List ℕ) (fronts : List ListFront) → ListsWritten limit lists start old fronts fault
    → ListsWritten limit (lists ++ records ∷ []) start new (fronts ++ seen_front front ∷ []) front.fault

-- the bytes behind the lists that were written so far, and how those lists ended
pub record ListsSoFar : Type 0 where
  pub bytes : List ℕ
  pub stops : Stops

-- So many records of a list are written behind others, and how the lists ended is remembered: none is stuck in the end
-- only where none was before.
abbrev pub ListAdds : ℕ → ListsSoFar → List (Record RData) → ListsSoFar → ℕ → Bool → Type 0
ListAdds limit before records after count is_cut =
    ListFollows limit before.stops.fault before.bytes records after.bytes (record { count = count; is_cut = is_cut; fault = after.stops.fault })
    × (after.stops.is_cut ≡ (before.stops.is_cut || is_cut)) × (after.stops.fault ≡ None → before.stops.fault ≡ None)
