-- The bytes behind each record of a reply that was put, by both of the runs that tell of it.
use Rattle.std.specs.Prelude.{ℕ, List, [], ◌∷◌, ◌++◌, take, Option}
use Rattle.wire_names.specs.declared.error.ProtoError.{ProtoError}
use Rattle.wire_messages.specs.declared.rr.rdata.RData.{RData}
use Rattle.wire_messages.specs.declared.rr.record.Record.{Record}
use Rattle.wire_messages.specs.serialize.writing.Reply.{Reply}
use Rattle.wire_writing.specs.serialize.writing.OwnerNames.{OwnerPlace}
use Rattle.wire_writing.specs.serialize.writing.Writing.{Fronts, ListFront, ListsWritten, OwnersRepeat, PutsAll, PutsRepeating, last_records, section_records}
use Rattle.wire_writing.specs.serialize.writing.Writing.ListsWritten.{none_left, next_list, stuck_list}

-- what stands behind each of these records
abbrev pub middles : (limit : ℕ) (records : List (Record RData)) (old new : List ℕ) → PutsAll limit old records new → List (List ℕ)
middles limit [] old new is = []
middles limit (r ∷ rs) old new (middle, one, more) = middle ∷ middles limit rs middle new more

-- what stands behind each record, of records whose owner names repeat
abbrev pub middles_repeating : (limit : ℕ) (records : List (Record RData)) (before : List OwnerPlace) (old new : List ℕ) → PutsRepeating limit before old records new → List (List ℕ)
middles_repeating limit [] before old new is = []
middles_repeating limit (r ∷ rs) before old new (middle, one, repeats, more) = middle ∷ middles_repeating limit rs _ middle new more

-- what stands behind each record of the lists
abbrev pub middles_of_lists : {limit : ℕ} {lists : List (List (Record RData))} {old new : List ℕ} {fronts : List ListFront} {fault : Option ProtoError} → ListsWritten limit lists old new fronts fault → List (List ℕ)
middles_of_lists none_left = []
middles_of_lists {limit} (next_list {records = records} {old = old} {middle = middle} {front = front} one more) = middles limit (take front.count records) old middle one.puts ++ middles_of_lists more
middles_of_lists {limit} (stuck_list {records = records} {old = old} {new = new} {front = front} one uncut behind) = middles limit (take front.count records) old new one.puts

-- what stands behind each record of the sections, the OPT and the TSIG
abbrev pub middles_of_owners : {limit : ℕ} {old new : List ℕ} {reply : Reply} {put : Fronts} → OwnersRepeat limit old reply put new → List (List ℕ)
middles_of_owners {limit} {old} {new} {reply} {put} o = middles_repeating limit (section_records reply put) [] old o.sections o.repeating ++ middles limit (last_records reply put) o.sections new o.last
