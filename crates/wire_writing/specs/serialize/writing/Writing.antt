-- What bytes a reply may be written as under a limit (RFC 1035 sections 4.1.1, 4.1.4 and 4.2.1).
-- Records are left out one by one, and TC tells of any that were: also of additionals, which RFC 2181 section 9 would
-- let go silently.
use Rattle.std.specs.Prelude.{◌≡◌, ℕ, ◌+◌, ◌<◌, ◌≤◌, ◌^◌, List, [], ◌∷◌, ◌++◌, length, take, drop, replicate, map, Bool, true, false, ◌||◌, Option, Some, None, option_to_list, option_map}
use Rattle.wire_messages.specs.serialize.writing.FullForm.{EndsInFull}
use Rattle.wire_messages.specs.serialize.layout.FieldRanges.{IsRecordInRange}
use Rattle.wire_messages.specs.serialize.layout.HeaderLayout.{header_octets}
use Rattle.wire_messages.specs.op.Metadata.{bare_metadata}
use Rattle.wire_messages.specs.serialize.layout.RecordLayout.{FormAt}
use Rattle.wire_messages.specs.serialize.writing.RecordSize.{full_size, unwritable_reason}
use Rattle.wire_messages.specs.serialize.layout.MessageLayout.{tsig_record}
use Rattle.wire_writing.specs.serialize.writing.OwnerNames.{OwnerPlace, RepeatsOwner}
use Rattle.wire_messages.specs.serialize.writing.Reply.{Reply, opt_record, reply_lists}
use Rattle.wire_messages.specs.serialize.writing.ReplyRanges.{IsReplyInRange}
use Rattle.wire_names.specs.declared.error.ProtoError.{ProtoError}
use Rattle.wire_writing.specs.declared.serialize.writing.record_encoder.Ending.{Ending}
use Rattle.wire_writing.specs.declared.serialize.writing.record_encoder.Ending.TheVariants.{Whole, Cut, Stuck}
use Rattle.wire_messages.specs.declared.op.header.Header.{Header}
use Rattle.wire_messages.specs.declared.op.header.Metadata.{Metadata}
use Rattle.wire_messages.specs.declared.op.header.MessageType.TheVariants.{Response}
use Rattle.wire_messages.specs.declared.rr.rdata.RData.{RData}
use Rattle.wire_messages.specs.declared.rr.record.Record.{Record}

-- new is old with the record behind it, in at most its full size and within the limit. Names in it may be compressed by
-- pointers to earlier places outside the header at which the same labels stand (RFC 1035 section 4.1.4); a pointer
-- reaches places below 2 ^ 14. The data of a TSIG are in full. The record's numbers are such as its fields hold.
pub record Puts (limit : ℕ) (old : List ℕ) (r : Record RData) (new : List ℕ) : Type 0 where
  pub more : List ℕ
  pub formed : unwritable_reason r.rdata ≡ None
  pub in_range : IsRecordInRange r
  pub appended : new ≡ old ++ more
  pub in_full : EndsInFull r.rdata more
  pub small : length more ≤ full_size r
  pub within : length new ≤ limit
  pub form : FormAt 12 new (length old) r (length new)

-- the records are put one behind the other
abbrev pub PutsAll : ℕ → List ℕ → List (Record RData) → List ℕ → Type 0
PutsAll limit old [] new = new ≡ old
PutsAll limit old (r ∷ rs) new = (middle : List ℕ) × Puts limit old r middle × PutsAll limit middle rs new

-- The records of sections are put one behind the other, behind records at the places told, and each that has the owner
-- name of one before repeats it as a pointer.
abbrev pub PutsRepeating : ℕ → List OwnerPlace → List ℕ → List (Record RData) → List ℕ → Type 0
PutsRepeating limit before old [] new = new ≡ old
PutsRepeating limit before old (r ∷ rs) new = (middle : List ℕ) × Puts limit old r middle × RepeatsOwner before middle (length old) r.name.labels
    × PutsRepeating limit (before ++ record { place = length old; labels = r.name.labels } ∷ []) middle rs new

-- the next record behind so many has a form, and in full it passes the limit
pub record IsLeftOut (limit : ℕ) (records : List (Record RData)) (count : ℕ) (new : List ℕ) : Type 0 where
  pub next : Record RData
  pub rest : List (Record RData)
  pub is : drop count records ≡ next ∷ rest
  pub formed : unwritable_reason next.rdata ≡ None
  pub large : limit < length new + full_size next

-- the next record behind so many has no form, whatever its size
pub record IsStuck (records : List (Record RData)) (count : ℕ) (e : ProtoError) : Type 0 where
  pub next : Record RData
  pub rest : List (Record RData)
  pub is : drop count records ≡ next ∷ rest
  pub formless : unwritable_reason next.rdata ≡ Some e

-- Nothing is left behind the records that were put, or the next one is left out for its size, or it has no form.
abbrev pub Ends : ℕ → List (Record RData) → ℕ → List ℕ → Ending → Type 0
Ends limit records count new Whole = count ≡ length records
Ends limit records count new Cut = IsLeftOut limit records count new
Ends limit records count new (Stuck e) = IsStuck records count e

-- The first records of a list, so many, are put behind old, and then the writing of the list ends so.
pub record ListWritten (limit : ℕ) (old : List ℕ) (records : List (Record RData)) (new : List ℕ) (count : ℕ) (ending : Ending) : Type 0 where
  pub counted : count ≤ length records
  pub puts : PutsAll limit old (take count records) new
  pub ends : Ends limit records count new ending

-- how many records of a list were put, and whether it was cut
pub record ListFront : Type 0 where
  pub count : ℕ
  pub is_cut : Bool

abbrev pub ending_of : Bool → Ending
ending_of true = Cut
ending_of false = Whole

-- nothing of a list was put
abbrev pub nothing_put : ListFront
nothing_put = record { count = 0; is_cut = false }

-- Lists are written one behind the other, each cut by itself, up to the last one or to a record without a form. Behind
-- that nothing is put.
pub data ListsWritten (limit : ℕ) : List (List (Record RData)) → List ℕ → List ℕ → List ListFront → Option ProtoError → Type 0 where
  none_left : {bytes : List ℕ} → ListsWritten limit [] bytes bytes [] None
  next_list : {records : List (Record RData)} {lists : List (List (Record RData))} {old middle new : List ℕ} {front : ListFront} {fronts : List ListFront} {fault : Option ProtoError}
      → ListWritten limit old records middle front.count (ending_of front.is_cut) → ListsWritten limit lists middle new fronts fault
      → ListsWritten limit (records ∷ lists) old new (front ∷ fronts) fault
  stuck_list : {records : List (Record RData)} {lists : List (List (Record RData))} {old new : List ℕ} {front : ListFront} {fronts : List ListFront} {e : ProtoError}
      → ListWritten limit old records new front.count (Stuck e) → front.is_cut ≡ false → fronts ≡ map (λ list. nothing_put) lists
      → ListsWritten limit (records ∷ lists) old new (front ∷ fronts) (Some e)

-- what was written of each of a reply's lists
pub record Fronts : Type 0 where
  pub answers : ListFront
  pub authorities : ListFront
  pub additionals : ListFront
  pub opt : ListFront
  pub signature : ListFront

abbrev pub fronts_list : Fronts → List ListFront
fronts_list f = f.answers ∷ f.authorities ∷ f.additionals ∷ f.opt ∷ f.signature ∷ []

-- whether any list was cut
abbrev pub is_any_cut : Fronts → Bool
is_any_cut f = f.answers.is_cut || f.authorities.is_cut || f.additionals.is_cut || f.opt.is_cut || f.signature.is_cut

-- the header of what was written: TC is the reply's own, or set where any list was cut; the counts are those of the
-- questions and of what was written, OPT and TSIG among the additionals
abbrev pub header_with : Metadata → ℕ → Fronts → Header
header_with metadata question_count f = record {
  metadata = record metadata { truncation = metadata.truncation || is_any_cut f };
  counts = record { queries = question_count; answers = f.answers.count; authorities = f.authorities.count; additionals = f.additionals.count + f.opt.count + f.signature.count };
}

abbrev pub written_header : Reply → Fronts → Header
written_header reply = header_with reply.metadata reply.question_count

-- the records of the sections that were put, so many of each
abbrev pub section_records : Reply → Fronts → List (Record RData)
section_records reply put = take put.answers.count reply.answers ++ take put.authorities.count (reply.authorities ++ reply.soa) ++ take put.additionals.count reply.additionals

-- OPT and TSIG, where they were put
abbrev pub last_records : Reply → Fronts → List (Record RData)
last_records reply put = take put.opt.count (option_to_list (option_map opt_record reply.edns)) ++ take put.signature.count (option_to_list (option_map tsig_record reply.signature))

-- Behind old so many records of each list are put. In the sections an owner name that stood before as one is a pointer,
-- where a pointer reaches it.
pub record OwnersRepeat (limit : ℕ) (old : List ℕ) (reply : Reply) (put : Fronts) (new : List ℕ) : Type 0 where
  pub sections : List ℕ
  pub repeating : PutsRepeating limit [] old (section_records reply put) sections
  pub last : PutsAll limit sections (last_records reply put) new

-- room for the header, and the questions behind it
abbrev pub header_and_questions : Reply → List ℕ
header_and_questions reply = replicate 12 0 ++ reply.question

-- The bytes are the reply within the limit, of whose lists so much was written. Header and questions fit the limit,
-- which is one of 16 bits, and the numbers of the header and of EDNS are such as their fields hold.
pub record Written (limit : ℕ) (reply : Reply) (bytes : List ℕ) (fronts : Fronts) : Type 0 where
  pub body : List ℕ
  pub limited : limit < 2 ^ 16
  pub in_range : IsReplyInRange reply
  pub fits : 12 + length reply.question ≤ limit
  pub lists : ListsWritten limit (reply_lists reply) (header_and_questions reply) body (fronts_list fronts) None
  pub owners : OwnersRepeat limit (header_and_questions reply) reply fronts body
  pub is : bytes ≡ header_octets (written_header reply fronts) ++ drop 12 body

-- The writing of the reply within the limit meets a record without a form, behind so many records of each list.
pub record GetsStuck (limit : ℕ) (reply : Reply) (e : ProtoError) : Type 0 where
  pub body : List ℕ
  pub put : Fronts
  pub fits : 12 + length reply.question ≤ limit
  pub lists : ListsWritten limit (reply_lists reply) (header_and_questions reply) body (fronts_list put) (Some e)
  pub owners : OwnersRepeat limit (header_and_questions reply) reply put body

-- the header of the shortest reply there is: ServFail and nothing else
abbrev pub fallback_header : ℕ → Header
fallback_header id = record { metadata = record (bare_metadata id Response 0) { response_code = 2 }; counts = record { queries = 0; answers = 0; authorities = 0; additionals = 0 } }

-- A reply encoded within a limit, and its header, with the whole response code: the reply written; or, where header and
-- questions pass the limit or a record without a form is met, twelve bytes that say ServFail.
pub data Encoded (limit : ℕ) (reply : Reply) (bytes : List ℕ) : Header → Type 0 where
  written : {fronts : Fronts} → Written limit reply bytes fronts → Encoded limit reply bytes (written_header reply fronts)
  too_large : limit < 12 + length reply.question → bytes ≡ header_octets (fallback_header reply.metadata.id) → Encoded limit reply bytes (fallback_header reply.metadata.id)
  formless : {e : ProtoError} → GetsStuck limit reply e → bytes ≡ header_octets (fallback_header reply.metadata.id) → Encoded limit reply bytes (fallback_header reply.metadata.id)
