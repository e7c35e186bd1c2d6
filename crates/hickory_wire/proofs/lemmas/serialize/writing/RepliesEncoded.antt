-- Replies that were encoded: written, or in the place of one that was refused.
use Rattle.std.proofs.Common.{◌≡◌, ℕ, List, Result, Ok, Err, OnOk, IfOk, refl, sym, subst}
use Rattle.wire_names.specs.serialize.layout.Bytes.{AreBytes}
use Rattle.wire_messages.specs.serialize.layout.HeaderLayout.{header_octets}
use Rattle.wire_messages.specs.serialize.writing.Reply.{Reply}
use Rattle.wire_messages.specs.serialize.writing.ReplyRanges.{IsMetadataInRange}
use Rattle.hickory_wire.specs.serialize.writing.ReplyParts.{ReplyWritten, ReplyEncoded, CannotBeWritten, SumsUp, header_by}
use Rattle.hickory_wire.specs.serialize.writing.ReplyParts.CannotBeWritten.{too_large as refused_large, formless as refused_formless}
use Rattle.wire_writing.specs.serialize.writing.Writing.{Encoded, Fronts, fallback_header, header_with}
use Rattle.wire_writing.specs.serialize.writing.Writing.Encoded.{written, too_large, formless}
use Rattle.wire_names.specs.declared.error.ProtoError.{ProtoError}
use Rattle.wire_messages.specs.declared.op.header.Header.{Header}
use Rattle.wire_messages.specs.declared.op.header.Metadata.{Metadata}
use Rattle.hickory_wire.specs.declared.serialize.writing.message_encoder.Sections.{Sections}
use Rattle.hickory_wire.proofs.lemmas.serialize.writing.WrittenMessage.{message_stands, written_reads}

pub encoded_written : (limit : ℕ) (reply : Reply) (bytes : List ℕ) (header : Header) → ReplyWritten limit reply bytes header → Encoded limit reply bytes header
encoded_written limit reply bytes header w = subst (λ (h : Header). Encoded limit reply bytes h) (sym w.header_is) (written w.written)

instead : (limit : ℕ) (reply : Reply) (bytes : List ℕ) (e : ProtoError) → bytes ≡ header_octets (fallback_header reply.metadata.id) → CannotBeWritten limit reply e → Encoded limit reply bytes (fallback_header reply.metadata.id)
instead limit reply bytes e is (refused_large large) = too_large large is
instead limit reply bytes e is (refused_formless stuck) = formless stuck is

pub encoded_fallback : (limit : ℕ) (reply : Reply) (bytes : List ℕ) (header : Header) (e : ProtoError) → header ≡ fallback_header reply.metadata.id → bytes ≡ header_octets (fallback_header reply.metadata.id) → CannotBeWritten limit reply e → Encoded limit reply bytes header
encoded_fallback limit reply bytes header e h is r = subst (λ (x : Header). Encoded limit reply bytes x) (sym h) (instead limit reply bytes e is r)

pub reply_encoded : (limit : ℕ) (reply : Reply) (bytes : List ℕ) (header : Header) → AreBytes bytes → Encoded limit reply bytes header → ReplyEncoded limit reply bytes header
reply_encoded limit reply bytes header are e = record { encoded = e; stands = λ fronts queries w d. message_stands limit reply bytes fronts queries w d; reads = λ fronts queries w d. written_reads limit reply bytes fronts queries w d are }

-- what is told of the sections makes the header of what was written
pub summed_header : (metadata : Metadata) (question_count : ℕ) (s : Sections) (fronts : Fronts) → SumsUp s fronts → header_by metadata question_count s ≡ header_with metadata question_count fronts
summed_header metadata question_count s fronts sums = rw (sums.answers, sums.authorities, sums.additionals, sums.is_cut) refl

-- the numbers of that header are those of the metadata
pub metadata_ranges : (metadata : Metadata) (question_count : ℕ) (s : Sections) (header : Header) → header ≡ header_by metadata question_count s → IsMetadataInRange header.metadata → IsMetadataInRange metadata
metadata_ranges metadata question_count s header is r =
    let same : IsMetadataInRange (header_by metadata question_count s).metadata = subst (λ (h : Header). IsMetadataInRange h.metadata) is r in
    record { id = same.id; op_code = same.op_code; response_code = same.response_code }

-- two facts where there is a value
pub where_both_ok : {X E A : Type 0} {P Q : X → Type 0} (r : Result X E) → OnOk r A → IfOk r P → ((x : X) → A → P x → Q x) → IfOk r Q
where_both_ok (Ok x) a p both = both x a p
where_both_ok (Err e) a p both = tt
