use Rattle.std.proofs.Common.{◌≡◌, ◌≢◌, ◌∙◌, ◌+◌, ◌<◌, ◌≤◌, ◌^◌, ◌++◌, inl, inr, List, length, drop, replicate, None, ap, sym, arith, rules}
use Rattle.wire_names.specs.serialize.layout.Bytes.{AreBytes}
use Rattle.wire_messages.specs.serialize.layout.HeaderLayout.{header_octets}
use Rattle.wire_messages.specs.serialize.writing.ReplyRanges.{IsMetadataInRange}
use Rattle.hickory_wire.specs.serialize.writing.Decoding.{IsDecodable, decoded_message}
use Rattle.wire_reading.specs.serialize.reading.MessageReading.{Reads}
use Rattle.hickory_wire.specs.serialize.writing.ReplyParts.{reply_of}
use Rattle.hickory_wire.specs.serialize.writing.ReplyParts.CannotBeWritten.{too_large, formless}
use Rattle.wire_writing.specs.serialize.writing.Writing.{Written}
use Rattle.wire_names.specs.declared.error.ProtoError.TheVariants.{MaxSizeExceeded, CharacterDataTooLong, DataTooLong}
use Rattle.wire_messages.specs.declared.op.query.Query.{Query}
use Rattle.wire_writing.proofs.lemmas.serialize.writing.WritingFaults.{stuck_kinds}
use Rattle.wire_messages.proofs.lemmas.serialize.layout.VectorBytes.{are_bytes}
use Rattle.hickory_wire.proofs.lemmas.serialize.writing.RepliesEncoded.{metadata_ranges, summed_header}
use Rattle.hickory_wire.proofs.lemmas.serialize.writing.WrittenMessage.{message_stands, written_reads}
use Rattle.hickory_wire.proofs.serialize.writing.message_encoder.write_reply.Goals as goal

pub returns-then-not-question_fits-clause-refused : goal.returns-then-not-question_fits-clause-refused
returns-then-not-question_fits-clause-refused g c =
    let d = c.drain_lists.ensures in
    let large : c.args.limit < 12 + length c.args.parts.question.now = search rules in
    λ _. (d.0, d.1, too_large large)

pub returns-in-Some-clause-too_large : goal.returns-in-Some-clause-too_large
returns-in-Some-clause-too_large g c =
    let w = c.in_ok-sections.ensures.written in
    let kind = stuck_kinds {new = c.write_lists.new.bytes.items} c.in-Some.e w.2.lists c.in-Some.is in
    let fit : 12 + length c.args.parts.question.now ≤ c.args.limit = search rules in
    let other : c.in-Some.e ≢ MaxSizeExceeded = elim kind [ inl k ↦ λ h. let e : CharacterDataTooLong ≡ MaxSizeExceeded = sym k ∙ h in cc | inr k ↦ λ h. let e : DataTooLong ≡ MaxSizeExceeded = sym k ∙ h in cc ] in
    (λ h. absurd (other (cc)), λ large. absurd (omega arith))

pub returns-in-Some-clause-refused : goal.returns-in-Some-clause-refused
returns-in-Some-clause-refused g c =
    let w = c.in_ok-sections.ensures.written in
    let fit : 12 + length c.args.parts.question.now ≤ c.args.limit = search rules in
    let start : c.extend_from_slice-2.new.self.items ≡ replicate 12 0 ++ c.args.parts.question.now = search rules in
    λ _. (
      w.0,
      w.1,
      formless (record {
        body = c.write_lists.new.bytes.items;
        fits = fit;
        lists = rw (sym start, sym c.in-Some.is) w.2.lists;
        put = w.2.fronts;
        owners = rw (sym start) w.2.owners;
      }),
    )

pub returns-clause-written : goal.returns-clause-written
returns-clause-written g c =
    let w = c.in_ok-sections.ensures.written in
    let fit : 12 + length c.args.parts.question.now ≤ c.args.limit = search rules in
    let start : c.extend_from_slice-2.new.self.items ≡ replicate 12 0 ++ c.args.parts.question.now = search rules in
    let none : c.in_ok-sections.sections.stops.fault ≡ None = search rules in
    let fronts = w.2.fronts in
    let reply = reply_of c.args.parts w.0 in
    let bytes = c.put_header.new.bytes.items in
    let header = c.header_of-header.ensures ∙ summed_header c.args.parts.metadata c.args.parts.question_count c.in_ok-sections.sections fronts w.2.sums in
    let ranges : IsMetadataInRange c.args.parts.metadata = metadata_ranges c.args.parts.metadata c.args.parts.question_count c.in_ok-sections.sections c.header_of-header.result c.header_of-header.ensures c.put_header.ensures.in_range in
    let small : c.args.limit < 2 ^ 16 = search rules in
    let whole : Written c.args.limit reply bytes fronts = record {
      body = c.write_lists.new.bytes.items;
      limited = small;
      in_range = record { metadata = ranges; edns = c.in_ok-sections.ensures.in_range none };
      fits = fit;
      lists = rw (sym start, sym none) w.2.lists;
      owners = rw (sym start) w.2.owners;
      is = c.put_header.ensures.put ∙ ap (λ h. header_octets h ++ drop 12 c.write_lists.new.bytes.items) header;
    } in
    let are : AreBytes bytes = are_bytes bytes c.type_inv.bytes in
    let back : (queries : List Query) → IsDecodable reply queries → Reads bytes (decoded_message reply queries fronts) = λ queries d. written_reads c.args.limit reply bytes fronts queries whole d are in
    (w.0, w.1, record { fronts = fronts; written = whole; header_is = header; stands = λ queries d. message_stands c.args.limit reply bytes fronts queries whole d; reads = back })

pub returns-clause-bytes : goal.returns-clause-bytes
returns-clause-bytes g c = are_bytes c.put_header.new.bytes.items c.type_inv.bytes
