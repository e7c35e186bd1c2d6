-- What is written keeps the limit.
use Rattle.std.proofs.Common.{◌≡◌, ℕ, ◌+◌, ◌≤◌, List, ◌++◌, length, take, drop, max, replicate, Option, ap, arith, length-append}
use Rattle.std.proofs.lemmas.List.{length-drop}
use Rattle.wire_messages.specs.serialize.layout.HeaderLayout.{header_octets}
use Rattle.wire_messages.specs.serialize.writing.Reply.{Reply}
use Rattle.wire_writing.specs.serialize.writing.Writing.{ListFront, ListsWritten, Fronts, Written, Encoded, written_header}
use Rattle.wire_writing.specs.serialize.writing.Writing.Encoded.{written, too_large, formless}
use Rattle.wire_writing.specs.serialize.writing.Writing.ListsWritten.{none_left, next_list, stuck_list}
use Rattle.wire_names.specs.declared.error.ProtoError.{ProtoError}
use Rattle.wire_messages.specs.declared.op.header.Header.{Header}
use Rattle.wire_messages.specs.declared.rr.rdata.RData.{RData}
use Rattle.wire_messages.specs.declared.rr.record.Record.{Record}
use Rattle.hickory_wire.proofs.lemmas.serialize.writing.WrittenItems.{PutsAll-longer, PutsAll-within}

record Sizes (limit : ℕ) (old new : List ℕ) : Type 0 where
  longer : length old ≤ length new
  within : length new ≤ limit

lists_sizes : {limit : ℕ} {lists : List (List (Record RData))} {old new : List ℕ} {fronts : List ListFront} {fault : Option ProtoError} → ListsWritten limit lists old new fronts fault → length old ≤ limit → Sizes limit old new
lists_sizes none_left h = record { longer = omega arith; within = h }
lists_sizes {limit} (next_list {records = records} {old = old} {middle = middle} {front = front} one more) h =
    let rs = take front.count records in
    let rest = lists_sizes more (PutsAll-within limit rs old middle h one.puts) in
    record { longer = omega (arith, PutsAll-longer limit rs old middle one.puts, rest.longer); within = rest.within }
lists_sizes {limit} (stuck_list {records = records} {old = old} {new = new} {front = front} one uncut behind) h =
    let rs = take front.count records in
    record { longer = omega (arith, PutsAll-longer limit rs old new one.puts); within = PutsAll-within limit rs old new h one.puts }

-- a reply has at most as many bytes as the limit
pub written_within : (limit : ℕ) (reply : Reply) (bytes : List ℕ) (fronts : Fronts) → Written limit reply bytes fronts → length bytes ≤ limit
written_within limit reply bytes fronts w =
    let long : length (replicate 12 0 ++ reply.question) ≡ 12 + length reply.question = length-append (replicate 12 0) reply.question in
    let s = lists_sizes w.lists (omega (arith, long, w.fits)) in
    omega (arith, ap length w.is, length-append (header_octets (written_header reply fronts)) (drop 12 w.body), length-drop 12 w.body, long, s.longer, s.within)

-- and what stands for it has twelve
pub encoded_within : (limit : ℕ) (reply : Reply) (bytes : List ℕ) (header : Header) → Encoded limit reply bytes header → length bytes ≤ max limit 12
encoded_within limit reply bytes header (written {fronts = fronts} w) = omega (arith, written_within limit reply bytes fronts w)
encoded_within limit reply bytes header (too_large large is) = omega (arith, ap length is)
encoded_within limit reply bytes header (formless stuck is) = omega (arith, ap length is)
