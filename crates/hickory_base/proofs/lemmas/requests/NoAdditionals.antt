-- A message without a record in its additional section stays as it is, where none is read.
use Rattle.std.proofs.Common.{◌≡◌, ℕ, Option, None, List, [], Ok, sym, ap, ◌∙◌, arith}
use Rattle.wire_messages.specs.op.EdnsFields.{EdnsFields}
use Rattle.wire_messages.specs.serialize.layout.MessageLayout.{with_high_code}
use Rattle.wire_messages.specs.serialize.reading.Cursor.{Cursor}
use Rattle.wire_messages.specs.serialize.reading.Reading.{Read}
use Rattle.wire_messages.specs.serialize.reading.SectionReading.{additionals_after}
use Rattle.wire_messages.specs.declared.op.header.Metadata.{Metadata}
use Rattle.wire_messages.specs.declared.rr.rdata.RData.{RData}
use Rattle.wire_messages.specs.declared.rr.record.Record.{Record}
use Rattle.wire_messages.specs.declared.rr.tsig.TSIG.{TSIG}
use Rattle.hickory_base.specs.requests.RequestReading.{HasNoAdditional, additionals_of}
use Rattle.hickory_base.specs.declared.requests.message_request.MessageRequest.{MessageRequest}

abbrev read_here : MessageRequest → Cursor → Read MessageRequest
read_here m c = Ok (m, c)

same_code : (head : Metadata) → with_high_code head 0 ≡ head
same_code head = ap (λ (code : ℕ). record head { response_code = code }) (omega arith)

pub nothing_added : (m : MessageRequest) → HasNoAdditional m → (c : Cursor) → additionals_of m 0 c ≡ read_here m c
unfolding additionals_of additionals_after
nothing_added m none c =
    ap (λ (head : Metadata). read_here (record m { metadata = head; additionals = []; signature = None; edns = None }) c) (same_code m.metadata)
    ∙ ap (λ (xs : List (Record RData)). read_here (record m { additionals = xs; signature = None; edns = None }) c) (sym none.0)
    ∙ ap (λ (s : Option (Record TSIG)). read_here (record m { signature = s; edns = None }) c) (sym none.1)
    ∙ ap (λ (e : Option EdnsFields). read_here (record m { edns = e }) c) (sym none.2)
