use Rattle.std.proofs.Common.{◌≡◌, List, ℕ, rules}
use Rattle.std.proofs.lemmas.Iterator.{YieldsList-from_slice, YieldsList-from_map_by}
use Rattle.std.proofs.lemmas.Iterator.Consumers.{YieldsList-at}
use Rattle.wire_messages.specs.serialize.writing.Reply.{Reply}
use Rattle.hickory_wire.specs.serialize.writing.ReplyParts.{RecordLists, ReplyEncoded, reply_of}
use Rattle.wire_messages.specs.declared.op.header.Header.{Header}
use Rattle.hickory_base.proofs.lemmas.responses.RecordSlices.{given_by}
use Rattle.hickory_base.proofs.lemmas.ResultMaps.{if_ok_map}
use Rattle.hickory_base.proofs.responses.response_encoding.encode_lent.Goals as goal

-- the reply of the lists that were given
encoded_lists : {limit : ℕ} {header : Header} {bytes : List ℕ} (reply : RecordLists → Reply) {given lent : RecordLists}
    → given.answers ≡ lent.answers → given.authorities ≡ lent.authorities → given.soa ≡ lent.soa → given.additionals ≡ lent.additionals
    → ReplyEncoded limit (reply given) bytes header → ReplyEncoded limit (reply lent) bytes header
encoded_lists reply a n s d made = rw (← a, ← n, ← s, ← d) made

pub returns-clause-encoded : goal.returns-clause-encoded
returns-clause-encoded g c =
    if_ok_map c.encode_message_parts.result _ _ c.encode_message_parts.ensures.encoded
    (λ made w. encoded_lists (reply_of c.args.parts)
    (given_by w.1.answers_given (YieldsList-from_map_by _ (λ r. r.now) g.A.RecordRef.record_of (YieldsList-at c.map.ensures.source (YieldsList-from_slice _ c.iter.ensures.rest)) c.map.ensures.closure (λ x r q k. search rules)))
    (given_by w.1.authorities_given (YieldsList-from_map_by _ (λ r. r.now) g.N.RecordRef.record_of (YieldsList-at c.map-2.ensures.source (YieldsList-from_slice _ c.iter-2.ensures.rest)) c.map-2.ensures.closure (λ x r q k. search rules)))
    (given_by w.1.soa_given (YieldsList-from_map_by _ (λ r. r.now) g.S.RecordRef.record_of (YieldsList-at c.map-3.ensures.source (YieldsList-from_slice _ c.iter-3.ensures.rest)) c.map-3.ensures.closure (λ x r q k. search rules)))
    (given_by w.1.additionals_given (YieldsList-from_map_by _ (λ r. r.now) g.D.RecordRef.record_of (YieldsList-at c.map-4.ensures.source (YieldsList-from_slice _ c.iter-4.ensures.rest)) c.map-4.ensures.closure (λ x r q k. search rules)))
    w.2)
