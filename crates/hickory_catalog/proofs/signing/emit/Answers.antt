use Rattle.hickory_base.specs.responses.Responses.{header_of}
use Rattle.hickory_base.proofs.lemmas.responses.LentReplies.{given_by_empty, given_by_slice, reply_of_parts}
use Rattle.hickory_catalog.proofs.lemmas.replies.SentReplies.{emitted, given_by_chain, not_emitted}
use Rattle.hickory_catalog.proofs.signing.emit.Goals as goal

pub returns-clause-written : goal.returns-clause-written
returns-clause-written c =
    let b = c.response.ensures in
    emitted (λ r is. reply_of_parts r is b.parts.metadata_is b.parts.queries b.parts.edns b.parts.signature (given_by_slice is.answers b.answers)
    (given_by_chain is.authorities b.first b.second b.third b.undone.0 b.undone.1 b.undone_behind.0 b.undone_behind.1)
    (given_by_empty is.soa b.soa) (given_by_slice is.additionals b.additionals)) _ _ c.destructive_emit.result header_of c.destructive_emit.ensures.written

pub returns-clause-refused : goal.returns-clause-refused
returns-clause-refused c =
    let b = c.response.ensures in
    not_emitted (λ r is. reply_of_parts r is b.parts.metadata_is b.parts.queries b.parts.edns b.parts.signature (given_by_slice is.answers b.answers)
    (given_by_chain is.authorities b.first b.second b.third b.undone.0 b.undone.1 b.undone_behind.0 b.undone_behind.1)
    (given_by_empty is.soa b.soa) (given_by_slice is.additionals b.additionals)) _ c.destructive_emit.result c.destructive_emit.ensures.refused
