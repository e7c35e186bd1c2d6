use Rattle.std.proofs.Common.{[], ◌∷◌, refl, rules}
use Rattle.hickory_base.specs.responses.Responses.{header_of}
use Rattle.hickory_catalog.specs.queries.Queries.{no_zone, one, other_count, zone}
use Rattle.hickory_catalog.specs.replies.Replies.{error_reply}
use Rattle.hickory_catalog.proofs.lemmas.queries.QueryReplies.{finds_none, finds_some, if_ok_map}
use Rattle.hickory_catalog.proofs.lemmas.replies.SentInOrder.{sent_alone}
use Rattle.hickory_catalog.proofs.queries.answer_query.Goals as goal

pub returns-in-Err-clause-replied : goal.returns-in-Err-clause-replied
returns-in-Err-clause-replied g c = (
  error_reply c.args.request.now.message c.args.edns.now 1 ∷ [],
  other_count c.in-Err.ensures.err refl,
  sent_alone g.R.ResponseHandler c.args.request.now.message.metadata c.args.sink.now c.send_error.new.sink
      (error_reply c.args.request.now.message c.args.edns.now 1) (header_of c.send_error.result) (search rules),
)

pub returns-in-None-clause-replied : goal.returns-in-None-clause-replied
returns-in-None-clause-replied g c = (
  error_reply c.args.request.now.message c.args.edns.now 5 ∷ [],
  no_zone c.in-Ok.ensures.query (finds_none c.args.catalog.now.zones (λ chain. chain.now.items) c.name.result.now _ c.in_ok-find.field-0 c.in_ok-find.ensures.found c.in-None.is c.name.ensures) refl,
  sent_alone g.R.ResponseHandler c.args.request.now.message.metadata c.args.sink.now c.send_error-in-None.new.sink
      (error_reply c.args.request.now.message c.args.edns.now 5) (header_of c.send_error-in-None.result) (search rules),
)

pub returns-then-value-clause-replied : goal.returns-then-value-clause-replied
returns-then-value-clause-replied g c =
    if_ok_map c.answer_transfer.result _ _ c.answer_transfer.ensures.replied
    (λ info w. (
      w.0,
      zone c.in-Ok.ensures.query (finds_some c.args.catalog.now.zones (λ chain. chain.now.items) c.name.result.now _ c.in_ok-find.field-0 c.in-Some.chain c.in_ok-find.ensures.found c.in-Some.is c.name.ensures)
          (rw c.as_slice.ensures.value at w.1),
      w.2,
    ))

pub returns-else-value-clause-replied : goal.returns-else-value-clause-replied
returns-else-value-clause-replied g c =
    if_ok_map c.answer_lookup.result _ _ c.answer_lookup.ensures.replied
    (λ info w. (
      w.0 ∷ [],
      zone c.in-Ok.ensures.query (finds_some c.args.catalog.now.zones (λ chain. chain.now.items) c.name.result.now _ c.in_ok-find.field-0 c.in-Some.chain c.in_ok-find.ensures.found c.in-Some.is c.name.ensures)
          (one (rw c.as_slice.ensures.value at w.1) refl),
      sent_alone g.R.ResponseHandler c.args.request.now.message.metadata c.args.sink.now c.answer_lookup.new.sink w.0 (header_of info) w.2,
    ))
