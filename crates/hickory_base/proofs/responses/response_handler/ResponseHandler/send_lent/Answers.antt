use Rattle.std.proofs.Common.{◌≡◌, ◌∙◌, ap, rules}
use Rattle.std.specs.Iterator.Adapters.{once_item}
use Rattle.std.specs.Slice.Iter.{iter_rest}
use Rattle.std.proofs.Common.{None}
use Rattle.hickory_base.specs.responses.Responses.{header_of}
use Rattle.hickory_base.proofs.lemmas.ResultMaps.{if_ok_map}
use Rattle.hickory_base.proofs.lemmas.responses.LentReplies.{added_so, added_so_or_not, given_by_empty, given_by_slice, reply_of_parts}
use Rattle.hickory_base.proofs.responses.response_handler.ResponseHandler.send_lent.Goals as goal

pub returns-clause-ok : goal.returns-clause-ok
returns-clause-ok g c =
    let b = c.build-response.ensures in
    let answers : iter_rest c.build-response.result.answers ≡ c.args.answers.now = search rules in
    let authorities : iter_rest c.build-response.result.authorities ≡ c.args.authorities.now = search rules in
    let soa : once_item c.build-response.result.soa ≡ None = search rules in
    let additionals : iter_rest c.build-response.result.additionals ≡ c.args.additionals.now = search rules in
    if_ok_map c.send_response.result _ _ c.send_response.ensures.ok
    (λ info w. added_so _ _ (λ r is. reply_of_parts r is b.parts.metadata_is (b.parts.queries ∙ ap (λ base. base.questions) c.new.ensures) (b.parts.edns ∙ ap (λ base. base.edns) c.new.ensures) b.parts.signature
    (given_by_slice is.answers answers) (given_by_slice is.authorities authorities) (given_by_empty is.soa soa) (given_by_slice is.additionals additionals))
    (λ r entry. g.Self.ResponseHandler.shows (g.Self.ResponseHandler.settings c.args.self.now) r entry × g.Self.ResponseHandler.informs (g.Self.ResponseHandler.settings c.args.self.now) r entry (header_of info)) w)

pub returns-clause-err : goal.returns-clause-err
returns-clause-err g c =
    let b = c.build-response.ensures in
    let answers : iter_rest c.build-response.result.answers ≡ c.args.answers.now = search rules in
    let authorities : iter_rest c.build-response.result.authorities ≡ c.args.authorities.now = search rules in
    let soa : once_item c.build-response.result.soa ≡ None = search rules in
    let additionals : iter_rest c.build-response.result.additionals ≡ c.args.additionals.now = search rules in
    added_so_or_not _ _ (λ r is. reply_of_parts r is b.parts.metadata_is (b.parts.queries ∙ ap (λ base. base.questions) c.new.ensures) (b.parts.edns ∙ ap (λ base. base.edns) c.new.ensures) b.parts.signature
    (given_by_slice is.answers answers) (given_by_slice is.authorities authorities) (given_by_empty is.soa soa) (given_by_slice is.additionals additionals)) (g.Self.ResponseHandler.shows (g.Self.ResponseHandler.settings c.args.self.now)) c.send_response.result c.send_response.ensures.err
