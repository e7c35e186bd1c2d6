use Rattle.std.proofs.Common.{arith}
use Rattle.hickory_base.proofs.lemmas.requests.QuestionPlaces.{questions_move}
use Rattle.hickory_base.proofs.requests.message_request.Queries.read_list.Goals as goal

pub returns-in_err-slice_from : goal.returns-in_err-slice_from
returns-in_err-slice_from c =
    let m = questions_move c.args.count _ c.args.decoder.now (_, c.read_query_list.new.decoder) c.in_ok-read_query_list.ensures.exact.0 in
    absurd (omega (arith, m, c.in_err-slice_from.ensures.fault.0, c.index-start.ensures.place))
