use Rattle.std.proofs.Common.{arith}
use Rattle.hickory_base.proofs.lemmas.requests.QuestionPlaces.{questions_move}
use Rattle.hickory_base.proofs.requests.message_request.Queries.read_single.Goals as goal

pub returns-in_err-slice_from : goal.returns-in_err-slice_from
returns-in_err-slice_from c =
    let m = questions_move 1 _ c.args.decoder.now (_, c.read_one.new.decoder) c.in_ok-read_one.ensures.exact.0 in
    absurd (omega (arith, m, c.in_err-slice_from.ensures.fault.0, c.index-start.ensures.place))
