use Rattle.std.proofs.Common.{arith}
use Rattle.server.proofs.Written.{none_at_end}
use Rattle.server.proofs.answering.Answering.answer_stream.Goals as goal

pub answer_whole-requires : goal.answer_whole-requires
answer_whole-requires g c = none_at_end c.args.self.now.pending c.len-self.result (omega (arith, c.len-self.ensures))

pub returns-clause-step : goal.returns-clause-step
returns-clause-step g c = record { answered = c.answer_whole.ensures.answered; at_end = c.answer_whole.ensures.at_end }
