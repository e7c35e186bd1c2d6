use Rattle.std.proofs.Common.{inl}
use Rattle.zone_replies.specs.Handled.{in_whole}
use Rattle.zone_replies.proofs.handled.whole.Goals as goal

pub returns : goal.returns
returns c = inl (in_whole c.in_ok-answer.ensures)
