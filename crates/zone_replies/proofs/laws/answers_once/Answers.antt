use Rattle.zone_answers.proofs.lemmas.zones.Unique.{once}
use Rattle.zone_replies.proofs.laws.answers_once.Goals as goal

pub returns : goal.returns
returns c = once
