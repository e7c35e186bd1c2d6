use Rattle.zone_answers.proofs.chains.+follow.Given as goal

abbrev pub decreases-follow : goal.decreases-follow
decreases-follow l = l.left
