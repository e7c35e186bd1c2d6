use Rattle.std.proofs.Common.{inl, refl}
use Rattle.server.proofs.limiting.shorten.Goals as goal

pub returns-in-Some-clause-shortened : goal.returns-in-Some-clause-shortened
returns-in-Some-clause-shortened c =
    let (within, reply, short, begins, is, frame) = c.in-Some.ensures.some in
    inl (refl, reply, short, begins, is, frame)
