use Rattle.std.proofs.Common.{sym}
use Rattle.wire_reading.proofs.lemmas.serialize.reading.KnownRests.{rest_later}
use Rattle.wire_reading.proofs.serialize.reading.known_names.KnownNames.rest.Goals as goal

pub labels_of-requires-clause-order : goal.labels_of-requires-clause-order
labels_of-requires-clause-order c = (c.self.invariant c.args.place c.in_ok-rest.rest c.in_ok-rest.ensures).order

pub labels_of-requires-clause-within : goal.labels_of-requires-clause-within
labels_of-requires-clause-within c = rw c.deref.ensures.value ((c.self.invariant c.args.place c.in_ok-rest.rest c.in_ok-rest.ensures).within)

pub returns : goal.returns
returns c =
    let h = c.self.invariant c.args.place c.in_ok-rest.rest c.in_ok-rest.ensures in
    rw (c.labels_of.ensures, c.deref.ensures.value, sym c.self.view_is) (rest_later c.if-start-rest.false h.stands)
