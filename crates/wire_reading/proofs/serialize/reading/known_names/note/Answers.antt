use Rattle.wire_reading.proofs.lemmas.serialize.reading.KnownRests.{noted}
use Rattle.wire_reading.proofs.serialize.reading.known_names.note.Goals as goal

pub returns : goal.returns
returns c = λ bytes labels are holds. noted bytes labels c.args.rests.now.items c.args.place c.args.rest are holds
