-- The message that was read means what it means.
use Rattle.std.proofs.Common.{rules}
use Rattle.wire_reading.specs.serialize.reading.MessageReading.{Reads}
use Rattle.notices.specs.Schedule.Hears.{message}
use Rattle.notices.proofs.notices.Notices.heard.Goals as goal

pub returns-in-Some-clause-ok : goal.returns-in-Some-clause-ok
returns-in-Some-clause-ok c =
    let reads : Reads c.args.bytes.now c.in-Some.message = search rules in
    message c.in-Some.message reads c.hear.ensures
