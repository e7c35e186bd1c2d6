use Rattle.std.proofs.Common.{◌≡◌, length, rules}
use Rattle.zone_serve.proofs.ServedLines.{next_known}
use Rattle.zone_serve.proofs.serving.next_line.Goals as goal

pub returns-in-Ok : goal.returns-in-Ok
returns-in-Ok g c =
    let count : length c.read_until.new.buf.items ≡ c.in-Ok.field-0 = search rules in
    next_known (g.R.Read.remaining c.args.reader.now) (g.R.Read.remaining c.read_until.new.self) c.read_until.new.buf.items c.in-Ok.field-0 c.in-Ok.field-0-test.1 count
    (rw c.new-line.ensures.items at c.in-Ok.ensures.bytes) c.in-Ok.ensures.rest
