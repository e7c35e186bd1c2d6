-- The zone has rules already, or gets the first.
use Rattle.std.proofs.Common.{arith}
use Rattle.server.proofs.OwnRules.{place_found, place_made_at}
use Rattle.server.proofs.transfers.own_place.Goals as goal

pub returns-then-place-len : goal.returns-then-place-len
returns-then-place-len c =
    place_found c.args.apex c.args.zones.now.items c.place_of-place.result (rw c.as_slice.ensures.value at c.place_of-place.ensures) (omega arith)

pub returns : goal.returns
returns c =
    place_made_at c.args.apex c.args.zones.now.items c.push.new.self.items c.in_ok-closed.field-0 c.place_of-place.result c.in_ok-closed.ensures
    (rw c.as_slice.ensures.value at c.place_of-place.ensures) (omega arith) c.in_ok-push.ensures.items
