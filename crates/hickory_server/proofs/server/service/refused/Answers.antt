use Rattle.std.proofs.Common.{◌≡◌, [], rules}
use Rattle.std.specs.Option.{option_copied}
use Rattle.hickory_server.proofs.lemmas.server.Refusals.{one_sent, refuses_as}
use Rattle.hickory_server.proofs.server.service.refused.Goals as goal

pub returns-in-Ok : goal.returns-in-Ok
returns-in-Ok c =
    let (query, is) = c.requires in
    let (replies, answered, encoded) = c.in-Ok.ensures.ok in
    let none : c.set_nsid.new.self.zones ≡ [] = search rules in
    let named : c.set_nsid.new.self.nsid ≡ option_copied c.args.nsid = search rules in
    one_sent c.args.sending replies _ c.in-Ok.sent (refuses_as (option_copied c.args.nsid) answered none named is) encoded
