use Rattle.std.proofs.Common.{option_map}
use Rattle.name_lists.specs.Counts.{Counts}
use Rattle.server.specs.Lists.{IsListOfText}
use Rattle.server.specs.declared.service.Service.{Service}
use Rattle.server.proofs.Results.{held}
use Rattle.zone_service.proofs.exports.zone_service_set_blocklist.Goals as goal

pub returns-clause-list : goal.returns-clause-list
returns-clause-list c done =
    let after : Service = c.set_blocklist.new.self in
    held c.set_blocklist.result (λ (counts : Counts). IsListOfText c.args.text.now counts (option_map (λ it. it.value) after.list)) (c.told_of_list.ensures.done done) c.set_blocklist.ensures.list
