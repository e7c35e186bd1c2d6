use Rattle.std.proofs.Common.{◌≡◌, rules}
use Rattle.hickory_catalog.specs.replies.ReplyEdns.{reply_edns}
use Rattle.hickory_catalog.proofs.catalog.Catalog.transfer.Goals as goal

pub returns-clause-replied : goal.returns-clause-replied
returns-clause-replied g c =
    let edns : c.in_ok-edns.edns ≡ reply_edns c.args.self.now.nsid c.args.request.now.message.edns = search rules in
    rw edns at c.answer_by_transfer.ensures.replied
