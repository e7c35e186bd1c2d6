use Rattle.std.proofs.Common.{◌≡◌, IsTrue, false, length, min, rules}
use Rattle.hickory_base.proofs.lemmas.ResultMaps.{if_ok_map}
use Rattle.hickory_server.specs.server.Fitted.{front, opt, tc}
use Rattle.hickory_server.proofs.server.datagrams.cut.Goals as goal

pub returns-then-lacks_needed : goal.returns-then-lacks_needed
returns-then-lacks_needed c =
    let yes : IsTrue c.lacks_needed.result = search rules in
    if_ok_map c.truncated.result _ _ c.truncated.ensures (λ bytes made. tc c.requires (c.lacks_needed.ensures.lacks yes c.args.limit) made)

pub returns-in-Some : goal.returns-in-Some
returns-in-Some c =
    let no : c.lacks_needed.result ≡ false = search rules in
    let most : c.min-most.result ≡ min c.args.header.now.counts.additionals (length c.args.reply.now.additionals.now) = search rules in
    front c.requires (c.lacks_needed.ensures.has no) (rw (c.in-Some.is, most) at c.in_ok-bytes.ensures)

pub returns-in-None : goal.returns-in-None
returns-in-None c =
    if_ok_map c.truncated-in-None.result _ _ c.truncated-in-None.ensures (λ bytes made. tc c.requires (opt (rw c.in-None.is at c.in_ok-bytes.ensures)) made)
