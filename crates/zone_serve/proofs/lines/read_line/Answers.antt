use Rattle.std.proofs.Common.{rules}
use Rattle.server.proofs.Results.{some_more}
use Rattle.zone_serve.specs.Lines.{AreWords}
use Rattle.zone_serve.proofs.Results.{if_ok}
use Rattle.zone_serve.proofs.lines.read_line.Goals as goal

pub returns : goal.returns
returns c =
    let words : AreWords c.args.line.now c.in-Some.transport.now c.in-Some.address.now c.in-Some.digits.now = search rules in
    if_ok c.message_of.result _ _
    (λ message holds. some_more message _ _ (λ it (transport, address, digits). (c.in-Some.transport.now, c.in-Some.address.now, c.in-Some.digits.now, words, transport, address, digits)) holds)
    c.message_of.ensures
