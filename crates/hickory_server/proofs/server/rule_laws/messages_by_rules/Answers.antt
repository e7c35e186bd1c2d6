use Rattle.hickory_server.proofs.lemmas.server.RuleLaws.{alone, no_replies, stay, steps, within}
use Rattle.hickory_server.proofs.server.rule_laws.messages_by_rules.Goals as goal

pub returns-clause-steps : goal.returns-clause-steps
returns-clause-steps g c = steps g.H.ZoneHandler g.S.ReplySigner.signature_for

pub returns-clause-responses : goal.returns-clause-responses
returns-clause-responses g c = no_replies g.H.ZoneHandler g.S.ReplySigner.signature_for

pub returns-clause-within : goal.returns-clause-within
returns-clause-within g c =
    within g.H.ZoneHandler g.S.ReplySigner.signature_for c.what_is_written_keeps_the_limit.ensures.encoded

pub returns-clause-alone : goal.returns-clause-alone
returns-clause-alone g c =
    alone g.H.ZoneHandler g.S.ReplySigner.signature_for c.one_message.ensures.same c.one_message.ensures.no_fault
    c.zones_apart.ensures.alone c.zones_apart.ensures.others c.zones_apart.ensures.apexes c.zones_apart.ensures.one_chain c.zones_apart.ensures.decided c.zones_apart.ensures.transfers c.zones_apart.ensures.chains c.zones_apart.ensures.nearest

pub returns-clause-others : goal.returns-clause-others
returns-clause-others g c =
    stay g.H.ZoneHandler g.S.ReplySigner.signature_for c.one_message.ensures.same c.one_message.ensures.no_fault
    c.zones_apart.ensures.alone c.zones_apart.ensures.others c.zones_apart.ensures.apexes c.zones_apart.ensures.one_chain c.zones_apart.ensures.decided c.zones_apart.ensures.transfers c.zones_apart.ensures.chains c.zones_apart.ensures.nearest
