use Rattle.std.proofs.Common.{◌++◌, ◌∷◌, ◌∙◌, [], List, ap, rules}
use Rattle.notices.specs.declared.notice.Target.{Target}
use Rattle.served_notices.specs.Hosts.{addresses_in}
use Rattle.served_notices.proofs.Turns.{addresses_more}
use Rattle.served_notices.proofs.hosts.push_addresses.Goals as goal

pub loop-entry-preserved : goal.loop-entry-preserved
loop-entry-preserved c =
    c.in_ok-push_address.ensures ∙ ap (λ (t : List Target). t ++ addresses_in (c.entry-item.result ∷ [])) c.loop-entry.invariant
    ∙ addresses_more c.args.targets.now.items c.args.records.now c.loop-entry.entry-index c.entry-item.result (search rules) c.entry-item.is
