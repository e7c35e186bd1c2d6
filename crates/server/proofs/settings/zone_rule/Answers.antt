use Rattle.server.proofs.settings.zone_rule.Goals as goal

pub returns : goal.returns
returns c =
    let made = c.in_ok-zone_grant.ensures in
    record { apex = rw c.in_ok-zone.ensures at made.apex; spelled = rw c.in_ok-rule.ensures at made.spelled; known = made.known }
