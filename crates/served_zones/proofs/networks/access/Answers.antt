use Rattle.served_zones.proofs.AccessLists.{inserted_alone, none_stay, same_stay}
use Rattle.served_zones.proofs.networks.access.Goals as goal

pub returns-clause-denied : goal.returns-clause-denied
returns-clause-denied c =
    let denied = c.insert_deny.new.self.deny in
    same_stay c.args.denied.now denied c.insert_allow.new.self.deny
    (inserted_alone c.new-access.result.deny c.args.denied.now denied c.new-access.ensures.deny c.in_ok-insert_deny.ensures.ok)
    c.in_ok-insert_allow.ensures.deny_stays

pub returns-clause-allowed : goal.returns-clause-allowed
returns-clause-allowed c =
    let before = c.insert_deny.new.self.allow in
    inserted_alone before c.args.allowed.now c.insert_allow.new.self.allow
    (none_stay c.new-access.result.allow before c.new-access.ensures.allow c.in_ok-insert_deny.ensures.allow_stays)
    c.in_ok-insert_allow.ensures.ok
