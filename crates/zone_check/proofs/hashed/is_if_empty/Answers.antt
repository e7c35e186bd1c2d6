use Rattle.zone_check.proofs.hashed.is_if_empty.Goals as goal

pub returns-in-NoNsec3 : goal.returns-in-NoNsec3
returns-in-NoNsec3 c = rw c.in-NoNsec3.is c.lacks_hash.ensures

pub returns-in-IdleType3 : goal.returns-in-IdleType3
returns-in-IdleType3 c = rw c.in-IdleType3.is c.lists_type.ensures
