use Rattle.zone_check.proofs.signed.is_if_signed.Goals as goal

pub returns-in-NoNsec : goal.returns-in-NoNsec
returns-in-NoNsec c = rw c.in-NoNsec.is c.lacks_nsec.ensures

pub returns-in-OtherNext : goal.returns-in-OtherNext
returns-in-OtherNext c = rw c.in-OtherNext.is c.has_other_next.ensures

pub returns-in-IdleType : goal.returns-in-IdleType
returns-in-IdleType c = rw c.in-IdleType.is c.lists_idle_type.ensures

pub returns-in-Unlisted : goal.returns-in-Unlisted
returns-in-Unlisted c = rw c.in-Unlisted.is c.is_unlisted.ensures

pub returns-in-Unsigned : goal.returns-in-Unsigned
returns-in-Unsigned c = rw c.in-Unsigned.is c.is_unsigned.ensures
