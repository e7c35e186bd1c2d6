-- How the chain of a name ends.
use Rattle.zone_answers.specs.Zones.{Records}

-- The records asked for stand last; at the servers of a zone below; at a name without such records; at one that does
-- not exist; at one that a DNAME makes too long (YXDOMAIN); outside of the zone, at a name that the chain has been at,
-- where data give no name, or where no more is followed.
pub data Ending : Type 0 where
  answer : Ending
  referral : Records → Ending
  no_data : Ending
  no_name : Ending
  name_too_long : Ending
  left_open : Ending
