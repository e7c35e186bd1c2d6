-- How a chain ends, where it lies.
use Rattle.std.specs.Prelude.{◌≡◌, ℕ, [], ◌∷◌, ◌++◌}
use Rattle.wire_names.specs.rr.domain.DomainName.{DomainName}
use Rattle.wire_names.specs.rr.domain.NameOrder.{lower_name}
use Rattle.zone_answers.specs.declared.chains.ChainEnd.{ChainEnd}
use Rattle.zone_answers.specs.declared.chains.ChainEnd.TheVariants as at
use Rattle.zone_answers.specs.declared.chains.Link.{Link}
use Rattle.zone_answers.specs.declared.chains.Link.TheVariants as link
use Rattle.zone_answers.specs.Chains.{Chases, Step, ends, leads, step}
use Rattle.zone_answers.specs.Endings.{Ending}
use Rattle.zone_answers.specs.Endings as ended
use Rattle.zone_answers.specs.Zones.{Answers, Outcome, Records, Zone}

abbrev pub ending_of : ChainEnd → Ending
ending_of at.Answer = ended.answer
ending_of (at.Referral servers) = ended.referral servers.now
ending_of at.NoData = ended.no_data
ending_of at.NoName = ended.no_name
ending_of at.NameTooLong = ended.name_too_long
ending_of at.LeftOpen = ended.left_open

-- where a chain goes on: a name, the type that is asked for, and how many CNAMEs are followed at most
pub record ChainPlace : Type 0 where
  pub name : DomainName
  pub record_type : ℕ
  pub left : ℕ

-- From this place the records were put behind those that were there, and the chain ends so.
pub record Chased (zone : Zone) (from : ChainPlace) (old new : Records) (ending : Ending) : Type 0 where
  pub added : Records
  pub put : new ≡ old ++ added
  pub chases : Chases zone from.record_type from.left old from.name added ending

-- what a chain gains by a link that puts these records
abbrev pub step_by : Records → Link → Step
step_by added (link.End ending) = ends added (ending_of ending)
step_by added (link.Leads to) = leads added to

-- The records of this step were put behind those that were there.
pub record IsStep (gained : Step) (old new : Records) (link : Link) : Type 0 where
  pub added : Records
  pub put : new ≡ old ++ added
  pub is : gained ≡ step_by added link

-- What was put there for one name.
pub record Linked (zone : Zone) (t : ℕ) (name : DomainName) (old new : Records) (link : Link) : Type 0 where
  pub outcome : Outcome
  pub says : Answers zone (lower_name name) t outcome
  pub gained : IsStep (step t old name outcome) old new link

-- how the chain ends where any type was asked for and these are the records of the name
abbrev pub any_link : Records → Link
any_link [] = link.End at.NoData
any_link (r ∷ rs) = link.End at.Answer

-- These records were put behind those that were there, for all that a name has.
pub record IsAllPut (rs added old new : Records) (link : Link) : Type 0 where
  pub put : new ≡ old ++ added
  pub ends : link ≡ any_link rs
