use Rattle.zone_check.proofs.HashedAnswers.{idle_by}
use Rattle.zone_denials.specs.Nsec3Data.{hashing_by}
use Rattle.zone_check.proofs.hashed.is_if_hashed.Goals as goal

pub returns-in-NoNsec3 : goal.returns-in-NoNsec3
returns-in-NoNsec3 c = rw c.in-NoNsec3.is c.is_by_name.ensures

pub returns-in-IdleType3 : goal.returns-in-IdleType3
returns-in-IdleType3 c = rw c.in-IdleType3.is c.is_by_name-in-IdleType3.ensures

pub returns-in-BesideNsec3 : goal.returns-in-BesideNsec3
returns-in-BesideNsec3 c = rw c.in-BesideNsec3.is c.is_beside_nsec3.ensures

pub returns-in-OtherNextHash : goal.returns-in-OtherNextHash
returns-in-OtherNextHash c = rw c.in-OtherNextHash.is c.has_other_next_hash.ensures

pub returns-in-IdleNsec3 : goal.returns-in-IdleNsec3
returns-in-IdleNsec3 c = rw c.in-IdleNsec3.is (idle_by c.args.zone.now c.is_idle_nsec3.result (hashing_by c.args.by.now) c.args.record.now c.requires c.is_idle_nsec3.ensures)

pub returns-in-Unlisted3 : goal.returns-in-Unlisted3
returns-in-Unlisted3 c = rw c.in-Unlisted3.is c.is_unlisted3.ensures
