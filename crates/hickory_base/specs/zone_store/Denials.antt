-- For what a denial by NSEC3 records is asked (RFC 5155 section 7.2).
use Rattle.std.specs.Prelude.{ℕ, Bool, List}
use Rattle.wire_names.specs.rr.domain.DomainName.{DomainName}
use Rattle.hickory_base.specs.declared.zone_store.handler.Nsec3QueryInfo.{Nsec3QueryInfo}

pub record Nsec3Question : Type 0 where
  pub qname : DomainName
  pub qtype : ℕ
  pub has_wildcard_match : Bool
  pub algorithm : ℕ
  pub salt : List ℕ
  pub iterations : ℕ

-- what a borrowed question says, wherever it lies
abbrev pub nsec3_question : Nsec3QueryInfo → Nsec3Question
nsec3_question info = record {
  qname = info.qname.now;
  qtype = info.qtype;
  has_wildcard_match = info.has_wildcard_match;
  algorithm = info.algorithm;
  salt = info.salt.now;
  iterations = info.iterations;
}
