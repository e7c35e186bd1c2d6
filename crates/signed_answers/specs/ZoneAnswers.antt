-- What a signed zone answers is proved by the records of its chain.
use Rattle.std.specs.Prelude.{◌≡◌, ℕ, List, None, true}
use Rattle.std.specs.List.{Contains}
use Rattle.std.specs.Map.{keys_of}
use Rattle.wire_names.specs.rr.domain.DomainName.{DomainName}
use Rattle.wire_names.specs.rr.domain.NameOrder.{Encloses, SameName}
use Rattle.wire_messages.specs.Numbers.{type_any, type_ds}
use Rattle.zone_denials.specs.Nsec.{Nsec, Proves, ancestor, by_wildcard, no_name, no_type, unsigned, wildcard}
use Rattle.zone_denials.specs.NsecChain.{IsLastBefore}
use Rattle.zone_denials.specs.SignedZone.{IsChained, ZoneKeys}
use Rattle.zone_answers.specs.Zones.{Answers, AreOwners, Delegates, Exists, HasClosestEncloser, Outcome, Records, Zone, rrset}
use Rattle.zone_answers.specs.Zones as zones

abbrev pub keys_in : Zone → ZoneKeys
keys_in zone = record { origin = zone.origin; keys = keys_of zone.sets }

-- A question for a name in a zone.
pub record IsAsked (zone : Zone) (name : DomainName) : Type 0 where
  pub apex : zone.origin.is_fqdn ≡ true
  pub owners : AreOwners zone.origin zone.sets
  pub qualified : name.is_fqdn ≡ true
  pub within : Encloses zone.origin.labels name.labels

-- NXDOMAIN: the last records before the name and before the wildcard prove it.
abbrev pub NameErrorsAreProved : Type 0
NameErrorsAreProved = (zone : Zone) (chain shown : List Nsec) (name : DomainName) (t k : ℕ) (n m : Nsec) → IsAsked zone name → Answers zone name t zones.no_name → HasClosestEncloser zone.sets name k → IsChained (keys_in zone) chain
    → IsLastBefore chain name n → IsLastBefore chain (wildcard (ancestor name k)) m → Contains shown n → Contains shown m → Proves zone.origin shown name no_name

-- A wildcard's records: the last record before the name proves that the answer is synthesized from it.
abbrev pub WildAnswersAreProved : Type 0
WildAnswersAreProved = (zone : Zone) (chain shown : List Nsec) (name : DomainName) (t : ℕ) (rs : Records) (n : Nsec) → IsAsked zone name → Answers zone name t (zones.wild_answer rs) → IsChained (keys_in zone) chain
    → IsLastBefore chain name n → Contains shown n → (k : ℕ) × HasClosestEncloser zone.sets name k × Proves zone.origin shown name (by_wildcard k)

-- An alias of a wildcard: as its records.
abbrev pub WildAliasesAreProved : Type 0
WildAliasesAreProved = (zone : Zone) (chain shown : List Nsec) (name : DomainName) (t : ℕ) (rs : Records) (n : Nsec) → IsAsked zone name → Answers zone name t (zones.wild_alias rs) → IsChained (keys_in zone) chain
    → IsLastBefore chain name n → Contains shown n → (k : ℕ) × HasClosestEncloser zone.sets name k × Proves zone.origin shown name (by_wildcard k)

-- NODATA at a name that has a record of the chain: this record proves it. DS of the apex is for the parent to deny.
abbrev pub NoDataIsProved : Type 0
NoDataIsProved = (zone : Zone) (chain shown : List Nsec) (name : DomainName) (t : ℕ) (n : Nsec) → IsAsked zone name → ¬ (t ≡ type_any) → (t ≡ type_ds → ¬ (SameName name zone.origin)) → Answers zone name t zones.no_data → Exists zone.sets name
    → IsChained (keys_in zone) chain → Contains chain n → SameName n.owner name → Contains shown n → Proves zone.origin shown name (no_type t)

-- A referral to a zone below without DS: the record at the cut proves that it is not signed.
abbrev pub ReferralsAreProved : Type 0
ReferralsAreProved = (zone : Zone) (chain shown : List Nsec) (name : DomainName) (k : ℕ) (n : Nsec) → IsAsked zone name → Delegates zone name k → rrset zone.sets (ancestor name k) type_ds ≡ None
    → IsChained (keys_in zone) chain → Contains chain n → SameName n.owner (ancestor name k) → Contains shown n → Proves zone.origin shown (ancestor name k) unsigned
