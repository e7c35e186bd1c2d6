-- The NSEC RRsets that a reply to a resolver that asks for signatures shows (RFC 4035 sections 3.1.3 and 3.1.4): at most one
-- for the name and one for the wildcard that could have stood for it.
use Rattle.std.specs.Prelude.{◌≡◌, ◌++◌, ℕ, List, Option, Some, None}
use Rattle.std.specs.Option.{option_map, option_to_list}
use Rattle.wire_names.specs.rr.domain.DomainName.{DomainName}
use Rattle.wire_names.specs.rr.domain.NameOrder.{SameName}
use Rattle.wire_messages.specs.Numbers.{type_any, type_ds}
use Rattle.zone_denials.specs.Nsec.{Claim, Nsec, Proves, by_wildcard, no_type, unsigned}
use Rattle.zone_denials.specs.Nsec as claims
use Rattle.zone_denials.specs.SignedZone.{IsChained}
use Rattle.zone_answers.specs.Zones.{Answers, Delegates, Exists, HasClosestEncloser, IsCut, Outcome, Records, Sets, Zone, alias, ancestor, answer, no_data, no_name, redirection, referral, rrset, wild_alias, wild_answer, wildcard}
use Rattle.signed_answers.specs.NsecSets.{NsecFor, Rrset, chain_in, said}
use Rattle.signed_answers.specs.ZoneAnswers.{IsAsked, keys_in}

-- What is shown for a name that does not exist and for the wildcard of its closest encloser. In a zone without records no
-- name has a closest encloser.
pub data ShowsMissing (sets : Sets) (name : DomainName) (e w : Option Rrset) : Type 0 where
  below : {k : ℕ} → HasClosestEncloser sets name k → NsecFor sets name e → NsecFor sets (wildcard (ancestor name k)) w → ShowsMissing sets name e w
  nowhere : ((k : ℕ) → ¬ (Exists sets (ancestor name k))) → ShowsMissing sets name e w

-- What is shown where the zone answers so. RFC 4035 section 3.1.3.2 has name errors; section 3.1.3.1 names without the
-- type, also empty non-terminals, which the RRset before them covers; section 3.1.3.4 wildcards without it; section
-- 3.1.3.3 answers by a wildcard; section 3.1.4 referrals, for which DS records are shown if there are any, and else the
-- NSEC RRset of the cut.
pub data Shows (zone : Zone) (name : DomainName) : Outcome → Option Rrset → Option Rrset → Type 0 where
  name_error : {e w : Option Rrset} → ShowsMissing zone.sets name e w → Shows zone name no_name e w
  lacking : {e : Option Rrset} → Exists zone.sets name → NsecFor zone.sets name e → Shows zone name no_data e None
  wild_lacking : {e w : Option Rrset} → ¬ (Exists zone.sets name) → ShowsMissing zone.sets name e w → Shows zone name no_data e w
  expansion : {rs : Records} {e : Option Rrset} → NsecFor zone.sets name e → Shows zone name (wild_answer rs) e None
  alias_expansion : {rs : Records} {e : Option Rrset} → NsecFor zone.sets name e → Shows zone name (wild_alias rs) e None
  unsigned_cut : {k : ℕ} {servers : Records} {e : Option Rrset} → Delegates zone name k → rrset zone.sets (ancestor name k) type_ds ≡ None → NsecFor zone.sets (ancestor name k) e → Shows zone name (referral servers) e None
  signed_cut : {k : ℕ} {servers ds : Records} → Delegates zone name k → rrset zone.sets (ancestor name k) type_ds ≡ Some ds → Shows zone name (referral servers) None None
  found : {rs : Records} → Shows zone name (answer rs) None None
  found_alias : {rs : Records} → Shows zone name (alias rs) None None
  redirected : {k : ℕ} {rs : Records} → Shows zone name (redirection k rs) None None

-- What an answer claims, and of which name. Of DS records at the apex the zone above tells (section 3.1.4.1), and of NS
-- records at a wildcard nothing is defined (RFC 4592 section 4.2).
pub data Claims (zone : Zone) (name : DomainName) (t : ℕ) : Outcome → DomainName → Claim → Type 0 where
  denies_name : {k : ℕ} → HasClosestEncloser zone.sets name k → Claims zone name t no_name name claims.no_name
  denies_type : ¬ (t ≡ type_any) → (t ≡ type_ds → ¬ (SameName name zone.origin)) → ((k : ℕ) → HasClosestEncloser zone.sets name k → ¬ (IsCut zone (wildcard (ancestor name k)))) → Claims zone name t no_data name (no_type t)
  tells_wildcard : {k : ℕ} {rs : Records} → HasClosestEncloser zone.sets name k → Claims zone name t (wild_answer rs) name (by_wildcard k)
  tells_wild_alias : {k : ℕ} {rs : Records} → HasClosestEncloser zone.sets name k → Claims zone name t (wild_alias rs) name (by_wildcard k)
  tells_unsigned : {k : ℕ} {servers : Records} → Delegates zone name k → rrset zone.sets (ancestor name k) type_ds ≡ None → Claims zone name t (referral servers) (ancestor name k) unsigned

-- what these RRsets say
abbrev pub all_said : Option Rrset → Option Rrset → List Nsec
all_said e w = option_to_list (option_map said e) ++ option_to_list (option_map said w)

-- What a signed zone shows proves what it claims: NSEC RRsets of a zone whose chain is complete.
abbrev pub ShownSetsProve : Type 0
ShownSetsProve = (zone : Zone) (name about : DomainName) (t : ℕ) (outcome : Outcome) (claim : Claim) (e w : Option Rrset) → IsAsked zone name → IsChained (keys_in zone) (chain_in zone.sets)
    → Answers zone name t outcome → Shows zone name outcome e w → Claims zone name t outcome about claim → Proves zone.origin (all_said e w) about claim
