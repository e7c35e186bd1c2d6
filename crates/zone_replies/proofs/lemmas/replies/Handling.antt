-- From what was asked to what the zone gives for it.
use Rattle.std.proofs.Common.{◌≡◌, ◌&&◌, ◌==◌, ℕ, Bool, true, false, [], Result, Ok, sym, ap, subst}
use Rattle.std.specs.Bool.{MatchBool}
use Rattle.std.specs.Ordering.{is_eq}
use Rattle.wire_names.specs.rr.domain.DomainName.{DomainName}
use Rattle.wire_names.specs.rr.domain.NameOrder.{lower_name}
use Rattle.hickory_base.proofs.lemmas.zone_store.ZoneByName.{itself}
use Rattle.hickory_base.specs.declared.errors.LookupError.{LookupError}
use Rattle.hickory_base.specs.declared.zone_store.lookup.AuthLookup.{AuthLookup}
use Rattle.hickory_base.specs.declared.zone_store.lookup.AuthLookup.TheVariants as lookup
use Rattle.hickory_base.specs.declared.zone_store.lookup.WholeReply.{WholeReply}
use Rattle.hickory_base.specs.zone_store.ZoneAnswers.{MemoryZone}
use Rattle.zone_answers.proofs.lemmas.names.EnclosedBetween.{equal_of}
use Rattle.zone_answers.proofs.lemmas.replies.Follows.{enclosed_lower, lower_enclosed}
use Rattle.zone_answers.specs.Chains.{IsIn}
use Rattle.zone_replies.specs.Handled.{IsLookedUp, is_soa, question, records_of}
use Rattle.zone_replies.specs.Replies.{RepliesTo, denial_soa, as_zone}
use Rattle.zone_answers.specs.Zones.{Zone}

pub in_lower : (zone : Zone) (name : DomainName) → IsIn zone name → IsIn zone (lower_name name)
in_lower zone name x = record { qualified = x.qualified; within = enclosed_lower zone.origin.labels name.labels x.within }

pub from_lower : (zone : Zone) (name : DomainName) → IsIn zone (lower_name name) → IsIn zone name
from_lower zone name x = record { qualified = x.qualified; within = lower_enclosed zone.origin.labels name.labels x.within }

module _ (zone : MemoryZone) (origin name low : DomainName) (o : origin ≡ zone.origin) (n : name ≡ low) where
  pub into_zone : IsIn (record { origin = origin; sets = zone.sets }) name → IsIn (as_zone zone) low
  into_zone x = subst (IsIn (as_zone zone)) n (subst (λ (d : DomainName). IsIn (record { origin = d; sets = zone.sets }) name) o x)

  pub out_of_zone : IsIn (as_zone zone) low → IsIn (record { origin = origin; sets = zone.sets }) name
  out_of_zone x = subst (λ (d : DomainName). IsIn (record { origin = d; sets = zone.sets }) name) (sym o) (subst (IsIn (as_zone zone)) (sym n) x)

module _ (zone : Zone) (name : DomainName) (t : ℕ) (result : Result AuthLookup LookupError) where
  by_test : (b : Bool) → is_soa zone name t ≡ b → MatchBool b (result ≡ Ok (lookup.Records (denial_soa zone) [])) ((reply : WholeReply) × RepliesTo zone (question name t) reply × (result ≡ records_of reply)) → IsLookedUp zone name t result
  by_test b is h =
      subst (λ (x : Bool). MatchBool x (result ≡ Ok (lookup.Records (denial_soa zone) [])) ((reply : WholeReply) × RepliesTo zone (question name t) reply × (result ≡ records_of reply))) (sym is) h

  pub soa_found : is_soa zone name t ≡ true → result ≡ Ok (lookup.Records (denial_soa zone) []) → IsLookedUp zone name t result
  soa_found is e = by_test true is e

  pub other_found : is_soa zone name t ≡ false → (reply : WholeReply) → RepliesTo zone (question name t) reply → result ≡ records_of reply → IsLookedUp zone name t result
  other_found is reply r e = by_test false is (reply, r, e)

pub apex_soa : (zone : Zone) → is_soa zone zone.origin 6 ≡ true
apex_soa zone = ap (λ order. is_eq order && (6 == 6)) (equal_of zone.origin zone.origin (itself zone.origin))
