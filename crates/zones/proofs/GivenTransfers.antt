-- From what a request asks for to the transfer that is given.
use Rattle.std.proofs.Common.{◌≡◌, ◌∙◌, sym, subst, Bool, true, false, List, [], ◌∷◌, Some, None, Result, Ok, Err, refl}
use Rattle.std.specs.Bool.{MatchBool}
use Rattle.wire_messages.specs.Numbers.{code_not_auth}
use Rattle.wire_messages.specs.declared.op.query.Query.{Query}
use Rattle.hickory_base.specs.requests.Requests.{ReceivedRequest}
use Rattle.hickory_base.specs.zone_store.ZoneAnswers.{MemoryZone}
use Rattle.hickory_base.specs.declared.errors.LookupError.{LookupError}
use Rattle.hickory_base.specs.declared.errors.LookupError.TheVariants.{ResponseCode}
use Rattle.hickory_store.specs.updates.Permission.{Permission}
use Rattle.hickory_store.specs.updates.TransferAnswers.{SoaTransferredAs, TransferredAs}
use Rattle.zone_replies.specs.Handled.{is_by_soa, names_zone}
use Rattle.zone_replies.specs.Replies.{as_zone}
use Rattle.zone_differences.specs.declared.difference.Difference.{Difference}
use Rattle.zones.specs.ZoneTransfers.{GivenFor, GivenSince, IsIncremental, TransferAnswer, TransferredFor, since_version}

module _ (zone : MemoryZone) (history : List Difference) (permission : Permission) (request : ReceivedRequest) (answer : TransferAnswer) where
  module _ (asked : Result Query LookupError) (query : Query) (is : asked ≡ Ok query) where
    by_name : (b : Bool) → names_zone (as_zone zone) query ≡ b → MatchBool b (GivenFor zone history permission request query answer) (answer ≡ Some (Err (ResponseCode code_not_auth), None))
        → TransferredFor zone history permission request asked answer
    by_name b e h =
        subst (λ (q : Result Query LookupError). TransferredFor zone history permission request q answer) (sym is)
        (subst (λ (x : Bool). MatchBool x (GivenFor zone history permission request query answer) (answer ≡ Some (Err (ResponseCode code_not_auth), None))) (sym e) h)

    -- the zone is not named
    pub not_named : names_zone (as_zone zone) query ≡ false → answer ≡ Some (Err (ResponseCode code_not_auth), None) → TransferredFor zone history permission request asked answer
    not_named e h = by_name false e h

    by_version : (b : Bool) → is_by_soa zone request query ≡ b → names_zone (as_zone zone) query ≡ true
        → MatchBool b (SoaTransferredAs zone permission answer) (GivenSince (since_version history request query) zone permission answer)
        → TransferredFor zone history permission request asked answer
    by_version b e named h =
        by_name true named
        (subst (λ (x : Bool). MatchBool x (SoaTransferredAs zone permission answer) (GivenSince (since_version history request query) zone permission answer)) (sym e) h)

    -- its SOA alone is enough
    pub by_soa : names_zone (as_zone zone) query ≡ true → is_by_soa zone request query ≡ true → SoaTransferredAs zone permission answer → TransferredFor zone history permission request asked answer
    by_soa named e h = by_version true e named h

    -- no version of the client is known
    pub whole : (ds : List Difference) → names_zone (as_zone zone) query ≡ true → is_by_soa zone request query ≡ false → ds ≡ since_version history request query → ds ≡ []
        → TransferredAs zone permission answer → TransferredFor zone history permission request asked answer
    whole ds named e are none h = by_version false e named (subst (λ (l : List Difference). GivenSince l zone permission answer) (sym none ∙ are) h)

    -- one is
    pub by_differences : (ds : List Difference) → names_zone (as_zone zone) query ≡ true → is_by_soa zone request query ≡ false → ds ≡ since_version history request query → ¬ (ds ≡ [])
        → IsIncremental zone ds permission answer → TransferredFor zone history permission request asked answer
    by_differences ds named e are some h = by_version false e named (subst (λ (l : List Difference). GivenSince l zone permission answer) are (given ds some h))
      where
        given : (ds : List Difference) → ¬ (ds ≡ []) → IsIncremental zone ds permission answer → GivenSince ds zone permission answer
        given [] some h = absurd (some refl)
        given (d ∷ ds) some h = h
