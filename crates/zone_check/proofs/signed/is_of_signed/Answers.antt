use Rattle.std.proofs.Common.{subst}
use Rattle.wire_names.specs.rr.domain.DomainName.{DomainName}
use Rattle.zone_check.proofs.SignedAnswers.{with_fact}
use Rattle.zone_check.specs.CheckedZones.{Owns, type_rrsig}
use Rattle.zone_check.specs.Findings.{IsFoundIfSigned}
use Rattle.zone_check.specs.SignedZones.{IsSigned}
use Rattle.zone_check.proofs.signed.is_of_signed.Goals as goal

pub returns : goal.returns
returns c =
    let zone = c.args.zone.now in
    let signed : IsSigned zone = subst (λ (d : DomainName). Owns zone d type_rrsig) c.origin.ensures (c.in_ok-owns.ensures.0 c.if-not-branch.false) in
    with_fact c.is_if_signed.result (IsSigned zone) (IsFoundIfSigned c.args.kind zone c.args.record.now) signed c.is_if_signed.ensures
