use Rattle.std.proofs.Common.{◌≡◌, ◌↔◌, ◌∙◌, IfOk, IsTrue, ℕ, List, Option, Some, sym, ap, subst}
use Rattle.std.specs.Prelude.{MatchOption}
use Rattle.std.specs.Option.{option_map}
use Rattle.zone_check.specs.SignedZones.{HasIdleType, nsec_of}
use Rattle.zone_denials.specs.Nsec.{Nsec}
use Rattle.zone_denials.specs.NsecData.{nsec_by}
use Rattle.zone_check.proofs.signed.lists_idle_type.Goals as goal

pub returns-in-Some : goal.returns-in-Some
returns-in-Some c =
    let r = c.args.record.now in
    let zone = c.args.zone.now in
    let says : nsec_of r ≡ Some (nsec_by r.name c.in-Some.data) = sym c.in_ok-data.ensures ∙ ap (option_map (nsec_by r.name)) c.in-Some.is in
    subst (λ (said : Option Nsec). IfOk c.has_idle_type.result (λ is. IsTrue is ↔ MatchOption said ⊥ (λ n. HasIdleType zone r.name n.types))) (sym says)
    (subst (λ (ts : List ℕ). IfOk c.has_idle_type.result (λ is. IsTrue is ↔ HasIdleType zone r.name ts)) c.as_slice.ensures.value c.has_idle_type.ensures)
