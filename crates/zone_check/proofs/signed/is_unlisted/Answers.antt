use Rattle.std.proofs.Common.{◌↔◌, ◌∙◌, IsTrue, ℕ, List, sym, ap, subst, refl}
use Rattle.std.specs.List.{Contains}
use Rattle.std.specs.Option.{option_map}
use Rattle.zone_check.proofs.SignedAnswers.{any_is, unlisted_is}
use Rattle.zone_check.specs.SignedZones.{IsListed}
use Rattle.zone_denials.specs.declared.nsec.NsecData.{NsecData}
use Rattle.zone_check.proofs.signed.is_unlisted.Goals as goal

pub returns-in-Some : goal.returns-in-Some
returns-in-Some c =
    let r = c.args.record.now in
    let t = c.record_type-record_type.result in
    let listed : IsListed c.args.zone.now r.name t = c.in_ok-is_listed.ensures.0 c.if-not-branch.false in
    let any : IsTrue c.contains.result ↔ Contains c.as_slice.result.now t = any_is _ t (λ y. refl) c.as_slice.result.now c.contains.result c.contains.ensures.value in
    unlisted_is c.args.zone.now r c.in-Some.data.types.items c.contains.result (sym c.in_ok-data.ensures ∙ ap (option_map (λ (it : NsecData). it.types.items)) c.in-Some.is)
    (subst (IsListed c.args.zone.now r.name) c.record_type-record_type.ensures listed)
    (subst (λ (u : ℕ). IsTrue c.contains.result ↔ Contains c.in-Some.data.types.items u) c.record_type-record_type.ensures (subst (λ (ts : List ℕ). IsTrue c.contains.result ↔ Contains ts t) c.as_slice.ensures.value any))
