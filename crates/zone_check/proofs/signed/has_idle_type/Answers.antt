use Rattle.std.proofs.Common.{◌≡◌, sym, subst, take, arith}
use Rattle.std.proofs.lemmas.List.{take_all}
use Rattle.std.proofs.lemmas.List.Elements.{All-contains, All-more, All-same}
use Rattle.zone_check.proofs.Walks.{refused}
use Rattle.zone_check.specs.SignedZones.{IsIdleType}
use Rattle.zone_check.proofs.signed.has_idle_type.Goals as goal

pub loop-record_type-preserved : goal.loop-record_type-preserved
loop-record_type-preserved c =
    let here : ¬ (IsIdleType c.args.zone.now c.args.name.now c.record_type-item.result) = λ idle. refused c.in_ok-is_idle_type.field-0 (c.in_ok-is_idle_type.ensures.1 idle) c.if-branch.false in
    All-more (λ t. ¬ (IsIdleType c.args.zone.now c.args.name.now t)) c.args.types.now c.loop-record_type.record_type-index c.record_type-item.result (omega arith) c.loop-record_type.invariant
    (subst (λ t. ¬ (IsIdleType c.args.zone.now c.args.name.now t)) c.record_type-item.is here)

pub returns : goal.returns
returns c =
    let all : take c.loop-record_type.record_type-index c.args.types.now ≡ c.args.types.now = take_all c.loop-record_type.record_type-index c.args.types.now (omega arith) in (
      λ no. absurd cc,
      λ h. absurd (All-contains (λ t. ¬ (IsIdleType c.args.zone.now c.args.name.now t)) c.args.types.now h.t
          (All-same (λ t. ¬ (IsIdleType c.args.zone.now c.args.name.now t)) c.args.types.now (take c.loop-record_type.record_type-index c.args.types.now) (sym all) c.loop-record_type.invariant) h.listed h.idle),
    )
