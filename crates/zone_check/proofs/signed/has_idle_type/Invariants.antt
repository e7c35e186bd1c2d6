use Rattle.std.proofs.Common.{take}
use Rattle.std.specs.List.{All}
use Rattle.zone_check.specs.SignedZones.{IsIdleType}
use Rattle.zone_check.proofs.signed.has_idle_type.Given as goal

abbrev pub invariant-loop-record_type : goal.invariant-loop-record_type
invariant-loop-record_type l = All (λ t. ¬ (IsIdleType l.zone l.name t)) (take l.record_type-index l.types)
