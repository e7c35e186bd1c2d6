use Rattle.std.proofs.Common.{sym, ℕ, List}
use Rattle.std.specs.Option.{option_and_then}
use Rattle.zone_check.proofs.HashedAnswers.{at_first, if_at}
use Rattle.zone_check.specs.CheckedZones.{type_nsec3}
use Rattle.zone_check.specs.HashedZones.{nsec3_at}
use Rattle.zone_check.specs.SignedZones.{octets_of}
use Rattle.zone_denials.specs.Nsec3Data.{nsec3_in}
use Rattle.zone_check.proofs.hashed.nsec3_at.Goals as goal

pub returns-in-Some : goal.returns-in-Some
returns-in-Some c =
    let zone = c.args.zone.now in
    let h = c.args.hash.now in
    let r = c.in-Some.first.now in
    if_at c.nsec3_of.result (λ (g : List ℕ). option_and_then (nsec3_in g) (octets_of type_nsec3 r.rdata)) h (nsec3_at zone h) (at_first zone h r (sym c.in-Some.ensures)) c.nsec3_of.ensures
