use Rattle.std.proofs.Common.{refl, arith}
use Rattle.zone_answers.proofs.lemmas.zones.Written.{closest_by, delegates_by, exists_by, missing_by}
use Rattle.signed_answers.proofs.lemmas.WorkedShown.{nsec_by}
use Rattle.signed_answers.specs.ShownSets.{below, expansion, lacking, name_error, signed_cut, unsigned_cut, wild_lacking}
use Rattle.signed_answers.specs.WorkedZone.{at_apex, at_b, at_ns1, at_wild, at_xw, at_xyw, azw, mc_a, mc_b, ml, of_b, of_ns1, of_wild, yw, zone}
use Rattle.zone_answers.specs.Zones.{ancestor, wildcard}
use Rattle.signed_answers.proofs.worked.worked_denials.Goals as goal

pub returns-clause-name_error : goal.returns-clause-name_error
returns-clause-name_error c = name_error (below (closest_by zone.sets ml 1 refl refl refl refl) (nsec_by zone.sets ml at_b (11, omega arith, refl) refl refl refl) (nsec_by zone.sets (wildcard (ancestor ml 1)) at_apex (3, omega arith, refl) refl refl refl))

pub returns-clause-no_data : goal.returns-clause-no_data
returns-clause-no_data c = lacking (exists_by zone.sets of_ns1 refl) (nsec_by zone.sets of_ns1 at_ns1 (14, omega arith, refl) refl refl refl)

pub returns-clause-signed_zone : goal.returns-clause-signed_zone
returns-clause-signed_zone c = signed_cut (delegates_by zone mc_a 1 refl refl refl) refl

pub returns-clause-unsigned_zone : goal.returns-clause-unsigned_zone
returns-clause-unsigned_zone c = unsigned_cut (delegates_by zone mc_b 1 refl refl refl) refl (nsec_by zone.sets of_b at_b (11, omega arith, refl) refl refl refl)

pub returns-clause-expansion : goal.returns-clause-expansion
returns-clause-expansion c = expansion (nsec_by zone.sets azw at_xyw (22, omega arith, refl) refl refl refl)

pub returns-clause-wild_no_data : goal.returns-clause-wild_no_data
returns-clause-wild_no_data c = wild_lacking (missing_by zone.sets azw refl refl refl) (below (closest_by zone.sets azw 2 refl refl refl refl) (nsec_by zone.sets azw at_xyw (22, omega arith, refl) refl refl refl) (nsec_by zone.sets of_wild at_wild (18, omega arith, refl) refl refl refl))

pub returns-clause-empty : goal.returns-clause-empty
returns-clause-empty c = lacking (exists_by zone.sets yw refl) (nsec_by zone.sets yw at_xw (20, omega arith, refl) refl refl refl)
