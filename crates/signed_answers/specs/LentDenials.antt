-- What is shown where it is lent from a zone.
use Rattle.std.specs.Prelude.{Result, IfOk}
use Rattle.std.specs.Option.{option_map}
use Rattle.std.specs.declared.alloc.AllocError.{AllocError}
use Rattle.wire_names.specs.rr.domain.DomainName.{DomainName}
use Rattle.zone_answers.specs.Zones.{Outcome, Zone}
use Rattle.zone_answers.specs.declared.find.Found.{Found}
use Rattle.zone_answers.specs.representation.FoundRecords.{outcome_of}
use Rattle.signed_answers.specs.LentSets.{lent_set}
use Rattle.signed_answers.specs.ShownSets.{Shows}
use Rattle.signed_answers.specs.declared.denials.Shown.{Shown}

-- A reply with this answer shows these RRsets.
abbrev pub AreShown : Zone → DomainName → Outcome → Result Shown AllocError → Type 0
AreShown zone name outcome result = IfOk result (λ shown. Shows zone name outcome (option_map lent_set shown.name) (option_map lent_set shown.wildcard))

-- The same of what was found for the name.
abbrev pub AreShownOf : Zone → DomainName → Found → Result Shown AllocError → Type 0
AreShownOf zone name found result = AreShown zone name (outcome_of zone.sets name found) result
