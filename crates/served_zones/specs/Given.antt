-- Zones that are given their rules of who may update what (RFC 2136 section 3.3).
use Rattle.std.specs.Prelude.{◌≡◌, ◌∷◌, List, [], true}
use Rattle.either.specs.declared.Either.TheVariants.{Left, Right}
use Rattle.wire_names.specs.rr.domain.DomainName.{DomainName}
use Rattle.wire_names.specs.rr.domain.NameOrder.{lower_name}
use Rattle.hickory_catalog.specs.zones.Zones.{ZoneChains}
use Rattle.tsig.specs.declared.keys.Key.{Key}
use Rattle.tsig.specs.declared.verifier.TsigVerifier.{TsigVerifier}
use Rattle.update_policy.specs.declared.policy.Rule.{Rule}
use Rattle.served_zones.specs.Grants.{rules_for}
use Rattle.served_zones.specs.ServedZones.{ServedHandler}
use Rattle.served_zones.specs.ZoneChanges.{ChangeInTurn, ZoneChanges}
use Rattle.served_zones.specs.declared.grants.Grant.{Grant}
use Rattle.zones.specs.ZoneStates.{ZoneState}

-- the zone with these keys and these rules; all else of it is as it was
abbrev pub updated : List Key → List Rule → ZoneState TsigVerifier → ZoneState TsigVerifier
updated keys rules zone =
    record zone { updatable = record zone.updatable { allow_update = true; verifier = record { keys = keys } }; policy = rules }

-- A handler that is a zone gets these keys and rules; a list of blocked names remains.
abbrev pub HandlerGiven : List Key → List Rule → ServedHandler → ServedHandler → Type 0
HandlerGiven keys rules (Left zone) new = new ≡ Left (updated keys rules zone)
HandlerGiven keys rules (Right list) new = new ≡ Right list

-- The zone of this apex gets these keys and rules. If there is no rule, or no such zone, nothing changes.
abbrev pub Gives : List Key → List Rule → DomainName → ZoneChains ServedHandler → ZoneChains ServedHandler → Type 0
Gives keys [] apex old new = new ≡ old
Gives keys (rule ∷ rules) apex old new = ZoneChanges (HandlerGiven keys (rule ∷ rules)) (lower_name apex) old new

-- The zones of these apexes get the rules that are of each, one after the other in this order.
abbrev pub AreGiven : List Key → List Grant → List DomainName → ZoneChains ServedHandler → ZoneChains ServedHandler → Type 0
AreGiven keys grants = ChangeInTurn (λ apex. Gives keys (rules_for grants apex) apex)
