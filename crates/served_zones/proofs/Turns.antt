-- Zones that change one after the other.
use Rattle.std.proofs.Common.{◌≡◌, ◌<◌, ◌+◌, ◌++◌, ◌∷◌, [], ℕ, List, length, get_or, take, sym, ap, subst, ◌∙◌, arith}
use Rattle.std.proofs.lemmas.Grind.{common_steps}
use Rattle.wire_names.specs.rr.domain.DomainName.{DomainName}
use Rattle.hickory_catalog.specs.declared.catalog.Catalog.{Catalog}
use Rattle.hickory_catalog.specs.zones.Zones.{ZoneChains}
use Rattle.served_zones.specs.ServedZones.{ServedHandler}
use Rattle.served_zones.specs.ZoneChanges.{ChangeInTurn}
use Rattle.served_zones.specs.ZoneChanges.ChangeInTurn.{more}

-- one element more
one_more : {X : Type 0} (xs : List X) (i : ℕ) (x : X) → i < length xs → x ≡ get_or xs i x → take (i + 1) xs ≡ take i xs ++ x ∷ []
one_more xs i x inside is = grind (arith, common_steps)

-- one zone more
pub turn_more : (Step : DomainName → ZoneChains ServedHandler → ZoneChains ServedHandler → Type 0) (apexes : List DomainName) (place : ℕ) (apex : DomainName)
    (old between new : ZoneChains ServedHandler) → place < length apexes → apex ≡ get_or apexes place apex
    → ChangeInTurn Step (take place apexes) old between → Step apex between new → ChangeInTurn Step (take (place + 1) apexes) old new
turn_more Step apexes place apex old between new inside is so_far one =
    subst (λ (those : List DomainName). ChangeInTurn Step those old new) (sym (one_more apexes place apex inside is)) (more apex so_far one)

-- over two steps, only the zones of a catalog change
pub only_zones : {S H : Type 0} (first middle last : Catalog S H) → middle ≡ record first { zones = middle.zones } → last ≡ record middle { zones = last.zones }
    → last ≡ record first { zones = last.zones }
only_zones {S} {H} first middle last so_far one = one ∙ ap (λ (m : Catalog S H). record m { zones = last.zones }) so_far
