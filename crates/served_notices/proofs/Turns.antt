-- One element more of a list.
use Rattle.std.proofs.Common.{◌≡◌, ◌<◌, ◌+◌, ◌++◌, ◌∷◌, [], ℕ, List, length, get_or, take, sym, ap, subst, ◌∙◌, arith, append_assoc}
use Rattle.std.proofs.lemmas.Grind.{common_steps}
use Rattle.std.proofs.lemmas.List.Elements.{filter_map-append}
use Rattle.wire_names.specs.rr.domain.DomainName.{DomainName}
use Rattle.wire_messages.specs.declared.rr.rdata.RData.{RData}
use Rattle.wire_messages.specs.declared.rr.record.Record.{Record}
use Rattle.hickory_catalog.specs.zones.Zones.{ZoneChains}
use Rattle.served_zones.specs.ServedZones.{ServedHandler}
use Rattle.notices.specs.declared.notice.Target.{Target}
use Rattle.served_notices.specs.Hosts.{AddsServer, AddsServers, address_in, addresses_in}
use Rattle.served_notices.specs.Hosts.AddsServers.{more}

pub one_more : {X : Type 0} (xs : List X) (i : ℕ) (x : X) → i < length xs → x ≡ get_or xs i x → take (i + 1) xs ≡ take i xs ++ x ∷ []
one_more xs i x inside is = grind (arith, common_steps)

-- the addresses of one host more
pub server_more : (zones : ZoneChains ServedHandler) (primary : DomainName) (records : List (Record RData)) (place : ℕ) (r : Record RData) (old between new : List Target)
    → place < length records → r ≡ get_or records place r → AddsServers zones primary (take place records) old between → AddsServer zones primary r.rdata between new
    → AddsServers zones primary (take (place + 1) records) old new
server_more zones primary records place r old between new inside is so_far one =
    subst (λ (those : List (Record RData)). AddsServers zones primary those old new) (sym (one_more records place r inside is)) (more r so_far one)

-- the addresses of one record more
pub addresses_more : (old : List Target) (records : List (Record RData)) (place : ℕ) (r : Record RData) → place < length records → r ≡ get_or records place r
    → (old ++ addresses_in (take place records)) ++ addresses_in (r ∷ []) ≡ old ++ addresses_in (take (place + 1) records)
addresses_more old records place r inside is =
    append_assoc old (addresses_in (take place records)) (addresses_in (r ∷ []))
    ∙ ap (λ (t : List Target). old ++ t) (sym (filter_map-append (λ (it : Record RData). address_in it.rdata) (take place records) (r ∷ []))
    ∙ ap (λ (them : List (Record RData)). addresses_in them) (sym (one_more records place r inside is)))
