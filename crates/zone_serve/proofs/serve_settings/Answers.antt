use Rattle.std.proofs.Common.{refl}
use Rattle.served_zones.specs.ServedZones.{ServedHandler}
use Rattle.server.specs.Serving.{Stays}
use Rattle.signed_server.specs.declared.placeholders.LeftToServer.{LeftToServer}
use Rattle.signed_server.specs.declared.service.SignedServer.{SignedServer}
use Rattle.zone_serve.specs.Journals.{apexes_of}
use Rattle.zone_serve.proofs.Results.{on_ok}
use Rattle.zone_serve.proofs.Whole.{served_by}
use Rattle.zone_serve.proofs.serve_settings.Goals as goal

pub returns : goal.returns
returns g c =
    let made : SignedServer LeftToServer ServedHandler = c.in_ok-server.server in
    let opened : SignedServer LeftToServer ServedHandler = record made { server = record made.server { catalog = c.open_journals.new.zones } } in
    let stays : Stays made opened = record { keys = refl; transfer_keys = refl; rules = refl; others = c.in_ok-journals.ensures.others } in
    let holder = c.in_ok-holder.holder in
    on_ok c.serve_input.result _ _
    (λ served.
    served_by _ _ _ _ _ _ _ made opened stays (apexes_of c.in_ok-journals.journals.items) holder.apexes.items holder.in_groups c.serve_input.new.server.server.catalog.zones
    c.in_ok-server.ensures (rw c.deref.ensures.value at c.in_ok-journals.ensures.opened) (rw c.deref-2.ensures.value at c.in_ok-holder.ensures.apexes) c.in_ok-holder.ensures.groups served)
    c.serve_input.ensures.served
