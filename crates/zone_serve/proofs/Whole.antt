-- What is served of an input is so by the server of the arguments, over the zones as journals left them.
use Rattle.std.proofs.Common.{◌≡◌, ℕ, Bool, IsTrue, List, not}
use Rattle.std.specs.declared.net.ip_addr.IpAddr.{IpAddr}
use Rattle.sqlite_disk.specs.declared.Disk.{Ghosts as DiskGhosts}
use Rattle.wire_names.specs.rr.domain.DomainName.{DomainName}
use Rattle.hickory_base.specs.declared.zone_store.handler.ZoneHandler.{Ghosts}
use Rattle.hickory_catalog.specs.replies.Signing.{Signer}
use Rattle.served_zones.specs.Holding.{AllBegin, AllSettle}
use Rattle.served_zones.specs.ServedZones.{Chain, ServedHandler}
use Rattle.server.proofs.Streams.{same_keyed}
use Rattle.server.specs.Serving.{Stays}
use Rattle.signed_server.specs.KeyedServers.{keyed_of}
use Rattle.signed_server.specs.declared.placeholders.LeftToServer.{LeftToServer}
use Rattle.signed_server.specs.declared.service.SignedServer.{SignedServer}
use Rattle.serve_options.specs.declared.arguments.Settings.{Settings}
use Rattle.zone_serve.specs.Inputs.{Flow, InputServed}
use Rattle.zone_serve.specs.Journals.{AreJournalled}
use Rattle.zone_serve.specs.Program.{IsServedBy, IsServerOf}

pub served_by : {D : Type 0} (disks : DiskGhosts D) (handler : Ghosts ServedHandler) (signature_for : LeftToServer → Signer) (opens : List ℕ → List ℕ → Type 0) (settings : Settings)
    (address : IpAddr) (flow : Flow) (made opened : SignedServer LeftToServer ServedHandler) → Stays made opened → (apexes held : List DomainName) (holds : Bool) (zones : List (DomainName × Chain))
    → IsServerOf opens settings made → AreJournalled disks settings.journals.items apexes made.server.catalog.zones opened.server.catalog.zones
    → held ≡ apexes → holds ≡ not settings.no_groups
    → InputServed (λ before after. IsTrue holds × AllBegin held before after) (AllSettle held) (keyed_of handler signature_for opened) settings.mode address flow zones
    → IsServedBy disks handler signature_for opens settings address flow
served_by disks handler signature_for opens settings address flow made opened stays apexes held holds zones is_server journalled same groups served = record {
  server = made;
  is_server = is_server;
  apexes = apexes;
  opened = opened.server.catalog.zones;
  are_journalled = journalled;
  zones = zones;
  served = rw (same, groups, same_keyed handler signature_for made opened stays) at served;
}
