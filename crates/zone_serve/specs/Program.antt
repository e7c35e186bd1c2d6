-- What the program makes of its arguments, the files that they name and its input.
use Rattle.std.specs.Prelude.{◌≡◌, ◌++◌, [], ℕ, IsTrue, List, MatchOption, not, option_map}
use Rattle.std.specs.List.{AllZip, flat_map}
use Rattle.std.specs.declared.net.ip_addr.IpAddr.{IpAddr}
use Rattle.sqlite_disk.specs.declared.Disk.{Ghosts as DiskGhosts}
use Rattle.server_limits.specs.Access.{SameNetworks}
use Rattle.wire_names.specs.rr.domain.DomainName.{DomainName}
use Rattle.hickory_base.specs.declared.zone_store.handler.ZoneHandler.{Ghosts}
use Rattle.hickory_catalog.specs.replies.Signing.{Signer}
use Rattle.served_keys.specs.ServedKeys.{IsKeyNamed, all_networks, parts_of}
use Rattle.served_zones.specs.Holding.{AllBegin, AllSettle}
use Rattle.served_zones.specs.ServedZones.{Chain, ServedHandler}
use Rattle.signed_server.specs.KeyedServers.{keyed_of, over}
use Rattle.signed_server.specs.declared.placeholders.LeftToServer.{LeftToServer}
use Rattle.signed_server.specs.declared.service.SignedServer.{SignedServer}
use Rattle.serve_options.specs.Arguments.{transfer_keys_of}
use Rattle.serve_options.specs.declared.arguments.Settings.{Settings}
use Rattle.zone_serve.specs.Catalogs.{AreKeysOf, AreZonesOf, denied_beside}
use Rattle.zone_serve.specs.Inputs.{Flow, InputServed}
use Rattle.zone_serve.specs.Journals.{AreJournalled}

-- The server has the keys, zones, rules and identifier that the arguments ask for. Nobody has transfers, unless an argument
-- allows it (RFC 5936 section 5).
pub record IsServerOf (opens : List ℕ → List ℕ → Type 0) (settings : Settings) (made : SignedServer LeftToServer ServedHandler) : Type 0 where
  pub denied : SameNetworks (denied_beside settings.allowed.items settings.denied.items) made.server.rules.access.deny
  pub allowed : SameNetworks (flat_map parts_of settings.allowed.items) made.server.rules.access.allow
  pub transfers_denied : SameNetworks (settings.transfers_denied.items ++ all_networks) made.server.rules.transfers.deny
  pub transfers_allowed : SameNetworks (flat_map parts_of settings.transfers_allowed.items) made.server.rules.transfers.allow
  pub own_rules : made.server.rules.zones.items ≡ []
  pub limit : MatchOption settings.max_udp (made.server.rules.max_udp ≡ 1232) (λ limit. made.server.rules.max_udp ≡ limit)
  pub zones : AreZonesOf opens settings made.keys [] made.server.catalog.zones
  pub identifier : made.server.catalog.nsid ≡ option_map (λ it. it.0.now) settings.identifier
  pub keys : AreKeysOf opens (option_map (λ it. it.now) settings.keys) made.keys
  pub transfer_keys : AllZip (IsKeyNamed made.keys) (transfer_keys_of settings) made.transfer_keys.items

module _ {D : Type 0} (disks : DiskGhosts D) (handler : Ghosts ServedHandler) (signature_for : LeftToServer → Signer) where
  -- An input is served by the server of the arguments, whose journals are opened before. Unless `--no-groups` is given, zones
  -- with journals may hold the updates of lines that are at hand together.
  pub record IsServedBy (opens : List ℕ → List ℕ → Type 0) (settings : Settings) (address : IpAddr) (flow : Flow) : Type 0 where
    pub server : SignedServer LeftToServer ServedHandler
    pub is_server : IsServerOf opens settings server
    pub apexes : List DomainName
    pub opened : List (DomainName × Chain)
    pub are_journalled : AreJournalled disks settings.journals.items apexes server.server.catalog.zones opened
    pub zones : List (DomainName × Chain)
    pub served : InputServed (λ before after. IsTrue (not settings.no_groups) × AllBegin apexes before after) (AllSettle apexes)
        (over (keyed_of handler signature_for server) opened) settings.mode address flow zones
