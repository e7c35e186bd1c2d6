-- A server beside its keys.
use Rattle.std.specs.Prelude.{List}
use Rattle.wire_names.specs.rr.domain.DomainName.{DomainName}
use Rattle.hickory_base.specs.declared.zone_store.handler.ZoneHandler.{Ghosts}
use Rattle.hickory_catalog.specs.requests.Server.{Server, server_of}
use Rattle.hickory_catalog.specs.replies.Signing.{Signer}
use Rattle.hickory_server.specs.declared.server.rules.Rules.{Rules}
use Rattle.tsig.specs.declared.keys.Key.{Key}
use Rattle.signed_server.specs.declared.service.SignedServer.{SignedServer}

-- A server with its keys, of which those of these names may have the zones from anywhere that have no rules of their own,
-- and with its rules.
pub record KeyedServer (H : Type 0) : Type 1 where
  pub keys : List Key
  pub transfer_keys : List DomainName
  pub rules : Rules
  pub server : Server H

abbrev pub keyed_of : {S H : Type 0} → Ghosts H → (S → Signer) → SignedServer S H → KeyedServer H
keyed_of handler signature_for signed = record {
  keys = signed.keys;
  transfer_keys = signed.transfer_keys.items;
  rules = signed.server.rules;
  server = server_of handler signature_for signed.server.catalog;
}

-- the same over these zones
abbrev pub over : {H : Type 0} → KeyedServer H → List (DomainName × List H) → KeyedServer H
over keyed zones = record keyed { server = record keyed.server { zones = zones } }
