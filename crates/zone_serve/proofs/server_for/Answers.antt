use Rattle.zone_serve.proofs.server_for.Goals as goal

pub returns : goal.returns
returns g c = record {
  denied = rw (c.in_ok-signed.ensures.server, c.in_ok-server.ensures.rules) c.in_ok-rules.ensures.denied;
  allowed = rw (c.in_ok-signed.ensures.server, c.in_ok-server.ensures.rules) c.in_ok-rules.ensures.allowed;
  transfers_denied = rw (c.in_ok-signed.ensures.server, c.in_ok-server.ensures.rules) c.in_ok-rules.ensures.transfers_denied;
  transfers_allowed = rw (c.in_ok-signed.ensures.server, c.in_ok-server.ensures.rules) c.in_ok-rules.ensures.transfers_allowed;
  own_rules = rw (c.in_ok-signed.ensures.server, c.in_ok-server.ensures.rules) c.in_ok-rules.ensures.own_rules;
  limit = rw (c.in_ok-signed.ensures.server, c.in_ok-server.ensures.rules) c.in_ok-rules.ensures.limit;
  zones = rw (c.in_ok-signed.ensures.server, c.in_ok-signed.ensures.keys, c.in_ok-server.ensures.catalog) c.in_ok-catalog.ensures.zones;
  identifier = rw (c.in_ok-signed.ensures.server, c.in_ok-server.ensures.catalog) c.in_ok-catalog.ensures.identifier;
  keys = rw c.in_ok-signed.ensures.keys c.in_ok-keys.ensures;
  transfer_keys = rw c.in_ok-signed.ensures.keys (rw c.deref.ensures.value at c.in_ok-names.ensures);
}
