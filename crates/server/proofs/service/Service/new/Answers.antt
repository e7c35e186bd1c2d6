use Rattle.std.proofs.Common.{refl}
use Rattle.server.proofs.service.Service.new.Goals as goal

pub returns : goal.returns
returns c = record {
  no_zones = rw c.new.ensures.server c.in_ok-empty_server.ensures.zones;
  no_identifier = rw c.new.ensures.server c.in_ok-empty_server.ensures.identifier;
  no_keys = rw c.new.ensures.server c.in_ok-empty_server.ensures.keys;
  no_transfer_keys = rw c.new.ensures.server c.in_ok-empty_server.ensures.transfer_keys;
  none_denied = rw c.new.ensures.server c.in_ok-empty_server.ensures.denied;
  none_allowed = rw c.new.ensures.server c.in_ok-empty_server.ensures.allowed;
  transfers_denied = rw c.new.ensures.server c.in_ok-empty_server.ensures.transfers_denied;
  no_transfer_allowed = rw c.new.ensures.server c.in_ok-empty_server.ensures.transfers_allowed;
  no_own_rules = rw c.new.ensures.server c.in_ok-empty_server.ensures.own_rules;
  max_udp = rw c.new.ensures.server c.in_ok-empty_server.ensures.limit;
  nothing_waits = c.new.ensures.waiting;
  no_log = c.new.ensures.log;
  no_counts = c.new-2.ensures;
  no_limits = refl;
  no_apexes = c.new-3.ensures.items;
  no_grants = c.new-4.ensures.items;
  no_list = refl;
  no_journals = c.new-5.ensures.items;
  nobody_told = c.new-6.ensures;
}
