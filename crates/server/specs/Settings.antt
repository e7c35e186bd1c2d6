-- How a server is set before its first message, and what it is before its first setting.
use Rattle.std.specs.Prelude.{◌≡◌, [], ℕ, List, None, Option, Vec}
use Rattle.std.specs.Global.{Global}
use Rattle.hickory_server.specs.declared.server.rules.Rules.{Rules}
use Rattle.server_reports.specs.Counting.{no_counts}
use Rattle.served_notices.specs.Notifying.{IsNew}
use Rattle.served_zones.specs.ServedZones.{Chain}
use Rattle.served_keys.specs.ServedKeys.{all_networks}
use Rattle.server_limits.specs.Access.{SameNetworks}
use Rattle.tsig.specs.declared.keys.Key.{Key}
use Rattle.wire_names.specs.rr.domain.DomainName.{DomainName}
use Rattle.server.specs.Networks.{HasNoNetwork}
use Rattle.server.specs.Serving.{waiting_in}
use Rattle.server.specs.declared.service.Service.{Service}

-- who may use the server and have transfers, and how many bytes a reply over UDP has
abbrev pub rules_of : Service → Rules
rules_of service = service.answering.server.server.rules

-- the zones
abbrev pub zones_of : Service → List (DomainName × Chain)
zones_of service = service.answering.server.server.catalog.zones

-- the server with these rules; all else of it is as it was
abbrev pub with_rules : Service → Rules → Service
with_rules service rules = record service {
  answering = record service.answering {
    server = record service.answering.server {
      server = record service.answering.server.server { rules = rules };
    };
  };
}

-- the server with these zones
abbrev pub with_zones : Service → List (DomainName × Chain) → Service
with_zones service zones = record service {
  answering = record service.answering {
    server = record service.answering.server {
      server = record service.answering.server.server { catalog = record service.answering.server.server.catalog { zones = zones } };
    };
  };
}

-- the server with this identifier (RFC 5001)
abbrev pub with_identifier : Service → Option (List ℕ) → Service
with_identifier service identifier = record service {
  answering = record service.answering {
    server = record service.answering.server {
      server = record service.answering.server.server { catalog = record service.answering.server.server.catalog { nsid = identifier } };
    };
  };
}

-- the server with these keys
abbrev pub with_keys : Service → List Key → Service
with_keys service keys = record service { answering = record service.answering { server = record service.answering.server { keys = keys } } }

-- the server with these names of keys that may have zones from anywhere that have no rules of their own
abbrev pub with_transfer_keys : Service → Vec DomainName Global → Service
with_transfer_keys service names = record service { answering = record service.answering { server = record service.answering.server { transfer_keys = names } } }

-- A server before its first setting: it has no zones, keys, rules of updates and limits, everybody may use it, nobody may
-- have transfers (RFC 5936 section 5), no zone has rules of its own of them, a reply over UDP has at most 1232 bytes,
-- and nobody is told of changes.
pub record IsUnset (service : Service) : Type 0 where
  pub no_zones : zones_of service ≡ []
  pub no_identifier : service.answering.server.server.catalog.nsid ≡ None
  pub no_keys : service.answering.server.keys ≡ []
  pub no_transfer_keys : service.answering.server.transfer_keys.items ≡ []
  pub none_denied : HasNoNetwork (rules_of service).access.deny
  pub none_allowed : HasNoNetwork (rules_of service).access.allow
  pub transfers_denied : SameNetworks all_networks (rules_of service).transfers.deny
  pub no_transfer_allowed : HasNoNetwork (rules_of service).transfers.allow
  pub no_own_rules : (rules_of service).zones.items ≡ []
  pub max_udp : (rules_of service).max_udp ≡ 1232
  pub nothing_waits : waiting_in service.answering ≡ []
  pub no_log : service.answering.log.every ≡ 0
  pub no_counts : service.counters ≡ no_counts
  pub no_limits : service.limits ≡ None
  pub no_apexes : service.apexes.items ≡ []
  pub no_grants : service.grants.items ≡ []
  pub no_list : service.list ≡ None
  pub no_journals : service.journals.items ≡ []
  pub nobody_told : IsNew service.notifying
