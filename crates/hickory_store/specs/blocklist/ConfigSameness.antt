-- When the settings of two lists of blocked names are the same: in each field, what is told in its bytes.
use Rattle.std.specs.Prelude.{◌≡◌, option_map}
use Rattle.std.specs.String.{string_bytes}
use Rattle.hickory_store.specs.declared.blocklist.config.BlocklistConfig.{BlocklistConfig}

pub record SameConfig (a b : BlocklistConfig) : Type 0 where
  pub wildcard_match : a.wildcard_match ≡ b.wildcard_match
  pub min_wildcard_depth : a.min_wildcard_depth ≡ b.min_wildcard_depth
  pub sinkhole_ipv4 : a.sinkhole_ipv4 ≡ b.sinkhole_ipv4
  pub sinkhole_ipv6 : a.sinkhole_ipv6 ≡ b.sinkhole_ipv6
  pub ttl : a.ttl ≡ b.ttl
  pub block_message : option_map string_bytes a.block_message ≡ option_map string_bytes b.block_message
  pub consult_action : a.consult_action ≡ b.consult_action
  pub log_clients : a.log_clients ≡ b.log_clients
