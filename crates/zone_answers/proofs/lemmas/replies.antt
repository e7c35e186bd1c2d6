-- Chains, and the addresses of hosts.
pub mod AllPut
pub mod Follows
pub mod Hosts
