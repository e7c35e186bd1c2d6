-- Which names a list blocks.
use Rattle.std.specs.Prelude.{◌≡◌, ◌<◌, ◌≤◌, ◌⊎◌, ℕ, Bool, true, List, length}
use Rattle.wire_names.specs.rr.domain.DomainName.{DomainName}
use Rattle.wire_names.specs.rr.domain.NameOrder.{Encloses}
use Rattle.hickory_store.specs.blocklist.Entries.{HasEntry, wildcard_over}

-- Some entry `*.s` has an `s` of at least so many labels that the name ends in, and the name has more labels than that:
-- the name is below `s`, and is not `s`.
pub record IsUnderWildcard (entries : List DomainName) (depth : ℕ) (name : DomainName) : Type 0 where
  pub base : List (List ℕ)
  pub listed : HasEntry entries (wildcard_over base)
  pub deep : depth ≤ length base
  pub ends : Encloses base name.labels
  pub below : length base < length name.labels

-- The name is blocked: it is fully qualified, and it is an entry or, where wildcards count, stands under one.
pub record IsBlocked (entries : List DomainName) (wildcards : Bool) (depth : ℕ) (name : DomainName) : Type 0 where
  pub full : name.is_fqdn ≡ true
  pub listed : HasEntry entries name ⊎ ((wildcards ≡ true) × IsUnderWildcard entries depth name)
