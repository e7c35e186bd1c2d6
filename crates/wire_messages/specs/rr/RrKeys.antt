-- The keys of sets of records, by owner name and type.
use Rattle.std.specs.Prelude.{◌≡◌, ℕ, List, ◌++◌}
use Rattle.std.specs.Hash as fed
use Rattle.std.specs.declared.cmp.Ordering.{Ordering}
use Rattle.std.specs.Ordering.{nat_cmp, ordering_then}
use Rattle.wire_names.specs.representation.NameHash.{name_hash_input}
use Rattle.wire_names.specs.rr.domain.NameOrder.{SameName, name_cmp}
use Rattle.wire_messages.specs.declared.rr.rr_key.RrKey.{RrKey}

-- by name, then by type
abbrev pub key_cmp : RrKey → RrKey → Ordering
key_cmp a b = ordering_then (name_cmp a.name b.name) (nat_cmp a.record_type b.record_type)

-- Two keys are the same: their names are, in any letter case (RFC 4343 section 3), and their types.
pub record SameKey (a b : RrKey) : Type 0 where
  pub name : SameName a.name b.name
  pub record_type : a.record_type ≡ b.record_type

-- what a key feeds a hasher: what its name does, and its type
abbrev pub key_hash_input : RrKey → List (List ℕ)
key_hash_input key = name_hash_input key.name ++ fed.u16 key.record_type
