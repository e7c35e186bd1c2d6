-- RRsets and keys that are lent from a zone.
use Rattle.std.specs.Prelude.{◌≡◌, List, Option}
use Rattle.std.specs.BTreeMap.Range.{IsRangeOf, entries_between}
use Rattle.std.specs.declared.ops.Bound.TheVariants.{Excluded, Unbounded}
use Rattle.wire_messages.specs.rr.RrKeys.{key_cmp}
use Rattle.wire_messages.specs.declared.rr.rr_key.RrKey.{RrKey}
use Rattle.zone_answers.specs.representation.KeysBeside.{Entry, IsLast, SharedMap}
use Rattle.signed_answers.specs.NsecSets.{Rrset}
use Rattle.signed_answers.specs.declared.nsec_sets.NsecSet.{NsecSet}

-- the RRset that is lent
abbrev pub lent_set : NsecSet → Rrset
lent_set it = (it.key.now, it.records.now)

-- It is the last of the keys that are below this one, `None` if none is.
pub record IsLastBelow (sets : SharedMap) (first : RrKey) (key : Option RrKey) : Type 0 where
  pub range : List Entry
  pub whole : range ≡ entries_between key_cmp Unbounded (Excluded first) sets.entries
  pub of : IsRangeOf key_cmp Unbounded (Excluded first) sets range
  pub last : IsLast range key
