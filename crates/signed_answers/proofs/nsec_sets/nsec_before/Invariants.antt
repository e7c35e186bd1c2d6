-- The range is what is left and keys of other types.
use Rattle.std.proofs.Common.{◌≡◌, ◌++◌, List, length}
use Rattle.std.specs.List.{AllByRecursion}
use Rattle.std.specs.BTreeMap.Range.{entries_between}
use Rattle.std.specs.declared.ops.Bound.TheVariants.{Included, Unbounded}
use Rattle.wire_messages.specs.rr.RrKeys.{key_cmp}
use Rattle.zone_answers.specs.representation.KeysBeside.{Entry}
use Rattle.signed_answers.proofs.lemmas.NsecRanges.{IsOther}
use Rattle.signed_answers.proofs.nsec_sets.nsec_before.Given as goal

abbrev pub invariant-loop-key : goal.invariant-loop-key
invariant-loop-key l = (passed : List Entry) × (entries_between key_cmp Unbounded (Included l.at) l.sets.entries ≡ l.left ++ passed) × AllByRecursion IsOther passed

abbrev pub decreases-loop-key : goal.decreases-loop-key
decreases-loop-key l = length l.left
