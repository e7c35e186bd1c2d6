use Rattle.std.proofs.Common.{◌≤◌, ◌-◌, length, take}
use Rattle.record_text.specs.Groups.{SpellsGroups}
use Rattle.record_text.proofs.data.hashes.base32.Given as goal

abbrev pub invariant-groups : goal.invariant-groups
invariant-groups l = record {
  within : l.place ≤ length l.text;
  spelled : SpellsGroups (take l.place l.text) l.bytes.items;
}

abbrev pub decreases-groups : goal.decreases-groups
decreases-groups l = length l.text - l.place
