use Rattle.std.proofs.Common.{◌≡◌, ◌+◌, ◌-◌, ◌<◌, ◌≤◌, ℕ, List, length, take, drop}
use Rattle.text_words.specs.Spelling.{Puts}
use Rattle.record_text.specs.Groups.{SpellsHexGroups}
use Rattle.record_text.proofs.HexGroups.{Front, Parts}
use Rattle.record_text.proofs.data.hex_groups.put_groups.Given as goal

abbrev pub invariant-groups : goal.invariant-groups
invariant-groups l = record {
  within : l.place ≤ length l.word.bytes.now;
  few : l.groups < l.count;
  put : Puts (Front l.between l.kind l.groups (take l.place l.word.bytes.now)) l.fn.data.items l.data.items;
  left : (octets : List ℕ) → SpellsHexGroups l.between l.kind l.count l.word.bytes.now octets → (n : ℕ) × (l.groups + n ≡ l.count) × Parts l.between l.kind n (drop l.place l.word.bytes.now);
}

abbrev pub decreases-groups : goal.decreases-groups
decreases-groups l = length l.word.bytes.now + 1 - l.place
