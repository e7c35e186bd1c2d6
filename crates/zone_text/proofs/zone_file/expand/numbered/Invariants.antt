use Rattle.std.proofs.Common.{◌≡◌, ◌++◌, List, ℕ, length}
use Rattle.zone_text.specs.Numbered.{IsNumbered}
use Rattle.zone_text.proofs.zone_file.expand.numbered.Given as goal

abbrev pub invariant-fronts : goal.invariant-fronts
invariant-fronts l = record {
  forth : (all : List ℕ) → IsNumbered l.word.quoted l.number l.rest all → IsNumbered l.word.quoted l.number l.word.bytes.now (l.bytes.items ++ all);
  back : (all : List ℕ) → IsNumbered l.word.quoted l.number l.word.bytes.now all → (tail : List ℕ) × (all ≡ l.bytes.items ++ tail) × IsNumbered l.word.quoted l.number l.rest tail;
}

abbrev pub decreases-fronts : goal.decreases-fronts
decreases-fronts l = length l.rest
