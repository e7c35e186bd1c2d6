use Rattle.std.proofs.Common.{length}
use Rattle.hickory_catalog.proofs.lemmas.zones.Nearest.{IsAbove, EncloseBoth}
use Rattle.hickory_catalog.proofs.zones.Zones.find_above.Given as goal

abbrev pub invariant-loop-beside : goal.invariant-loop-beside
invariant-loop-beside g l = record {
  above : IsAbove l.name l.ancestor;
  both : EncloseBoth l.self l.name l.ancestor l.beside;
}

abbrev pub decreases-loop-beside : goal.decreases-loop-beside
decreases-loop-beside g l = length l.ancestor.labels
