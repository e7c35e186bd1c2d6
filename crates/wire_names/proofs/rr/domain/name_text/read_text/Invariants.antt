use Rattle.std.proofs.Common.{length}
use Rattle.wire_names.proofs.lemmas.rr.domain.NameSpelling.{Reads}
use Rattle.wire_names.proofs.rr.domain.name_text.read_text.Given as goal

abbrev pub invariant-labels : goal.invariant-labels
invariant-labels l = Reads l.text l.rest l.labels

abbrev pub decreases-labels : goal.decreases-labels
decreases-labels l = length l.rest
