-- What is left to skip leads to where all of it leads.
use Rattle.std.proofs.Common.{◌≡◌}
use Rattle.wire_messages.specs.serialize.reading.RecordReading.{question}
use Rattle.tsig.specs.Reading.{skip}
use Rattle.tsig.proofs.reading.skip_queries.Given as goal

abbrev pub invariant-loop-left : goal.invariant-loop-left
invariant-loop-left l = skip question l.count l.fn.decoder ≡ skip question l.left l.decoder

abbrev pub decreases-loop-left : goal.decreases-loop-left
decreases-loop-left l = l.left
