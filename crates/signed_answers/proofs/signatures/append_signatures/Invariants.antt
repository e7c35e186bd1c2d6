-- The signatures of the type among the records so far stand after what was there.
use Rattle.std.proofs.Common.{◌≡◌, ◌++◌, filter, map, take}
use Rattle.signed_answers.specs.Signatures.{covers}
use Rattle.signed_answers.proofs.signatures.append_signatures.Given as goal

abbrev pub invariant-loop-record : goal.invariant-loop-record
invariant-loop-record l = map (λ r. r.now) l.all.items ≡ map (λ r. r.now) l.fn.all.items ++ filter (covers l.covered) (take l.record-index l.records)
