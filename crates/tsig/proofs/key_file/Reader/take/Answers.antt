use Rattle.std.proofs.Common.{rules}
use Rattle.std.proofs.lemmas.Result.{on_ok_weaker}
use Rattle.tsig.specs.KeyFiles.{part}
use Rattle.tsig.proofs.key_file.Reader.take.Goals as goal

pub returns-in-Some : goal.returns-in-Some
returns-in-Some c = on_ok_weaker c.take_field.result (λ taken. part c.in-Some.field (search rules) taken) (rw c.in_ok-word.ensures at c.take_field.ensures)
