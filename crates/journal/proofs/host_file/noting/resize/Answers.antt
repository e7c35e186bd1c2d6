-- What `Vec::resize` leaves is the contents, cut or lengthened with zeros.
use Rattle.std.proofs.Common.{◌≡◌, ◌-◌, ◌++◌, ℕ, List, length, take, replicate, Result, Ok, Err, ◌∙◌, ap, rules}
use Rattle.std.specs.Prelude.{OnOk, is_ok, if◌then◌else◌}
use Rattle.std.specs.declared.alloc.AllocError.{AllocError}
use Rattle.sqlite_disk.specs.Events.{padded}
use Rattle.journal.proofs.FileLemmas.{padded_parts}
use Rattle.journal.proofs.host_file.noting.resize.Goals as goal

resized_parts : (result : Result (Unit {0}) AllocError) (old new : List ℕ) (count len : ℕ) → count ≡ length old → new ≡ (if is_ok result then take len old ++ replicate (len - count) 0 else old) → OnOk result (new ≡ padded old len)
resized_parts (Ok u) old new count len long same = same ∙ ap (λ k. take len old ++ replicate (len - k) 0) long ∙ padded_parts old len
resized_parts (Err e) old new count len long same = tt

pub returns-clause-ok : goal.returns-clause-ok
returns-clause-ok c = resized_parts c.resize.result c.args.file.now.items c.resize.new.self.items c.args.file.now.len c.args.len (search rules) c.resize.ensures.items
