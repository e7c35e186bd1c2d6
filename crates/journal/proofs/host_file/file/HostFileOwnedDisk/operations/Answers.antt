-- What was noted and is not done.
use Rattle.std.proofs.Common.{◌-◌, List, length, drop, ap, ◌∙◌, arith, length-drop}
use Rattle.std.proofs.lemmas.List.{take_all}
use Rattle.journal.specs.declared.host_file.operation.Operation.{Operation}
use Rattle.journal.specs.host_file.Calls.{calls_of}
use Rattle.journal.specs.host_file.FileState.{owed}
use Rattle.journal.proofs.FileLemmas.{drop_calls}
use Rattle.journal.proofs.host_file.file.HostFileOwnedDisk.operations.Goals as goal

pub returns : goal.returns
returns c =
    ap calls_of (take_all (length c.deref.result.now - c.self.inside.made) (drop c.self.inside.made c.deref.result.now) (omega (arith, length-drop c.self.inside.made c.deref.result.now)))
    ∙ drop_calls c.self.inside.made c.deref.result.now ∙ ap (λ (l : List Operation). drop c.self.inside.made (calls_of l)) c.deref.ensures.value ∙ ap owed c.self.view_is
