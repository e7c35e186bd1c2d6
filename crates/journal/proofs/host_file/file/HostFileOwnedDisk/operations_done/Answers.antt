-- What is done is owed no more, and may be left as before.
use Rattle.std.proofs.Common.{ap, sym, subst, ◌∙◌}
use Rattle.journal.specs.host_file.FileState.{FileState, may_leave, owed}
use Rattle.journal.proofs.FileLemmas.{made_leaves, left_made, made_owes}
use Rattle.journal.proofs.host_file.file.HostFileOwnedDisk.operations_done.Goals as goal

pub returns-clause-owed : goal.returns-clause-owed
returns-clause-owed c = ap owed c.forget.ensures.made ∙ made_owes c.args.self.now

pub returns-clause-leaves : goal.returns-clause-leaves
returns-clause-leaves c = λ file left. subst (λ (f : FileState). may_leave f file) (sym c.forget.ensures.made) (made_leaves c.args.self.now file left)

pub returns-clause-crash : goal.returns-clause-crash
returns-clause-crash c = λ file left. left_made c.args.self.now file (subst (λ (f : FileState). may_leave f file) c.forget.ensures.made left)
