-- A crash leaves what is on the disk.
use Rattle.std.proofs.Common.{subst}
use Rattle.journal.specs.host_file.FileState.{FileState, may_leave}
use Rattle.journal.proofs.CrashLemmas.{only_seen}
use Rattle.journal.proofs.host_file.file.HostFile.new.Goals as goal

pub returns-clause-restarted : goal.returns-clause-restarted
returns-clause-restarted c = λ file left. only_seen c.args.bytes.items file (subst (λ (f : FileState). may_leave f file) c.of.ensures left)
