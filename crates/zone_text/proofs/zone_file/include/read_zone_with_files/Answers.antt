use Rattle.zone_text.specs.Included.IsFaultWithFiles.{memory}
use Rattle.zone_text.proofs.zone_file.include.read_zone_with_files.Goals as goal

pub returns-in_default-clause-fault : goal.returns-in_default-clause-fault
returns-in_default-clause-fault g c = rw c.no_memory.ensures memory
