use Rattle.std.proofs.Common.{refl}
use Rattle.zone_text.proofs.FirstFaults.{file_within, first_fault}
use Rattle.zone_text.proofs.zone_file.read_zone_bytes.Goals as goal

pub in_file-requires : goal.in_file-requires
in_file-requires c = file_within c.args.origin.now c.args.text.now c.in-Err.e c.in-Err.ensures.fault

pub returns-in-Err-clause-fault : goal.returns-in-Err-clause-fault
returns-in-Err-clause-fault c = first_fault c.args.origin.now c.args.text.now c.args.text.now c.in-Err.e c.in_file.result refl c.in-Err.ensures.fault c.in_file.ensures
