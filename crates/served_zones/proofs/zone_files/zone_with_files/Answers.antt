use Rattle.served_zones.proofs.zone_files.zone_with_files.Goals as goal

pub returns-in-Err-clause-fault : goal.returns-in-Err-clause-fault
returns-in-Err-clause-fault g c = c.entry_fault-fault.ensures c.args.apex.now
