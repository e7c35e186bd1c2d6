-- A sync is noted, or memory was refused.
use Rattle.journal.proofs.FileLemmas.{joined_sync, only_answered, left_synced}
use Rattle.journal.proofs.host_file.file.HostFileDisk.sync.Goals as goal

pub returns-clause-noted : goal.returns-clause-noted
returns-clause-noted c =
    joined_sync c.args.self.now c.note_sync-noted.new.self c.answer.new.self c.note_sync-noted.result c.answer.result c.answer.ensures.variant c.note_sync-noted.ensures.ok c.note_sync-noted.ensures.err c.answer.ensures.ok c.answer.ensures.err

pub returns-clause-durable : goal.returns-clause-durable
returns-clause-durable c = only_answered c.args.self.now c.answer.new.self c.answer.result (returns-clause-noted c)

pub returns-clause-crash : goal.returns-clause-crash
returns-clause-crash c = left_synced c.args.self.now c.answer.new.self c.answer.result (returns-clause-noted c)
