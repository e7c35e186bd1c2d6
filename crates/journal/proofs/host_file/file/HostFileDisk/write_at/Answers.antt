-- The bytes are written, or memory was refused.
use Rattle.journal.specs.host_file.FileState.{written}
use Rattle.journal.proofs.FileLemmas.{joined, holds_answered, torn_answered, left_answered}
use Rattle.journal.proofs.host_file.file.HostFileDisk.write_at.Goals as goal

pub returns-clause-noted : goal.returns-clause-noted
returns-clause-noted c =
    joined (written c.args.at c.args.bytes.now) c.args.self.now c.write-noted.new.self c.answer.new.self c.write-noted.result c.answer.result c.answer.ensures.variant c.write-noted.ensures.ok c.write-noted.ensures.err c.answer.ensures.ok c.answer.ensures.err

pub returns-clause-written : goal.returns-clause-written
returns-clause-written c = holds_answered c.args.at c.args.bytes.now c.args.self.now c.answer.new.self c.answer.result (returns-clause-noted c)

pub returns-clause-others : goal.returns-clause-others
returns-clause-others c = torn_answered c.args.at c.args.bytes.now c.args.self.now c.answer.new.self c.answer.result (returns-clause-noted c)

pub returns-clause-crash : goal.returns-clause-crash
returns-clause-crash c = left_answered c.args.at c.args.bytes.now c.args.self.now c.answer.new.self c.write-noted.ensures.sound c.answer.result (returns-clause-noted c)
