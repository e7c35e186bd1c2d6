-- The length is changed, or memory was refused.
use Rattle.journal.specs.host_file.FileState.{resized}
use Rattle.journal.proofs.FileLemmas.{joined, len_answered, cut_answered, left_resized}
use Rattle.journal.proofs.host_file.file.HostFileDisk.set_len.Goals as goal

pub returns-clause-noted : goal.returns-clause-noted
returns-clause-noted c =
    joined (resized c.args.len) c.args.self.now c.resize-noted.new.self c.answer.new.self c.resize-noted.result c.answer.result c.answer.ensures.variant c.resize-noted.ensures.ok c.resize-noted.ensures.err c.answer.ensures.ok c.answer.ensures.err

pub returns-clause-len : goal.returns-clause-len
returns-clause-len c = len_answered c.args.len c.args.self.now c.answer.new.self c.answer.result (returns-clause-noted c)

pub returns-clause-others : goal.returns-clause-others
returns-clause-others c = cut_answered c.args.len c.args.self.now c.answer.new.self c.answer.result (returns-clause-noted c)

pub returns-clause-crash : goal.returns-clause-crash
returns-clause-crash c = left_resized c.args.len c.args.self.now c.answer.new.self c.resize-noted.ensures.sound c.answer.result (returns-clause-noted c)
