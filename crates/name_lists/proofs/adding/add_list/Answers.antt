use Rattle.std.proofs.Common.{Some}
use Rattle.name_lists.proofs.AddedNames.{adds_all, adds_err}
use Rattle.name_lists.proofs.adding.add_list.Goals as goal

pub returns-in-Ok-clause-ok : goal.returns-in-Ok-clause-ok
returns-in-Ok-clause-ok c =
    adds_all c.args.bytes.now c.in_ok-lines.lines c.in_ok-lines.report c.in_ok-lines.ensures.adapted (Some c.add.new.reader) c.args.list.now.entries c.add.new.self.entries c.in-Ok.ensures.added

pub returns-clause-err : goal.returns-clause-err
returns-clause-err c =
    adds_err c.args.bytes.now c.in_ok-lines.lines c.in_ok-lines.report c.in_ok-lines.ensures.adapted (Some c.add.new.reader) c.args.list.now.entries c.add.new.self.entries
    c.in-Err-Memory.field-0 c.in-Err-Memory.ensures.added
