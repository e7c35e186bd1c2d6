use Rattle.std.proofs.Common.{subst}
use Rattle.std.proofs.lemmas.Result.{on_ok_weaker}
use Rattle.hickory_store.specs.blocklist.Entries.{Tells}
use Rattle.hickory_store.proofs.lemmas.blocklist.ListedLines.{skips_line, adds_line}
use Rattle.hickory_store.proofs.blocklist.entries.Entries.add_line.Goals as goal

pub returns-in-Some-clause-ok : goal.returns-in-Some-clause-ok
returns-in-Some-clause-ok c =
    let told = subst (Tells c.args.line.now) c.in-Some.is c.in_ok-listed.ensures in
    on_ok_weaker c.insert.result (adds_line c.args.self.now c.args.line.now c.in-Some.listed.name c.insert.new.self told.2) c.insert.ensures.ok

pub returns-in-None-clause-ok : goal.returns-in-None-clause-ok
returns-in-None-clause-ok c = skips_line c.args.self.now c.args.line.now (subst (Tells c.args.line.now) c.in-None.is c.in_ok-listed.ensures)
