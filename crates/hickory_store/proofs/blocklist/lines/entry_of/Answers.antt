use Rattle.std.proofs.Common.{lit<}
use Rattle.hickory_store.proofs.lemmas.blocklist.FirstBytes.{commented, uncommented}
use Rattle.hickory_store.proofs.blocklist.lines.entry_of.Goals as goal

pub returns-in-Some : goal.returns-in-Some
returns-in-Some c =
    let parts = c.in-Some.ensures.byte (lit< tt) (λ w o f. f) in
    commented c.args.line.now c.in-Some.entry.now c.trim.result.now parts.0 parts.2 c.trim.ensures.trim

pub returns-in-None : goal.returns-in-None
returns-in-None c = uncommented c.args.line.now (c.in-None.ensures.byte (lit< tt) (λ w o f. f))
