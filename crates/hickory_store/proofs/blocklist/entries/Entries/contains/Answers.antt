use Rattle.std.proofs.Common.{ap, ◌∙◌}
use Rattle.hickory_store.proofs.lemmas.blocklist.KeptNames.{tells_entry, has}
use Rattle.hickory_store.proofs.blocklist.entries.Entries.contains.Goals as goal

pub returns : goal.returns
returns c = tells_entry c.args.self.now c.args.name.now c.contains.result (c.contains.ensures ∙ ap (λ names. has names c.args.name.now) c.self.view_is)
