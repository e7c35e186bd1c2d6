-- The set that the map has under the key afterwards.
use Rattle.std.proofs.Common.{Some}
use Rattle.hickory_store.proofs.lemmas.file.SetsOfRecords.{puts}
use Rattle.hickory_store.proofs.updates.zone_sets.put_set.Goals as goal

pub returns-in-Ok : goal.returns-in-Ok
returns-in-Ok c = puts c.args.key (Some c.args.set) c.args.sets.now.entries c.insert.new.self.entries (λ k. c.in-Ok.ensures.updates.0 k)
