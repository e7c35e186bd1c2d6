-- What was put goes before whatever the records from here on add.
use Rattle.std.proofs.Common.{drop}
use Rattle.hickory_base.specs.zone_store.ZoneSets.{sets_of}
use Rattle.zone_answers.proofs.lemmas.replies.Hosts.{GrownSoFar}
use Rattle.zone_answers.proofs.additionals.append_each.Given as goal

abbrev pub invariant-loop-q : goal.invariant-loop-q
invariant-loop-q l = GrownSoFar l.source (record { origin = l.zone.origin.now; sets = sets_of l.zone.sets.now }) l.answers l.fn.all.items l.naming (drop l.q-index l.naming) l.all.items
