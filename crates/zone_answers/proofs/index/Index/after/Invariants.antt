-- It is an index of the zone after the update, whatever it says of the owner names of the records to come.
use Rattle.std.proofs.Common.{drop}
use Rattle.hickory_base.specs.zone_store.ZoneSets.{sets_of}
use Rattle.wire_names.specs.rr.domain.DomainName.{DomainName}
use Rattle.zone_answers.specs.representation.Indexes.{IsIndexBut, IsIndexOf, KeepsOthers}
use Rattle.zone_answers.specs.Zones.{Sets}
use Rattle.zone_answers.proofs.index.Index.after.Given as goal

abbrev pub invariant-loop-r : goal.invariant-loop-r
invariant-loop-r l =
    (origin : DomainName) (old : Sets) → IsIndexOf origin old l.fn.self → KeepsOthers l.updates origin old (sets_of l.sets)
    → IsIndexBut (drop l.r-index l.updates) origin (sets_of l.sets) l.index
