-- The entries that are left lead where all of them lead.
use Rattle.std.proofs.Common.{◌≡◌, length}
use Rattle.hickory_base.specs.zone_store.ZoneAnswers.{MemoryZone}
use Rattle.journal.specs.Read.{contents}
use Rattle.durable_updates.specs.Redone.{Redone}
use Rattle.durable_updates.proofs.redoing.redo.Given as goal

abbrev pub invariant-loop-rest : goal.invariant-loop-rest
invariant-loop-rest g l = record {
  leads : (new : MemoryZone) → Redone (contents l.rest) l.zone.zone new → Redone (contents l.fn.entries) l.fn.zone.zone new;
  others : l.zone ≡ record l.fn.zone { zone = l.zone.zone };
}

abbrev pub decreases-loop-rest : goal.decreases-loop-rest
decreases-loop-rest g l = length l.rest
