-- The first refusal is that of the records to come.
use Rattle.std.proofs.Common.{◌≡◌, drop}
use Rattle.hickory_store.specs.updates.Prescan.{prescan_refusal}
use Rattle.hickory_store.proofs.updates.prescan.scan_all.Given as goal

abbrev pub invariant-loop-r : goal.invariant-loop-r
invariant-loop-r l = prescan_refusal l.zone.origin (drop l.r-index l.updates) ≡ prescan_refusal l.zone.origin l.updates
