-- The rules so far are those of the arguments so far.
use Rattle.std.proofs.Common.{take}
use Rattle.std.specs.List.{AllZip}
use Rattle.zone_serve.specs.Catalogs.{IsGrantBy}
use Rattle.zone_serve.proofs.updates.grants_of.Given as goal

abbrev pub invariant-loop-place : goal.invariant-loop-place
invariant-loop-place l = AllZip (IsGrantBy l.keys) (take l.place l.arguments) l.grants.items
