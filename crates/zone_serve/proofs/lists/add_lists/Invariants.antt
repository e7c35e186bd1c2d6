-- The lists so far are on the list of blocked names.
use Rattle.std.proofs.Common.{map, take}
use Rattle.zone_serve.specs.Catalogs.{AddsFiles}
use Rattle.zone_serve.proofs.lists.add_lists.Given as goal

abbrev pub invariant-loop-place : goal.invariant-loop-place
invariant-loop-place g l = AddsFiles (g.O.FileOpener.opens l.opener) (map (λ file. file.now) (take l.place l.files)) l.fn.list l.list
