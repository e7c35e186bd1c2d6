-- What iterators over records give.
use Rattle.std.proofs.Common.{◌≡◌, List, Option, sym, ◌∙◌}
use Rattle.std.specs.Borrow.{Bor}
use Rattle.std.specs.Slice.Iter.{iter_steps, iter_rest}
use Rattle.std.proofs.lemmas.Iterator.{YieldsList, items_from_drains, YieldsList-from_slice}
use Rattle.wire_writing.specs.representation.Endings.{GivesRecords}
use Rattle.wire_messages.specs.declared.rr.rdata.RData.{RData}
use Rattle.wire_messages.specs.declared.rr.record.Record.{Record}

-- an iterator of which each run gives these records
pub given_by : {S : Type 0} {steps : S → Option (Bor (Record RData)) → S → Type 0} {it : S} {records all : List (Record RData)} → GivesRecords steps it records → YieldsList steps (λ x. x.now) it all → records ≡ all
given_by gives road = let d = gives.1 in sym gives.2 ∙ items_from_drains gives.0 (d.1.0, d.1.1, λ _. (d.0, d.1.2)) road

-- a slice's iterator gives the slice
pub given_by_slice : {records xs : List (Record RData)} {it : _} → GivesRecords iter_steps it records → iter_rest it ≡ xs → records ≡ xs
given_by_slice {xs = xs} gives e = given_by gives (YieldsList-from_slice xs e)
