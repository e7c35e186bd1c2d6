-- Each is among the others.
use Rattle.std.proofs.Common.{◌≡◌, IsTrue, Bool, true, rules}
use Rattle.std.specs.List.{AllByRecursion}
use Rattle.hickory_store.specs.updates.Identity.{SameZone}
use Rattle.zone_import.proofs.SameLists.{Has, of_ok, same_within}
use Rattle.zone_import.proofs.sameness.is_same_set.Goals as goal

pub returns : goal.returns
returns c =
    let yes : c.in_ok-are_among.field-0 ≡ true = search rules in
    of_ok (λ (b : Bool). IsTrue b → AllByRecursion (Has c.args.records.now) c.args.others.now) (λ (b : Bool). IsTrue b → SameZone c.args.records.now c.args.others.now) c.are_among-2.result
    (λ b all is. same_within c.identities.ensures.records c.args.records.now c.args.others.now (c.in_ok-are_among.ensures yes) (all is)) c.are_among-2.ensures
