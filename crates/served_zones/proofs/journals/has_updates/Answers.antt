-- The zone that is found is the one of this apex.
use Rattle.std.proofs.Common.{◌≡◌, Some, true, rules}
use Rattle.std.specs.Prelude.{IsTrue}
use Rattle.hickory_catalog.specs.zones.Find.{Finds}
use Rattle.served_zones.specs.Journals.{HasRules}
use Rattle.served_zones.proofs.RuledZones.{found_has}
use Rattle.served_zones.proofs.journals.has_updates.Goals as goal

pub returns-in-Some : goal.returns-in-Some
returns-in-Some g c =
    let there : c.contains.result ≡ true = search rules in
    let found : Finds c.args.zones.now.zones c.args.apex.now (Some c.in-Some.chain.now.items) = search rules in
    let judged : (IsTrue c.has_rules.result → HasRules c.in-Some.chain.now.items) × (HasRules c.in-Some.chain.now.items → IsTrue c.has_rules.result) =
    rw c.deref.ensures.value at c.has_rules.ensures in (
      λ yes. (c.contains.ensures.0 there, c.in-Some.chain.now.items, found, judged.0 yes),
      λ takes. judged.1 (found_has c.args.zones.now.zones c.args.apex.now c.in-Some.chain.now.items c.in_ok-chain.ensures.ordered found takes),
    )
