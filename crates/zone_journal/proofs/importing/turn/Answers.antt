use Rattle.std.proofs.Common.{◌≡◌, rules, true}
use Rattle.zone_journal.proofs.importing.turn.Goals as goal

pub returns-then-branch-clause-turned : goal.returns-then-branch-clause-turned
returns-then-branch-clause-turned g c =
    let is_same : c.in_ok-is_same_but_serial.field-0 ≡ true = search rules in
    (rw c.in_memory-then-not-is_above.ensures at c.in_ok-is_same_but_serial.ensures) is_same
