use Rattle.std.proofs.Common.{◌≡◌, false, sym, ◌∙◌}
use Rattle.std.proofs.lemmas.Bool.{false≢true}
use Rattle.zone_answers.proofs.lemmas.zones.Outcomes.{above_cut, referred, uncut}
use Rattle.zone_answers.specs.representation.FoundRecords.{outcome_of}
use Rattle.zone_answers.specs.Zones.{at_node}
use Rattle.zone_answers.proofs.find.find_existing.Goals as goal
use Rattle.zone_answers.proofs.find.find_existing.Goals.{in-Some+else-not-stands_above, in_default}

pub returns-then-not-stands_above : goal.returns-then-not-stands_above
returns-then-not-stands_above c =
    let e : c.stands_above.result ≡ false = c.if-not-stands_above.true in
    λ zone name at x wanted alias. referred zone name c.args.record_type c.args.cut at c.in-Some.cut c.in-Some.is (λ asked. false≢true (sym e ∙ c.stands_above.ensures.1 asked))

pub returns : goal.returns
returns c =
    λ zone name at x wanted alias.
    let is : outcome_of zone.sets name c.found_at_existing.result ≡ at_node zone.sets name c.args.record_type = c.found_at_existing.ensures zone.sets name wanted alias in
    elim c.match-cut.branch [
      | in-Some+else-not-stands_above w ↦ above_cut zone name c.args.record_type c.args.cut at w.in-Some.cut (outcome_of zone.sets name c.found_at_existing.result) w.in-Some.is (w.stands_above.ensures.0 w.if-not-stands_above.false) is
      | in_default w ↦ uncut zone name c.args.record_type c.args.cut at (outcome_of zone.sets name c.found_at_existing.result) w.in_default.is x is
    ]
