use Rattle.std.proofs.Common.{subst, sym}
use Rattle.zone_answers.specs.representation.Indexes.{IsIndexOf, KeepsOthers}
use Rattle.zone_answers.specs.Zones.{Sets}
use Rattle.zone_replies.proofs.prepared.Prepared.after.Goals as goal

pub returns : goal.returns
returns c = λ old same was kept.
    let zone = c.args.zone.now in
    let sets = c.records.ensures.sets in
    record {
      soa = c.in-Ok.ensures;
      index =
          subst (λ o. IsIndexOf o zone.sets c.in-Some.index) (sym same)
          (subst (λ (s : Sets). IsIndexOf old.origin s c.in-Some.index) sets
          (c.in-Some.ensures old.origin old.sets was.index (subst (λ (s : Sets). KeepsOthers c.args.updates.now old.origin old.sets s) (sym sets) kept)));
    }
