use Rattle.std.proofs.Common.{inl, inr, sym, subst}
use Rattle.std.specs.Option.{option_copied}
use Rattle.zone_answers.proofs.lemmas.zones.Beside.{tells}
use Rattle.zone_answers.proofs.lemmas.zones.Owners.{above_same, turned}
use Rattle.zone_answers.specs.representation.KeysBeside.{IsLast}
use Rattle.zone_answers.specs.Zones.{ancestor}
use Rattle.zone_answers.proofs.find.beside.Goals as goal
use Rattle.zone_answers.proofs.find.beside.Goals.{in-Some, in-None}

pub returns : goal.returns
returns c =
    let r = c.requires in
    let b = r.behind in
    let low : IsLast c.range.result (option_copied c.match-next_back.before) = elim c.match-next_back.branch [
      | in-Some w ↦ subst (λ o. IsLast c.range.result (option_copied o)) (sym w.before-is) (w.in-Some.field-0-1.now, c.next_back.new.self, w.in-Some.ensures.steps)
      | in-None w ↦ subst (λ o. IsLast c.range.result (option_copied o)) (sym w.before-is) w.in-None.ensures.steps.0
    ] in
    λ origin owners k.
    let own = tells c.args.sets.now c.args.first.now r.least r.qualified origin owners b.range c.range.result b.whole b.of (c.range.ensures.between tt) (c.range.ensures.in_range tt) k _ _ b.least low in
    let n = ancestor c.args.first.now.name k in (
      λ x. elim (own.0 x) [ inl before ↦ inl before | inr behind ↦ inr (above_same n b.own (option_copied c.args.behind) (turned (option_copied c.args.behind) b.own b.same) behind) ],
      λ a. own.1 (elim a [ inl before ↦ inl before | inr behind ↦ inr (above_same n (option_copied c.args.behind) b.own b.same behind) ]),
    )
