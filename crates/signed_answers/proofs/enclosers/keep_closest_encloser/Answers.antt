use Rattle.std.proofs.Common.{◌≡◌, ◌+◌, false, sym, ap, ◌∙◌}
use Rattle.std.proofs.lemmas.Bool.{false≢true}
use Rattle.std.specs.Option.{option_copied}
use Rattle.zone_answers.specs.representation.FoundRecords.{IsAbove}
use Rattle.zone_answers.specs.Zones.{ancestor}
use Rattle.zone_answers.proofs.lemmas.names.Enclosers.{ancestor-ancestor, none_at_all, none_more}
use Rattle.signed_answers.proofs.enclosers.keep_closest_encloser.Goals as goal

pub returns-then-is_root-clause-none : goal.returns-then-is_root-clause-none
returns-then-is_root-clause-none c =
    let i = c.loop-name.invariant in
    let e : c.is_above.result ≡ false = c.loop-name-test.true in
    let f : c.is_above-in-loop-name.result ≡ false = c.if-not-is_above.true in
    let before : ¬ (IsAbove c.loop-name.name (option_copied c.args.before)) = λ a. false≢true (sym e ∙ c.is_above.ensures.1 a) in
    let behind : ¬ (IsAbove c.loop-name.name (option_copied c.args.behind)) = λ a. false≢true (sym f ∙ c.is_above-in-loop-name.ensures.1 a) in
    λ sets tells e k. none_at_all sets c.args.name.now c.loop-name.name (record { before = c.args.before; behind = c.args.behind }) i.0 i.1 before behind tells (sym c.as_name.ensures.name ∙ c.is_root.ensures.0 c.if-is_root.true) (i.2 sets tells) k

pub loop-name-preserved : goal.loop-name-preserved
loop-name-preserved c =
    let i = c.loop-name.invariant in
    let e : c.is_above.result ≡ false = c.loop-name-test.true in
    let f : c.is_above-in-loop-name.result ≡ false = c.if-not-is_above.true in
    let before : ¬ (IsAbove c.loop-name.name (option_copied c.args.before)) = λ a. false≢true (sym e ∙ c.is_above.ensures.1 a) in
    let behind : ¬ (IsAbove c.loop-name.name (option_copied c.args.behind)) = λ a. false≢true (sym f ∙ c.is_above-in-loop-name.ensures.1 a) in (
      i.0 + 1,
      c.remove_first_label.ensures ∙ ap (λ d. ancestor d 1) i.1 ∙ ancestor-ancestor c.args.name.now 1 i.0,
      λ sets tells. none_more sets c.args.name.now c.loop-name.name (record { before = c.args.before; behind = c.args.behind }) i.0 i.1 before behind tells (i.2 sets tells),
    )
