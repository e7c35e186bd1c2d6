use Rattle.std.proofs.Common.{◌≡◌, ◌∙◌, ◌-◌, ℕ, false, List, [], ◌∷◌, length, take, drop, get_or, refl, sym, subst, arith}
use Rattle.text_data.specs.ServiceText.{list_items}
use Rattle.text_data.proofs.ItemSteps.{left_comma, left_last, left_more}
use Rattle.text_data.proofs.items.item_end.Goals as goal

pub returns-then-ends_item-clause-more : goal.returns-then-ends_item-clause-more
returns-then-ends_item-clause-more c = λ below.
    let end : ℕ = c.loop-end.end in
    left_comma c.args.text.now c.args.start end (get_or c.args.text.now end 0) c.loop-end.is_escaped below refl (sym c.ends_item.ensures ∙ c.if-ends_item.true) c.loop-end.invariant

pub loop-end-preserved : goal.loop-end-preserved
loop-end-preserved c =
    let end : ℕ = c.loop-end.end in
    left_more c.args.text.now c.args.start end (get_or c.args.text.now end 0) c.loop-end.is_escaped c.escapes_next-is_escaped.result (omega (arith, c.loop-end.auto.end)) (omega (arith, c.loop-end-test.true)) refl (sym c.ends_item.ensures ∙ c.if-ends_item.false)
    c.escapes_next-is_escaped.ensures c.loop-end.invariant

pub returns-clause-last : goal.returns-clause-last
returns-clause-last c = λ e.
    let text : List ℕ = c.args.text.now in
    let same : c.loop-end.end ≡ length text = omega (arith, c.loop-end-test.false, c.loop-end.auto.end-end c.requires) in
    subst (λ (k : ℕ). list_items false (drop c.args.start text) ≡ take (k - c.args.start) (drop c.args.start text) ∷ []) same (left_last text c.args.start c.loop-end.end c.loop-end.is_escaped (omega (arith, same)) c.loop-end.invariant)
