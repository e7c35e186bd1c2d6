use Rattle.std.proofs.Common.{◌<◌, ◌+◌, ◌-◌, ℕ, false, List, length, take, drop, arith}
use Rattle.std.proofs.lemmas.Result.{err_from_is_err_and}
use Rattle.text_data.specs.ServiceText.{list_items}
use Rattle.text_data.proofs.ItemSteps.{item_last, item_none, item_refused, item_step, some_item}
use Rattle.text_data.proofs.items.items.Goals as goal

pub returns-then-end-text-clause-are : goal.returns-then-end-text-clause-are
returns-then-end-text-clause-are c =
    let text : List ℕ = c.args.text.now in
    let place : ℕ = c.items.place in
    let end : ℕ = c.item_end-end.result in
    let put = c.in_ok-put_item.ensures.put in
    item_last c.args.kind (list_items false text) (list_items false (drop place text)) (take (end - place) (drop place text)) put.0 c.items.octets.items c.put_item.new.octets.items (c.item_end-end.ensures.last c.if-end-text.true) put.2 put.1 c.items.invariant.whole

pub items-preserved : goal.items-preserved
items-preserved c =
    let text : List ℕ = c.args.text.now in
    let place : ℕ = c.items.place in
    let end : ℕ = c.item_end-end.result in
    let put = c.in_ok-put_item.ensures.put in
    let below : end < length text = omega (arith, c.item_end-end.ensures.within, c.if-end-text.false) in
    record {
      within = omega (arith, below);
      whole = item_step c.args.kind (list_items false text) (list_items false (drop place text)) (list_items false (drop (end + 1) text)) (take (end - place) (drop place text)) put.0 c.items.octets.items c.put_item.new.octets.items
          (c.item_end-end.ensures.more below) put.2 put.1 c.items.invariant.whole;
      never = item_refused c.args.kind (list_items false text) (list_items false (drop place text)) (list_items false (drop (end + 1) text)) (take (end - place) (drop place text)) (c.item_end-end.ensures.more below) c.items.invariant.never;
    }

pub returns-in_err-put_item-clause-refused : goal.returns-in_err-put_item-clause-refused
returns-in_err-put_item-clause-refused c =
    let text : List ℕ = c.args.text.now in
    let place : ℕ = c.items.place in
    let end : ℕ = c.item_end-end.result in
    let cut = some_item text place end c.item_end-end.ensures.within c.item_end-end.ensures.more c.item_end-end.ensures.last in
    let p = err_from_is_err_and c.from_residual.result c.from_residual.ensures.1 in
    rw (p.1, p.2) (λ other. item_none c.args.kind (list_items false text) (list_items false (drop place text)) cut.0 (take (end - place) (drop place text)) cut.1 c.items.invariant.never (c.in_err-put_item.ensures.refused other))
