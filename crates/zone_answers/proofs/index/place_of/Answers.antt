use Rattle.std.proofs.Common.{◌≡◌, ◌+◌, ◌-◌, ◌/◌, ◌∙◌, suc, true, false, arith, sym, subst, take, drop}
use Rattle.std.specs.Ordering.{is_lt}
use Rattle.wire_messages.specs.rr.RrKeys.{key_cmp}
use Rattle.hickory_base.proofs.lemmas.zone_store.ZoneByName.{key_total}
use Rattle.zone_answers.proofs.lemmas.zones.Indexed.{as_many, entry_at, lt_is}
use Rattle.zone_answers.proofs.lemmas.zones.Searches.{AreBelow, AreFrom, found_place, on_from, up_to}
use Rattle.zone_answers.proofs.index.place_of.Goals as goal

pub is_before-requires-clause-words : goal.is_before-requires-clause-words
is_before-requires-clause-words c = as_many _ _ _ c.requires.searched.numbered

pub loop-low-preserved-then-is_before : goal.loop-low-preserved-then-is_before
loop-low-preserved-then-is_before c =
    let entries = c.args.entries.now in
    let first = c.args.first.now in
    let middle = c.loop-low.low + (c.loop-low.high - c.loop-low.low) / 2 in
    let at = entry_at entries middle (omega arith) in
    let before : is_lt (key_cmp at.0.0 first) ≡ true = sym (c.is_before.ensures c.args.apex.now at.0 c.requires.searched.numbered c.word_of-word.ensures at.1) ∙ c.if-is_before.true in
    let next : suc middle ≡ middle + 1 = omega arith in
    record {
      ordered = omega arith;
      within = c.loop-low.invariant.within;
      below = subst (λ n. AreBelow key_cmp first (take n entries)) next (up_to key_total first entries middle at.0 c.requires.searched.ordered at.1 (lt_is (key_cmp at.0.0 first) before));
      behind = c.loop-low.invariant.behind;
    }

pub loop-low-preserved : goal.loop-low-preserved
loop-low-preserved c =
    let entries = c.args.entries.now in
    let first = c.args.first.now in
    let middle = c.loop-low.low + (c.loop-low.high - c.loop-low.low) / 2 in
    let at = entry_at entries middle (omega arith) in
    let from : is_lt (key_cmp at.0.0 first) ≡ false = sym (c.is_before.ensures c.args.apex.now at.0 c.requires.searched.numbered c.word_of-word.ensures at.1) ∙ c.if-is_before.false in
    record {
      ordered = omega arith;
      within = omega arith;
      below = c.loop-low.invariant.below;
      behind = on_from key_total first entries middle at.0 c.requires.searched.ordered at.1 from;
    }

pub returns-clause-is : goal.returns-clause-is
returns-clause-is c =
    let met : c.loop-low.high ≡ c.loop-low.low = omega arith in
    found_place key_total c.args.first.now c.args.entries.now c.loop-low.low c.loop-low.invariant.below
    (subst (λ n. AreFrom key_cmp c.args.first.now (drop n c.args.entries.now)) met c.loop-low.invariant.behind)
