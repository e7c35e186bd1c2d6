use Rattle.std.proofs.Common.{rules, Some, ap, get_or, length, refl, sym, ◌∙◌}
use Rattle.std.proofs.lemmas.Option.{slice_get_read}
use Rattle.zone_answers.specs.representation.KeysBeside.{Entry}
use Rattle.zone_answers.proofs.find.wild_among.Goals as goal

pub returns-then-is_clear : goal.returns-then-is_clear
returns-then-is_clear c =
    let sets = c.args.before.sets.now in
    let place = c.loop-place.place in
    let e : Entry = c.index-before-place.result in
    record {
      place = place;
      entry = get_or sets place e;
      among = record {
        there = slice_get_read sets (length sets) place e refl c.loop-place-test.true c.index-before-place.is ∙ ap (λ (x : Entry). Some x) c.index-before-place.is;
        clear = c.is_clear.ensures c.if-is_clear.true;
      };
      is = c.is_wildcard_beside.ensures c.if-is_wildcard_beside.true;
      of_type = search rules;
      records = sym (c.records.ensures.value ∙ c.deref.ensures);
    }
