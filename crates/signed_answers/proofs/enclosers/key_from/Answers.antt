use Rattle.std.proofs.Common.{Some, None}
use Rattle.hickory_base.proofs.lemmas.zone_store.ZoneByName.{itself}
use Rattle.signed_answers.proofs.enclosers.key_from.Goals as goal

pub returns-in-Some : goal.returns-in-Some
returns-in-Some c = record {
  ordered = c.range.ensures.ordered;
  range = c.range.result;
  whole = c.range.ensures.between tt;
  of = c.range.ensures.in_range tt;
  own = Some c.in-Some.key.now;
  least = (c.in-Some.field-0-1.now, c.next.new.self, c.in-Some.ensures.steps);
  same = itself c.in-Some.key.now.name;
}

pub returns-in-None : goal.returns-in-None
returns-in-None c = record {
  ordered = c.range.ensures.ordered;
  range = c.range.result;
  whole = c.range.ensures.between tt;
  of = c.range.ensures.in_range tt;
  own = None;
  least = c.in-None.ensures.steps.0;
  same = tt;
}
