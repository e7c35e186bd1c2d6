use Rattle.signed_answers.proofs.enclosers.key_before.Goals as goal

pub returns-in-Some : goal.returns-in-Some
returns-in-Some c = record {
  range = c.range.result;
  whole = c.range.ensures.between tt;
  of = c.range.ensures.in_range tt;
  last = (c.in-Some.field-0-1.now, c.next_back.new.self, c.in-Some.ensures.steps);
}

pub returns-in-None : goal.returns-in-None
returns-in-None c = record {
  range = c.range.result;
  whole = c.range.ensures.between tt;
  of = c.range.ensures.in_range tt;
  last = c.in-None.ensures.steps.0;
}
