use Rattle.std.proofs.Common.{◌∙◌, length, ap, refl, arith, length-set}
use Rattle.text_words.specs.Spelling.{any_byte}
use Rattle.text_words.specs.Spelling.Spells.{nothing}
use Rattle.text_words.proofs.NoBytes.{byte_left, none_left, one_left}
use Rattle.text_words.proofs.SpelledOnce.{in_order}
use Rattle.text_words.proofs.SpellingSteps.{Spells-into, within}
use Rattle.text_words.proofs.escapes.read_string.Goals as goal

pub bytes-init : goal.bytes-init
bytes-init c = record {
  short = omega arith;
  within = omega arith;
  sized = c.told-string;
  spelled = nothing;
  all = λ bytes h. (bytes, in_order any_byte h, omega arith);
}

pub bytes-preserved : goal.bytes-preserved
bytes-preserved c = record {
  short = omega arith;
  within = within c.args.word.now.bytes.now c.bytes.place c.in-Some.spelled.len c.in-Some.ensures.within c.bytes.invariant.within;
  sized = length-set c.bytes.string c.bytes.len c.in-Some.spelled.byte ∙ c.bytes.invariant.sized;
  spelled = Spells-into any_byte c.args.word.now.bytes.now c.bytes.string c.bytes.place c.in-Some.spelled.len c.bytes.len c.in-Some.spelled.byte c.in-Some.spelled.is_bare (omega arith) c.bytes.invariant.spelled c.in-Some.ensures.spelled (λ _. refl);
  all = λ bytes h.
      let left = c.bytes.invariant.all bytes h in
      let rest = one_left any_byte c.args.word.now.bytes.now left.0 c.bytes.place c.in-Some.spelled.len c.in-Some.spelled.byte c.in-Some.spelled.is_bare c.in-Some.ensures.spelled left.1 in
      (rest.0, rest.1, omega (arith, left.2, ap length rest.2));
}

pub returns-in_default-clause-refused : goal.returns-in_default-clause-refused
returns-in_default-clause-refused c = λ octets is.
    let left = c.bytes.invariant.all is.bytes is.spelled in
    none_left any_byte c.args.word.now.bytes.now left.0 c.bytes.place c.in_default.ensures.none c.bytes-test.true left.1

pub returns-then-len-eq-MAX_STRING_LEN-clause-refused : goal.returns-then-len-eq-MAX_STRING_LEN-clause-refused
returns-then-len-eq-MAX_STRING_LEN-clause-refused c = λ octets is.
    let left = c.bytes.invariant.all is.bytes is.spelled in
    omega (arith, left.2, is.short, byte_left any_byte c.args.word.now.bytes.now left.0 c.bytes.place c.bytes-test.true left.1)
