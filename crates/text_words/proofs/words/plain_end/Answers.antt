use Rattle.std.proofs.Common.{◌≡◌, ◌∙◌, false, get_or, sym, refl, arith}
use Rattle.text_words.specs.Words.{ends_word}
use Rattle.text_words.specs.Words.IsRun.{nothing, bare, escaped}
use Rattle.text_words.proofs.words.plain_end.Goals as goal

pub bytes-init : goal.bytes-init
bytes-init c = record {
  on = omega arith;
  within = omega arith;
  run = nothing;
}

pub bytes-preserved-then-text-place-eq92 : goal.bytes-preserved-then-text-place-eq92
bytes-preserved-then-text-place-eq92 c = record {
  on = omega (arith, c.behind_escape-place.ensures);
  within = omega (arith, c.behind_escape-place.ensures);
  run = rw c.behind_escape-place.ensures (escaped c.bytes.invariant.run (record { within = c.bytes-test.true; is = c.if-text-place-eq92.true }));
}

pub bytes-preserved : goal.bytes-preserved
bytes-preserved c =
    let stays : ends_word c.args.kind (get_or c.args.text.now c.bytes.place 0) ≡ false = sym c.ends_field.ensures ∙ c.if-not-ends_field.true in
    record {
      on = omega arith;
      within = omega arith;
      run = bare c.bytes.invariant.run (record { within = c.bytes-test.true; is = refl }) c.if-text-place-eq92.false stays;
    }
