use Rattle.std.proofs.Common.{◌≡◌, ◌∙◌, length, sym, arith}
use Rattle.zone_denials.proofs.lemmas.HashGroups.{eight, no_group}
use Rattle.zone_denials.proofs.hash_labels.group_of.Goals as goal

pub returns-in_default : goal.returns-in_default
returns-in_default c = sym (no_group c.args.text.now (λ size. omega (arith, size, c.in_default.len_below)))

pub returns-in_default-2 : goal.returns-in_default-2
returns-in_default-2 c = sym (no_group c.args.text.now (λ size. omega (arith, size, c.in_default.len_at_least)))

pub returns : goal.returns
returns c =
    let size : length c.args.text.now ≡ 8 = omega arith in
    eight c.args.text.now c.in_ok-a.a c.in_ok-b.b c.in_ok-c.c c.in_ok-d.d c.in_ok-e.e c.in_ok-f.f c.in_ok-g.g c.in_ok-h.h size
    (sym c.in_ok-a.was ∙ c.digit_of.ensures.value) (sym c.in_ok-b.was ∙ c.digit_of-2.ensures.value) (sym c.in_ok-c.was ∙ c.digit_of-3.ensures.value) (sym c.in_ok-d.was ∙ c.digit_of-4.ensures.value)
    (sym c.in_ok-e.was ∙ c.digit_of-5.ensures.value) (sym c.in_ok-f.was ∙ c.digit_of-6.ensures.value) (sym c.in_ok-g.was ∙ c.digit_of-7.ensures.value) (sym c.in_ok-h.was ∙ c.digit_of-8.ensures.value)
