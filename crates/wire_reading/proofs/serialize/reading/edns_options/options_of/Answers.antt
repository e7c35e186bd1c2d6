use Rattle.std.proofs.Common.{arith, refl, ◌≡◌, ◌∙◌, ap, ◌++◌, ◌∷◌, [], ◌<◌, length}
use Rattle.std.proofs.lemmas.Bool.Decides.{nat_tests}
use Rattle.wire_messages.specs.declared.op.edns.EdnsOption.{EdnsOption}
use Rattle.wire_reading.proofs.lemmas.serialize.reading.OptionsRead.{front_option, options_end_early, options_go_on, options_still_fit, collected, malformed}
use Rattle.wire_reading.proofs.serialize.reading.edns_options.options_of.Goals as goal

pub returns-in_default : goal.returns-in_default
returns-in_default c =
    let lt : 0 < length c.options.rest.now = grind (arith, nat_tests) in
    c.new.ensures ∙ malformed c.args.bytes.now (options_end_early c.options.options (length c.args.bytes.now) c.options.rest.now _ c.options.invariant.so_far c.options.invariant.enough lt c.in_default.ensures.none)

pub options-preserved : goal.options-preserved
options-preserved c =
    let rest = c.options.rest.now in
    let lt : 0 < length rest = grind (arith, nat_tests) in
    let option : EdnsOption = record { code = c.in-Some.option.code; bytes = c.in_ok-from_slice.field-0 } in
    let is : option ≡ front_option rest = rw (c.in_ok-from_slice.ensures, c.in-Some.ensures.data, c.in-Some.ensures.code) refl in
    let pushed : c.push.new.self ≡ c.options.options ++ front_option rest ∷ [] = c.in_ok-push.ensures.ok ∙ ap (λ (o : EdnsOption). c.options.options ++ o ∷ []) is in
    let next = options_go_on c.options.options (length c.args.bytes.now) rest _ c.options.invariant.so_far c.options.invariant.enough lt c.in-Some.ensures.whole in
    let fit = options_still_fit c.options.options (length c.args.bytes.now) rest _ c.options.invariant.so_far c.options.invariant.enough lt in
    rw (pushed, c.in-Some.ensures.behind) (record { so_far = next; enough = fit })

pub returns : goal.returns
returns c = collected c.options.options c.args.bytes.now c.options.rest.now c.options.invariant.so_far (grind (arith, nat_tests))
