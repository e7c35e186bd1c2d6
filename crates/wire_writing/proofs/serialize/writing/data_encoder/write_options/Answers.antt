use Rattle.std.proofs.Common.{◌≡◌, ◌∙◌, ◌++◌, ℕ, List, ap, sym, subst, rules, arith}
use Rattle.wire_messages.specs.rr.RecordData.{option_octets, IsOption}
use Rattle.std.proofs.lemmas.List.{append_assoc, take_all}
use Rattle.std.specs.List.{AllByRecursion}
use Rattle.wire_messages.proofs.lemmas.serialize.layout.Ranges.{front_more}
use Rattle.wire_messages.proofs.lemmas.serialize.writing.OctetLengths.{flat_map-front, flat_map-more, fitted}
use Rattle.wire_writing.proofs.serialize.writing.data_encoder.write_options.Goals as goal

-- an option that is put behind others
option_put : (o x y z f n a b : List ℕ) → y ≡ x ++ a → z ≡ y ++ b → x ≡ o ++ f → n ≡ f ++ (a ++ b) → z ≡ o ++ n
option_put o x y z f n a b h2 h3 h1 hn = h3 ∙ ap (λ t. t ++ b) (h2 ∙ ap (λ t. t ++ a) h1) ∙ append_assoc (o ++ f) a b ∙ append_assoc o f (a ++ b) ∙ ap (λ t. o ++ t) (sym hn)

pub write_counted-requires : goal.write_counted-requires
write_counted-requires c =
    let front = flat_map-front option_octets c.args.options.now c.loop-option.option-index c.option-item.result c.loop-option-test.true c.option-item.is in
    omega (arith, front, fitted _ c.requires)

pub loop-option-preserved : goal.loop-option-preserved
loop-option-preserved c =
    let front = flat_map-front option_octets c.args.options.now c.loop-option.option-index c.option-item.result c.loop-option-test.true c.option-item.is in
    let one : IsOption c.option-item.result = record { code = search rules; short = omega (arith, front, fitted _ c.requires) } in
    record {
      written = option_put _ _ _ _ _ _ _ _ c.in_ok-write_u16.ensures c.in_ok-write_counted.ensures c.loop-option.invariant.written
          (flat_map-more option_octets c.args.options.now c.loop-option.option-index c.option-item.result c.loop-option-test.true c.option-item.is);
      in_range = front_more IsOption c.args.options.now c.loop-option.option-index c.option-item.result c.loop-option-test.true c.option-item.is c.loop-option.invariant.in_range one;
    }

pub returns-clause-in_range : goal.returns-clause-in_range
returns-clause-in_range c = subst (AllByRecursion IsOption) (take_all c.loop-option.option-index c.args.options.now c.loop-option-test.false) c.loop-option.invariant.in_range
