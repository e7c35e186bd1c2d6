use Rattle.std.proofs.Common.{◌≡◌, ◌∙◌, ℕ, List, ◌++◌, length, sym, ap, subst, append_assoc}
use Rattle.std.proofs.lemmas.List.Elements.{All-from_recursion}
use Rattle.std.specs.Int.{w16, to_be_bytes}
use Rattle.wire_messages.specs.declared.op.edns.EdnsOption.{EdnsOption}
use Rattle.wire_messages.specs.rr.RecordData.{IsOption, option_octets}
use Rattle.record_text.proofs.Formed.{put_more}
use Rattle.record_text.proofs.generic.put_options.Goals as goal

pub put_counted-requires : goal.put_counted-requires
put_counted-requires c =
    let one : IsOption c.option-item.result =
    subst IsOption (sym c.option-item.is) (All-from_recursion IsOption c.args.options.now c.requires c.loop-option.option-index c.option-item.result c.loop-option-test.true) in
    one.short

one_option : (option : EdnsOption) (x y z : List ℕ) → y ≡ x ++ to_be_bytes w16 option.code → z ≡ y ++ (to_be_bytes w16 (length option.bytes) ++ option.bytes) → z ≡ x ++ option_octets option
one_option option x y z code rest =
    rest ∙ ap (λ (t : List ℕ). t ++ (to_be_bytes w16 (length option.bytes) ++ option.bytes)) code ∙ append_assoc x (to_be_bytes w16 option.code) (to_be_bytes w16 (length option.bytes) ++ option.bytes)
    ∙ ap (λ (t : List ℕ). x ++ t) (sym (append_assoc (to_be_bytes w16 option.code) (to_be_bytes w16 (length option.bytes)) option.bytes))

pub loop-option-preserved : goal.loop-option-preserved
loop-option-preserved c =
    let whole = one_option c.option-item.result c.loop-option.bytes.items c.write_u16.new.bytes.items c.put_counted.new.bytes.items c.in_ok-write_u16.ensures c.in_ok-put_counted.ensures in
    put_more option_octets c.args.options.now c.loop-option.option-index c.option-item.result c.args.bytes.now.items c.loop-option.bytes.items c.put_counted.new.bytes.items c.loop-option-test.true c.loop-option.invariant
    (whole ∙ ap (λ (o : EdnsOption). c.loop-option.bytes.items ++ option_octets o) c.option-item.is)
