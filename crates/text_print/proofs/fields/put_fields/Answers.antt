use Rattle.std.proofs.Common.{refl, arith, subst, take, List, string_bytes}
use Rattle.std.proofs.lemmas.List.{take_all}
use Rattle.record_text.specs.declared.data.field.Field.{Field}
use Rattle.record_text.specs.declared.data.field.Field.TheVariants.{Number8}
use Rattle.text_print.specs.PrintedData.{ArePrintedFields, PutsWords}
use Rattle.text_print.proofs.PrintedFields.{fields_init, fields_step, if_some}
use Rattle.text_print.proofs.fields.put_fields.Goals as goal

pub loop-field-init : goal.loop-field-init
loop-field-init c = record { within = omega arith; put = fields_init (string_bytes c.args.out.now) (string_bytes c.args.out.now) refl }

pub loop-field-preserved : goal.loop-field-preserved
loop-field-preserved c =
    let one = if_some _ c.in_ok-len.field-0 c.in-Some.len c.in-Some.is c.in_ok-len.ensures in
    let both = fields_step c.args.fields.now c.loop-field.field-index Number8 c.args.data.now c.loop-field.place c.in-Some.len (string_bytes c.args.out.now) (string_bytes c.loop-field.out) (string_bytes c.put_field.new.out) c.loop-field-test.true c.loop-field.invariant.within c.loop-field.invariant.put one in
    record { within = both.0; put = both.1 }

pub returns-clause-put : goal.returns-clause-put
returns-clause-put c = subst (λ (fs : List Field). PutsWords (λ printed. ArePrintedFields fs printed (take c.loop-field.place c.args.data.now)) (string_bytes c.args.out.now) (string_bytes c.loop-field.out)) (take_all c.loop-field.field-index c.args.fields.now (omega (arith, c.loop-field-test.false))) c.loop-field.invariant.put
