use Rattle.std.proofs.Common.{sym, subst, string_bytes}
use Rattle.record_text.specs.declared.data.field.Rest.{Rest}
use Rattle.text_print.specs.PrintedData.{IsPrintedRest, PutsWords}
use Rattle.text_print.proofs.Behind.{empty_if, put_nothing}
use Rattle.text_print.proofs.rest.put_rest.Goals as goal

pub returns-in-Nothing : goal.returns-in-Nothing
returns-in-Nothing c = λ is. subst (λ (r : Rest). PutsWords (λ printed. IsPrintedRest r printed c.args.data.now) (string_bytes c.args.out.now) (string_bytes c.args.out.now)) (sym c.in-Nothing.is)
    (put_nothing c.args.data.now (string_bytes c.args.out.now) (empty_if c.args.data.now c.is_empty.result c.is_empty.ensures is))
