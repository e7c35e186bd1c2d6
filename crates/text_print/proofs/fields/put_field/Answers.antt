use Rattle.std.proofs.Common.{sym, subst, string_bytes}
use Rattle.record_text.specs.declared.data.field.Field.{Field}
use Rattle.text_print.proofs.PrintedFields.{Puts, as_moment, as_named16, as_named8, as_number16, as_number32, as_number8, as_time}
use Rattle.text_print.proofs.fields.put_field.Goals as goal

pub returns-in-Number8 : goal.returns-in-Number8
returns-in-Number8 c = subst (λ (f : Field). Puts f c.args.data.now (string_bytes c.args.out.now) (string_bytes c.put_number8.new.out) c.put_number8.result) (sym c.in-Number8.is) (as_number8 c.args.data.now (string_bytes c.args.out.now) (string_bytes c.put_number8.new.out) c.put_number8.result c.put_number8.ensures)

pub returns-in-Named8 : goal.returns-in-Named8
returns-in-Named8 c = subst (λ (f : Field). Puts f c.args.data.now (string_bytes c.args.out.now) (string_bytes c.put_number8-in-Named8.new.out) c.put_number8-in-Named8.result) (sym c.in-Named8.is) (as_named8 c.args.data.now (string_bytes c.args.out.now) (string_bytes c.put_number8-in-Named8.new.out) c.put_number8-in-Named8.result c.in-Named8.field-0 c.put_number8-in-Named8.ensures)

pub returns-in-Number16 : goal.returns-in-Number16
returns-in-Number16 c = subst (λ (f : Field). Puts f c.args.data.now (string_bytes c.args.out.now) (string_bytes c.put_number16.new.out) c.put_number16.result) (sym c.in-Number16.is) (as_number16 c.args.data.now (string_bytes c.args.out.now) (string_bytes c.put_number16.new.out) c.put_number16.result c.put_number16.ensures)

pub returns-in-Named16 : goal.returns-in-Named16
returns-in-Named16 c = subst (λ (f : Field). Puts f c.args.data.now (string_bytes c.args.out.now) (string_bytes c.put_number16-in-Named16.new.out) c.put_number16-in-Named16.result) (sym c.in-Named16.is) (as_named16 c.args.data.now (string_bytes c.args.out.now) (string_bytes c.put_number16-in-Named16.new.out) c.put_number16-in-Named16.result c.in-Named16.field-0 c.put_number16-in-Named16.ensures)

pub returns-in-Number32 : goal.returns-in-Number32
returns-in-Number32 c = subst (λ (f : Field). Puts f c.args.data.now (string_bytes c.args.out.now) (string_bytes c.put_number32.new.out) c.put_number32.result) (sym c.in-Number32.is) (as_number32 c.args.data.now (string_bytes c.args.out.now) (string_bytes c.put_number32.new.out) c.put_number32.result c.put_number32.ensures)

pub returns-in-Time : goal.returns-in-Time
returns-in-Time c = subst (λ (f : Field). Puts f c.args.data.now (string_bytes c.args.out.now) (string_bytes c.put_number32-in-Time.new.out) c.put_number32-in-Time.result) (sym c.in-Time.is) (as_time c.args.data.now (string_bytes c.args.out.now) (string_bytes c.put_number32-in-Time.new.out) c.put_number32-in-Time.result c.put_number32-in-Time.ensures)

pub returns-in-Moment : goal.returns-in-Moment
returns-in-Moment c =
    subst (λ (f : Field). Puts f c.args.data.now (string_bytes c.args.out.now) (string_bytes c.put_number32-in-Moment.new.out) c.put_number32-in-Moment.result) (sym c.in-Moment.is)
    (as_moment c.args.data.now (string_bytes c.args.out.now) (string_bytes c.put_number32-in-Moment.new.out) c.put_number32-in-Moment.result c.put_number32-in-Moment.ensures)
