use Rattle.std.proofs.Common.{◌∙◌, refl, subst, string_bytes, decimal, ℕ}
use Rattle.wire_names.specs.text.TextForm.{spelled_name}
use Rattle.record_text.specs.RecordText.{SpellsType}
use Rattle.text_print.specs.PrintedData.{class_text}
use Rattle.text_print.proofs.PrintedFields.{map_ok}
use Rattle.text_print.proofs.Wholes.{line_made}
use Rattle.text_print.proofs.line.put_record.Goals as goal

pub returns : goal.returns
returns c = map_ok c.put_record_data.result (λ put.
    let type = c.in_ok-put_type.ensures in (
      _,
      line_made (spelled_name c.args.record.now.name) (decimal c.args.record.now.ttl) (class_text c.args.record.now.dns_class) type.0 put.0 (string_bytes c.args.out.now) (string_bytes c.write.new.self) (string_bytes c.put_number.new.out) (string_bytes c.put_class.new.out) (string_bytes c.put_type.new.out)
          (string_bytes c.put_record_data.new.out) c.in_ok-write.ensures.bytes c.in_ok-put_number.ensures c.in_ok-put_class.ensures type.1 put.1,
      record { type = type.0; content = put.0; in_order = refl; typed = subst (λ (n : ℕ). SpellsType type.0 n) (c.value.ensures ∙ c.record_type.ensures) type.3; told = put.2 },
    )) c.put_record_data.ensures.put
