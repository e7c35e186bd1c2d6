use Rattle.std.proofs.Common.{◌≡◌, ◌∙◌, ◌++◌, arith, ap, length, subst, List, ℕ}
use Rattle.wire_messages.specs.rr.RecordData.{type_of}
use Rattle.wire_messages.specs.serialize.writing.FullForm.{data_octets}
use Rattle.record_text.proofs.DataLen.{full_len}
use Rattle.text_print.specs.Printed.{line_of}
use Rattle.text_print.specs.PrintedData.{ArePrintedData}
use Rattle.text_print.proofs.Reading.{text_of_data}
use Rattle.text_print.proofs.data.put_record_data.Goals as goal

pub returns-then-len-gt-MAX_DATA_LEN-clause-long : goal.returns-then-len-gt-MAX_DATA_LEN-clause-long
returns-then-len-gt-MAX_DATA_LEN-clause-long c = λ same.
    let items : c.put_data.new.bytes.items ≡ data_octets c.args.rdata.now = c.in_ok-put_data.ensures ∙ ap (λ (t : List ℕ). t ++ data_octets c.args.rdata.now) c.new-octets.ensures.items in
    omega (arith, c.len.ensures, c.if-len-gt-MAX_DATA_LEN.true, c.put_data.new.bytes.ok.0, ap length items, full_len c.full_forms.ensures.size c.args.rdata.now)

pub returns-clause-put : goal.returns-clause-put
returns-clause-put c =
    let items : c.put_data.new.bytes.items ≡ data_octets c.args.rdata.now = c.in_ok-put_data.ensures ∙ ap (λ (t : List ℕ). t ++ data_octets c.args.rdata.now) c.new-octets.ensures.items in
    let printed = c.in_ok-put_octets.ensures.0 in
    let own : ArePrintedData (type_of c.args.rdata.now) printed (data_octets c.args.rdata.now) =
    subst (λ (n : ℕ). ArePrintedData n printed (data_octets c.args.rdata.now)) c.record_type.ensures (subst (λ (o : List ℕ). ArePrintedData c.record_type.result printed o) (c.as_slice.ensures.value ∙ items) c.in_ok-put_octets.ensures.2) in (
      line_of printed,
      c.in_ok-put_octets.ensures.1,
      text_of_data c.full_forms.ensures.size c.reading_back.ensures.records c.args.rdata.now printed (c.is_formed.ensures.formed c.if-not-is_formed.false) c.is_formed.ensures.names
          (omega (arith, c.len.ensures, c.if-len-gt-MAX_DATA_LEN.false, c.put_data.new.bytes.ok.0, ap length items)) own,
    )
