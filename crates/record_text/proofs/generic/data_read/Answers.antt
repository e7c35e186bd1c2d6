use Rattle.std.proofs.Common.{◌≡◌, refl, rules}
use Rattle.record_text.specs.RecordText.{root_record}
use Rattle.record_text.proofs.Formed.{formed_at, read_there, where_read}
use Rattle.record_text.proofs.generic.data_read.Goals as goal

pub returns-in-Ok-clause-formed : goal.returns-in-Ok-clause-formed
returns-in-Ok-clause-formed c = formed_at c.in-Ok.ensures.found

pub returns-in-Ok-clause-only : goal.returns-in-Ok-clause-only
returns-in-Ok-clause-only c = λ other is.
    let moved = where_read c.new.result c.as_slice.result.now c.in_ok-bytes.bytes.items (root_record c.args.record_type c.args.data.now) is.0 is.1 c.new.ensures c.as_slice.ensures.value c.in_ok-bytes.ensures is.2 in
    let same = (c.in-Ok.ensures.only is.0 is.1 moved (λ e. absurd (cc))).0 in
    let own : other ≡ is.0.rdata = is.3 in
    cc

pub returns-in-Ok-clause-read : goal.returns-in-Ok-clause-read
returns-in-Ok-clause-read c = (
  c.in-Ok.record,
  c.read_record.new.self.place,
  read_there c.new.result c.as_slice.result.now c.in_ok-bytes.bytes.items (root_record c.args.record_type c.args.data.now) c.in-Ok.record c.read_record.new.self.place c.new.ensures c.as_slice.ensures.value c.in_ok-bytes.ensures c.in-Ok.ensures.found,
  refl,
)

pub returns-clause-refused : goal.returns-clause-refused
returns-clause-refused c = λ no_want rdata is.
    let moved = where_read c.new.result c.as_slice.result.now c.in_ok-bytes.bytes.items (root_record c.args.record_type c.args.data.now) is.0 is.1 c.new.ensures c.as_slice.ensures.value c.in_ok-bytes.ensures is.2 in
    let same = (c.in-Err.ensures.only is.0 is.1 moved (λ e. search rules)).0 in
    absurd (cc)
