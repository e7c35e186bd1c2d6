use Rattle.std.proofs.Common.{arith, length, take, string_bytes}
use Rattle.std.proofs.Math.Seq.{take-length}
use Rattle.text_print.proofs.PrintedFields.{put_text}
use Rattle.text_print.proofs.Spelled.{slice_bytes}
use Rattle.text_print.proofs.fields.put_text.Goals as goal

pub returns : goal.returns
returns c = (omega arith, put_text c.args.data.now (take (length c.args.data.now) c.args.data.now) (string_bytes c.args.out.now) (string_bytes c.put_quoted.new.out) (slice_bytes c.args.data.now c.type_inv.data) (take-length c.args.data.now) c.in_ok-put_quoted.ensures)
