use Rattle.std.proofs.Common.{string_bytes}
use Rattle.text_print.proofs.Behind.{put_base64_word, some_if}
use Rattle.text_print.proofs.Spelled.{slice_bytes}
use Rattle.text_print.proofs.rest.put_base64.Goals as goal

pub returns : goal.returns
returns c = λ yes_it_is. put_base64_word c.args.data.now (string_bytes c.args.out.now) (string_bytes c.push_str.new.self) (string_bytes c.encode_string.new.output) (slice_bytes c.args.data.now c.type_inv.data) (some_if c.args.data.now c.is_empty.result c.is_empty.ensures c.if-is_empty.false) c.in_ok-push_str.ensures.bytes c.in_ok-encode_string.ensures.ok
