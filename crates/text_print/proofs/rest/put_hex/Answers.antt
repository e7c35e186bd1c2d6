use Rattle.std.proofs.Common.{◌∙◌, ◌++◌, ◌∷◌, ap, List, ℕ, string_bytes}
use Rattle.text_print.proofs.Behind.{put_hex_word, some_if}
use Rattle.text_print.proofs.Spelled.{slice_bytes}
use Rattle.text_print.proofs.rest.put_hex.Goals as goal

pub returns : goal.returns
returns c = λ yes_it_is. put_hex_word c.args.data.now (string_bytes c.args.out.now) (string_bytes c.write.new.self) (slice_bytes c.args.data.now c.type_inv.data) (some_if c.args.data.now c.is_empty.result c.is_empty.ensures c.if-is_empty.false)
    (c.in_ok-write.ensures.bytes ∙ ap (λ (t : List ℕ). string_bytes c.args.out.now ++ 32 ∷ t) c.in_ok-digits.ensures)
