use Rattle.std.proofs.Common.{◌∙◌, ◌++◌, ◌∷◌, ap, List, ℕ, string_bytes}
use Rattle.text_print.proofs.Behind.{empty_if, put_digits, put_empty, some_if}
use Rattle.text_print.proofs.PrintedFields.{map_ok}
use Rattle.text_print.proofs.Spelled.{slice_bytes}
use Rattle.text_print.proofs.generic.put_generic.Goals as goal

pub returns-then-is_empty : goal.returns-then-is_empty
returns-then-is_empty c = put_empty c.args.data.now (string_bytes c.args.out.now) (string_bytes c.write.new.self) (empty_if c.args.data.now c.is_empty.result c.is_empty.ensures c.if-is_empty.true) c.in_ok-write.ensures.bytes

pub returns : goal.returns
returns c = map_ok c.write-2.result (λ put. put_digits c.args.data.now (string_bytes c.args.out.now) (string_bytes c.write.new.self) (string_bytes c.write-2.new.self) (slice_bytes c.args.data.now c.type_inv.data) (some_if c.args.data.now c.is_empty.result c.is_empty.ensures c.if-is_empty.false) c.in_ok-write.ensures.bytes
    (put ∙ ap (λ (t : List ℕ). string_bytes c.write.new.self ++ 32 ∷ t) c.in_ok-digits.ensures)) c.write-2.ensures.bytes
