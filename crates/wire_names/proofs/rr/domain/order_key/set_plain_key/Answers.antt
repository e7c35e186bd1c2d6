use Rattle.std.proofs.Common.{rules, ◌∙◌, zero, replicate, length}
use Rattle.std.proofs.lemmas.List.{drop-replicate}
use Rattle.std.proofs.lemmas.Slice.{drop-append-drop}
use Rattle.wire_names.proofs.rr.domain.order_key.set_plain_key.Goals as goal

pub from_array-requires-clause-behind : goal.from_array-requires-clause-behind
from_array-requires-clause-behind c =
    let count = length c.args.wire.now in
    drop-append-drop count (replicate 30 zero) c.fill_plain_key.new.room count (search rules) (search rules) ∙ drop-replicate count 30 zero
