use Rattle.std.proofs.Common.{rules, ◌∙◌, zero, replicate, ap, length, arith}
use Rattle.std.proofs.lemmas.List.{drop-replicate}
use Rattle.std.proofs.lemmas.Slice.{drop-append-drop}
use Rattle.wire_names.specs.rr.domain.DomainName.{cut}
use Rattle.wire_names.proofs.lemmas.rr.domain.WireForm.{wire_short}
use Rattle.wire_names.proofs.rr.domain.order_key.make_order_key.Goals as goal

pub from_array-requires-clause-behind : goal.from_array-requires-clause-behind
from_array-requires-clause-behind c =
    let count = length c.args.wire.now in
    drop-append-drop count (replicate 30 zero) c.fill_plain_key.new.room count (search rules) (search rules) ∙ drop-replicate count 30 zero

pub make_key_in-requires-clause-enough : goal.make_key_in-requires-clause-enough
make_key_in-requires-clause-enough c =
    let short = wire_short (cut c.args.wire.now) c.requires.are in
    omega (arith, short, ap length c.requires.whole)
