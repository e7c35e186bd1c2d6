use Rattle.std.proofs.Common.{rules, ◌∙◌, zero, length, replicate}
use Rattle.std.proofs.lemmas.List.{drop-replicate}
use Rattle.std.proofs.lemmas.Slice.{drop-append-drop}
use Rattle.wire_names.proofs.values.wire.ShortBytes.set.Goals as goal

pub invariant_of-self : goal.invariant_of-self
invariant_of-self c =
    let count = length c.args.bytes.now in (
      c.requires,
      drop-append-drop count (replicate 30 zero) c.copy_from_slice.new.self count (search rules) (search rules) ∙ drop-replicate count 30 zero,
    )
