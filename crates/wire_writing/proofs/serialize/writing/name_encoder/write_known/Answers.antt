use Rattle.std.proofs.Common.{◌∙◌, sym}
use Rattle.wire_writing.proofs.lemmas.serialize.writing.NameSteps.{empty_list, writes_end, writes_pointer, compresses_root, compresses_pointer}
use Rattle.wire_writing.proofs.serialize.writing.name_encoder.write_known.Goals as goal

pub returns-then-is_empty-clause-known : goal.returns-then-is_empty-clause-known
returns-then-is_empty-clause-known c _ =
    let root = empty_list c.args.wire.now (sym c.is_empty.ensures ∙ c.if-is_empty.true) in
    (writes_end _ _ c.args.wire.now _ c.requires.header c.in_ok-push.ensures.items root, compresses_root _ _ c.args.wire.now _ root)

pub returns-in-Some-clause-known : goal.returns-in-Some-clause-known
returns-in-Some-clause-known c _ =
    let at = c.in-Some.ensures.found in
    (writes_pointer _ _ c.args.wire.now _ c.in-Some.place c.requires.header at.0 c.in_ok-write_pointer.ensures at.1, compresses_pointer _ _ c.args.wire.now _ c.in-Some.place c.in_ok-write_pointer.ensures at.1)
