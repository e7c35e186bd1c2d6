use Rattle.std.proofs.Common.{rules, arith, ◌≡◌}
use Rattle.wire_writing.specs.representation.NameTable.{bucket}
use Rattle.wire_writing.proofs.lemmas.serialize.writing.LinkedNotes.{bucket_small}
use Rattle.wire_writing.proofs.serialize.writing.compression_table.known_bucket.Goals as goal

pub returns-in-Some-clause-below : goal.returns-in-Some-clause-below
returns-in-Some-clause-below c =
    let e : c.in-Some.known ≡ bucket c.args.suffix.now = search rules in
    omega (arith, e, bucket_small c.args.suffix.now)
