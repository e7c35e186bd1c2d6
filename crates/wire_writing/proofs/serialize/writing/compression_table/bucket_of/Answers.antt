use Rattle.std.proofs.Common.{◌%◌, ap, ◌∙◌, FoldHasher}
use Rattle.wire_writing.specs.representation.NameTable.{bucket}
use Rattle.std.specs.Hash.FoldHasher.{write}
use Rattle.wire_writing.proofs.serialize.writing.compression_table.bucket_of.Goals as goal

pub returns-clause-is : goal.returns-clause-is
unfolding bucket
returns-clause-is c = ap (λ n. n % 1024) (c.finish.ensures ∙ ap (λ (h : FoldHasher). h.state) (c.write.ensures ∙ ap (λ h. write h c.args.suffix.now) c.default-hasher.ensures))
