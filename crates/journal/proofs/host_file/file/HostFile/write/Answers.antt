-- The bounds hold of what was written.
use Rattle.std.proofs.Common.{◌≡◌, ◌+◌, max, length, ap, ◌∙◌, arith}
use Rattle.std.proofs.lemmas.List.{length_push}
use Rattle.journal.proofs.FileLemmas.{length-overlaid}
use Rattle.journal.proofs.host_file.file.HostFile.write.Goals as goal

pub invariant_of-self-2 : goal.invariant_of-self-2
invariant_of-self-2 c =
    let size : length c.overwrite.new.file.items ≡ max (length c.self.inside.bytes.items) (c.args.at + length c.args.bytes.now)
    = ap length c.in_ok-overwrite.ensures.ok ∙ length-overlaid c.self.inside.bytes.items c.args.at c.args.bytes.now in
    (omega (arith, size, c.self.invariant.0), omega (arith, size, c.self.invariant.1, c.max-self-inside.ensures), omega (arith, c.self.invariant.2, ap length c.note.ensures ∙ length_push c.reserve.new.self.items _, ap length c.in_ok-reserve.ensures.items))
