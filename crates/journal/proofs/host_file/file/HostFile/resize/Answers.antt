-- The bounds hold of what was cut or lengthened.
use Rattle.std.proofs.Common.{◌≡◌, length, ap, ◌∙◌, arith}
use Rattle.std.proofs.lemmas.List.{length_push}
use Rattle.sqlite_disk.proofs.EventLemmas.{length-padded}
use Rattle.journal.proofs.host_file.file.HostFile.resize.Goals as goal

pub invariant_of-self-2 : goal.invariant_of-self-2
invariant_of-self-2 c =
    let size : length c.resize.new.file.items ≡ c.args.len = ap length c.in_ok-resize.ensures.ok ∙ length-padded c.self.inside.bytes.items c.args.len in
    (omega (arith, size, c.self.invariant.0, c.min-self-inside.ensures), omega (arith, size, c.self.invariant.1, c.max-self-inside.ensures), omega (arith, c.self.invariant.2, ap length c.note.ensures ∙ length_push c.reserve.new.self.items _, ap length c.in_ok-reserve.ensures.items))
