use Rattle.std.proofs.Common.{arith, ◌≡◌, ◌^◌, ◌+◌, ◌<◌, ◌++◌, [], length, Some, sym, subst, ◌∙◌}
use Rattle.wire_names.specs.rr.domain.DomainName.{cut, wire_form}
use Rattle.wire_names.proofs.lemmas.rr.domain.WireForm.{wire_short}
use Rattle.wire_writing.specs.representation.NameTable.{pairs, IsTable}
use Rattle.wire_writing.specs.representation.QuestionNames.{ends_from}
use Rattle.wire_writing.specs.declared.serialize.writing.compression_table.KeptName.{KeptName}
use Rattle.wire_writing.proofs.lemmas.serialize.writing.QuestionEnds.{ends-in_range, whole_noted}
use Rattle.wire_writing.proofs.lemmas.serialize.writing.StoredNotes.{begun}
use Rattle.wire_writing.proofs.serialize.writing.compression_table.CompressionTable.begin.Goals as goal

pub invariant_of-self : goal.invariant_of-self
invariant_of-self c =
    let wire = c.args.wire.now in
    let ends = ends_from 12 (cut wire) in
    let none : c.self.inside.asked ++ pairs (c.self.inside.first ++ c.self.inside.notes.items) ≡ [] = c.self.view_is ∙ c.requires.none in
    let high : 12 + length (wire_form (cut wire)) < 2 ^ 14 = omega (arith, wire_short (cut wire) c.requires.wire.are) in
    let some : 0 < length (cut wire) = omega (arith, c.if-count-gt0.true, c.requires.count) in
    let kept : KeptName = record { wire = c.args.wire; place = 12 } in (
      subst (λ ns. IsTable ns (c.self.inside.first ++ c.self.inside.notes.items) (Some kept) c.self.inside.last_target c.self.inside.lasts.items) (sym c.new-self-inside.ensures)
          (begun c.self.inside.asked c.self.inside.first c.self.inside.notes.items c.self.inside.last_owner c.self.inside.last_target c.self.inside.lasts.items c.self.invariant.0 c.self.invariant.1 none ends (Some kept) (ends-in_range 12 (cut wire) (omega arith) high) (whole_noted wire c.requires.wire some)),
      c.self.invariant.1,
    )
