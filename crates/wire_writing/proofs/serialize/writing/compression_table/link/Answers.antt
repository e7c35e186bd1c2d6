use Rattle.std.proofs.Common.{rules, arith, ◌≡◌, ◌++◌, ◌∷◌, [], take_all, get_or, sym, ap, ◌∙◌, subst}
use Rattle.wire_writing.specs.representation.NameTable.{pairs, AreLinked}
use Rattle.wire_writing.specs.declared.serialize.writing.compression_table.Note.{Note}
use Rattle.wire_writing.proofs.lemmas.serialize.writing.LinkedNotes.{AreLinked-none}
use Rattle.wire_writing.proofs.lemmas.serialize.writing.FirstPlaces.{pair, pairs-more}
use Rattle.wire_writing.proofs.serialize.writing.compression_table.link.Goals as goal

pub loop-note-init : goal.loop-note-init
loop-note-init c = (
  ap pairs c.in_ok-linked.ensures.items,
  subst (λ ns. AreLinked ns c.args.lasts.now) (sym c.in_ok-linked.ensures.items) (subst (λ ls. AreLinked [] ls) (sym c.requires) AreLinked-none),
)

pub push_linked-requires-clause-linked : goal.push_linked-requires-clause-linked
push_linked-requires-clause-linked c = c.loop-note.invariant.1

pub loop-note-preserved : goal.loop-note-preserved
loop-note-preserved c =
    let n : Note = get_or c.args.notes.now c.loop-note.note-index (record { suffix = record { ref_ptr = (0, 0); now = [] }; place = 0; before = 0 }) in
    let is : get_or c.args.notes.now c.loop-note.note-index n ≡ n = search rules in (
      c.in_ok-push_linked.ensures.ok ∙ ap (λ ps. ps ++ pair n ∷ []) c.loop-note.invariant.0 ∙ sym (pairs-more c.args.notes.now c.loop-note.note-index n c.loop-note-test.true is),
      c.in_ok-push_linked.ensures.linked,
    )

pub returns-clause-same : goal.returns-clause-same
returns-clause-same c = c.loop-note.invariant.0 ∙ ap pairs (take_all c.loop-note.note-index c.args.notes.now (omega (arith, c.loop-note-test.false)))

pub returns-clause-linked : goal.returns-clause-linked
returns-clause-linked c = c.loop-note.invariant.1
