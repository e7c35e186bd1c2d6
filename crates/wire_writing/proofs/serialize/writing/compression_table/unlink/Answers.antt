use Rattle.std.proofs.Common.{rules, ◌≡◌, ◌++◌, ◌∷◌, [], ◌≤◌, length, take, take_all, set, refl, sym, subst, ap, ◌∙◌, arith}
use Rattle.std.proofs.lemmas.List.{take-append-le, length-append}
use Rattle.wire_writing.specs.representation.NameTable.{AreLinked}
use Rattle.wire_writing.proofs.lemmas.serialize.writing.LinkedNotes.{bucket_small, AreLinked-pop}
use Rattle.wire_writing.proofs.serialize.writing.compression_table.unlink.Goals as goal

pub loop-notes-init : goal.loop-notes-init
loop-notes-init c = (c.requires, refl)

pub loop-notes-preserved-in-Some : goal.loop-notes-preserved-in-Some
loop-notes-preserved-in-Some c =
    let n = c.in-Some.note in
    let rest = c.pop.new.self.items in
    let is : c.loop-notes.notes.items ≡ rest ++ n ∷ [] = search rules in
    let linked = AreLinked-pop rest n c.loop-notes.lasts (bucket_small n.suffix.now) (subst (λ ns. AreLinked ns c.loop-notes.lasts) is c.loop-notes.invariant.0) in
    let le : c.args.mark ≤ length rest = omega (arith, ap length is, length-append rest (n ∷ []), c.len.ensures, c.loop-notes-test.true) in (
      subst (λ b. AreLinked rest (set c.loop-notes.lasts b n.before)) (sym c.bucket_of.ensures.is) linked,
      sym (take-append-le c.args.mark rest (n ∷ []) le) ∙ ap (λ xs. take c.args.mark xs) (sym is) ∙ c.loop-notes.invariant.1,
    )

pub returns-clause-notes : goal.returns-clause-notes
returns-clause-notes c = sym (take_all c.args.mark c.loop-notes.notes.items (omega (arith, c.len.ensures, c.loop-notes-test.false))) ∙ c.loop-notes.invariant.1

pub returns-clause-linked : goal.returns-clause-linked
returns-clause-linked c = c.loop-notes.invariant.0
