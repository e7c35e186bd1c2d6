use Rattle.std.proofs.Common.{rules, ◌≡◌, ◌≢◌, ◌<◌, arith, ◌++◌, length, drop, [], None, sym, subst, ap, ◌∙◌}
use Rattle.std.proofs.lemmas.List.{nil_from_length}
use Rattle.wire_writing.specs.representation.Noted.{first_place}
use Rattle.wire_writing.specs.representation.NameTable.{pairs, IsTable, IsStored}
use Rattle.wire_writing.specs.declared.serialize.writing.compression_table.Note.{Note}
use Rattle.wire_writing.proofs.lemmas.serialize.writing.StoredNotes.{linked-push, first-push}
use Rattle.wire_writing.proofs.lemmas.serialize.writing.LinkedNotes.{front_whole}
use Rattle.wire_writing.proofs.serialize.writing.compression_table.CompressionTable.note.Goals as goal

pub invariant_of-self-then-not-is_empty : goal.invariant_of-self-then-not-is_empty
invariant_of-self-then-not-is_empty c =
    let asked = c.self.inside.asked in
    let first = c.self.inside.first in
    let notes = c.self.inside.notes.items in
    let lasts = c.self.inside.lasts.items in
    let pushed = c.push_linked.new.notes.items in
    let owner = c.self.inside.last_owner in
    let target = c.self.inside.last_target in
    let some : lasts ≢ [] = search rules in
    let fresh : first_place c.args.suffix.now (asked ++ pairs (first ++ notes)) ≡ None = ap (λ ns. first_place c.args.suffix.now ns) c.self.view_is ∙ c.requires.fresh in
    let long : length c.push_linked.new.lasts ≡ c.self.inside.lasts.len = omega (arith, c.push_linked.auto.lasts, c.deref_mut.ensures.len) in
    let back = front_whole c.self.inside.lasts.len c.push_linked.new.lasts (drop (length c.push_linked.new.lasts) lasts) long in
    subst (λ ls. IsTable asked (first ++ pushed) owner target ls × IsStored first pushed ls) (sym back)
    (linked-push asked first notes owner target lasts c.self.invariant.0 c.self.invariant.1 some pushed c.push_linked.new.lasts c.push_linked.ensures.linked c.args.suffix.now c.args.place c.in_ok-push_linked.ensures.ok fresh c.requires.in_range)

pub invariant_of-self-2 : goal.invariant_of-self-2
invariant_of-self-2 c =
    let n : Note = record { suffix = c.args.suffix; place = c.args.place; before = 0 } in
    let asked = c.self.inside.asked in
    let first = c.self.inside.first in
    let notes = c.self.inside.notes.items in
    let lasts = c.self.inside.lasts.items in
    let zero : length lasts ≡ 0 = search rules in
    let short : length first < 16 = search rules in
    let fresh : first_place c.args.suffix.now (asked ++ pairs (first ++ notes)) ≡ None = ap (λ ns. first_place c.args.suffix.now ns) c.self.view_is ∙ c.requires.fresh in
    first-push asked first notes c.self.inside.last_owner c.self.inside.last_target lasts c.self.invariant.0 c.self.invariant.1 (nil_from_length lasts zero) n c.push.new.self c.push.ensures short fresh c.requires.in_range
