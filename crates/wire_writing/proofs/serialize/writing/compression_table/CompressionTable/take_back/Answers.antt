use Rattle.std.proofs.Common.{rules, ◌≡◌, ◌≢◌, arith, ◌-◌, ◌++◌, [], None, length, take, drop, sym, subst, ap, ◌∙◌}
use Rattle.std.proofs.lemmas.List.{nil_from_length}
use Rattle.wire_writing.specs.representation.NameTable.{IsTable, IsStored}
use Rattle.wire_writing.proofs.lemmas.serialize.writing.StoredNotes.{first-view, first-take, linked-view, linked-take}
use Rattle.wire_writing.proofs.lemmas.serialize.writing.LinkedNotes.{front_whole}
use Rattle.wire_writing.proofs.serialize.writing.compression_table.CompressionTable.take_back.Goals as goal

pub invariant_of-self : goal.invariant_of-self
invariant_of-self c =
    let lasts = c.self.inside.lasts.items in
    let zero : length lasts ≡ 0 = search rules in
    let made : c.saturating_sub-made.result ≡ c.args.mark - length c.self.inside.asked = search rules in
    first-take c.self.inside.asked c.self.inside.first c.self.inside.notes.items c.self.inside.last_owner c.self.inside.last_target lasts c.self.invariant.0 c.self.invariant.1 (nil_from_length lasts zero) c.args.mark c.truncate.new.self c.truncate-then-is_empty.new.self c.truncate.ensures
    (c.truncate-then-is_empty.ensures ∙ ap (λ n. take n c.self.inside.first) made)

pub invariant_of-self-else-is_empty : goal.invariant_of-self-else-is_empty
invariant_of-self-else-is_empty c =
    let first = c.self.inside.first in
    let lasts = c.self.inside.lasts.items in
    let left = c.unlink.new.notes.items in
    let some : lasts ≢ [] = search rules in
    let made : c.saturating_sub-made.result ≡ c.args.mark - length c.self.inside.asked = search rules in
    let long : length c.unlink.new.lasts ≡ c.self.inside.lasts.len = omega (arith, c.unlink.auto.lasts, c.deref_mut.ensures.len) in
    let back = front_whole c.self.inside.lasts.len c.unlink.new.lasts (drop (length c.unlink.new.lasts) lasts) long in
    subst (λ ls. IsTable c.truncate.new.self (first ++ left) None None ls × IsStored first left ls) (sym back)
    (linked-take c.self.inside.asked first c.self.inside.notes.items c.self.inside.last_owner c.self.inside.last_target lasts c.self.invariant.0 c.self.invariant.1 some left c.unlink.new.lasts c.unlink.ensures.linked c.args.mark c.truncate.new.self c.truncate.ensures
    (c.unlink.ensures.notes ∙ ap (λ n. take n c.self.inside.notes.items) made))

pub returns-then-is_empty : goal.returns-then-is_empty
returns-then-is_empty c =
    let lasts = c.self.inside.lasts.items in
    let zero : length lasts ≡ 0 = search rules in
    let made : c.saturating_sub-made.result ≡ c.args.mark - length c.self.inside.asked = search rules in
    first-view c.self.inside.asked c.self.inside.first c.self.inside.notes.items c.self.inside.last_owner c.self.inside.last_target lasts c.self.invariant.0 c.self.invariant.1 (nil_from_length lasts zero) c.args.mark c.truncate.new.self c.truncate-then-is_empty.new.self c.truncate.ensures
    (c.truncate-then-is_empty.ensures ∙ ap (λ n. take n c.self.inside.first) made)
    ∙ ap (λ xs. take c.args.mark xs) c.self.view_is

pub returns-else-is_empty : goal.returns-else-is_empty
returns-else-is_empty c =
    let lasts = c.self.inside.lasts.items in
    let some : lasts ≢ [] = search rules in
    let made : c.saturating_sub-made.result ≡ c.args.mark - length c.self.inside.asked = search rules in
    linked-view c.self.inside.asked c.self.inside.first c.self.inside.notes.items c.self.inside.last_owner c.self.inside.last_target lasts c.self.invariant.0 c.self.invariant.1 some c.unlink.new.notes.items c.unlink.new.lasts c.unlink.ensures.linked c.args.mark c.truncate.new.self c.truncate.ensures
    (c.unlink.ensures.notes ∙ ap (λ n. take n c.self.inside.notes.items) made)
    ∙ ap (λ xs. take c.args.mark xs) c.self.view_is
