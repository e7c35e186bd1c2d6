use Rattle.std.proofs.Common.{rules, ◌≡◌, ◌++◌, length, None, Some, IfSome, sym, subst, ap, ◌∙◌}
use Rattle.std.proofs.lemmas.List.{nil_from_length}
use Rattle.wire_writing.specs.representation.Noted.{Notes, IsPlace, first_place}
use Rattle.wire_writing.specs.representation.NameTable.{pairs}
use Rattle.wire_writing.proofs.lemmas.serialize.writing.FirstPlaces.{first_place-behind, first_place-front, first_place-in_range}
use Rattle.wire_writing.proofs.lemmas.serialize.writing.StoredNotes.{only_first}
use Rattle.wire_writing.proofs.serialize.writing.compression_table.CompressionTable.find.Goals as goal
use Rattle.wire_writing.proofs.serialize.writing.compression_table.CompressionTable.find.Goals.{In-Some, After-find_in, After-find_linked}

-- where the name of the question ends so
module _ (c : In-Some) where
  abbrev all : Notes
  all = c.self.inside.asked ++ pairs (c.self.inside.first ++ c.self.inside.notes.items)

  asked : Some c.in-Some.place ≡ first_place c.args.suffix.now all
  asked = sym (first_place-front c.args.suffix.now c.in-Some.place c.self.inside.asked (pairs (c.self.inside.first ++ c.self.inside.notes.items)) (sym c.in-Some.ensures))

pub returns-in-Some-clause-found : goal.returns-in-Some-clause-found
returns-in-Some-clause-found c = asked c ∙ ap (λ ns. first_place c.args.suffix.now ns) c.self.view_is

pub returns-in-Some-clause-in_range : goal.returns-in-Some-clause-in_range
returns-in-Some-clause-in_range c = subst (λ o. IfSome o (λ p. IsPlace p)) (sym (asked c)) (first_place-in_range c.args.suffix.now (all c) c.self.invariant.0.in_range)

-- where it does not, and the notes lie in the table itself
module _ (c : After-find_in) where
  here : c.find_in.result ≡ first_place c.args.suffix.now (c.self.inside.asked ++ pairs (c.self.inside.first ++ c.self.inside.notes.items))
  here =
      let none : first_place c.args.suffix.now c.self.inside.asked ≡ None = search rules in
      let zero : length c.self.inside.lasts.items ≡ 0 = search rules in
      let made = only_first c.self.inside.asked c.self.inside.first c.self.inside.notes.items c.self.inside.last_owner c.self.inside.last_target c.self.inside.lasts.items c.self.invariant.0 c.self.invariant.1 (nil_from_length c.self.inside.lasts.items zero) in
      c.find_in.ensures ∙ ap (λ ns. first_place c.args.suffix.now (pairs ns)) (c.as_slice.ensures.value ∙ sym made)
      ∙ sym (first_place-behind c.args.suffix.now c.self.inside.asked (pairs (c.self.inside.first ++ c.self.inside.notes.items)) none)

pub returns-then-is_empty-clause-found : goal.returns-then-is_empty-clause-found
returns-then-is_empty-clause-found c = here c ∙ ap (λ ns. first_place c.args.suffix.now ns) c.self.view_is

pub returns-then-is_empty-clause-in_range : goal.returns-then-is_empty-clause-in_range
returns-then-is_empty-clause-in_range c =
    let all = c.self.inside.asked ++ pairs (c.self.inside.first ++ c.self.inside.notes.items) in
    subst (λ o. IfSome o (λ p. IsPlace p)) (sym (here c)) (first_place-in_range c.args.suffix.now all c.self.invariant.0.in_range)

-- and where they are linked
module _ (c : After-find_linked) where
  linked : c.find_linked.result ≡ first_place c.args.suffix.now (c.self.inside.asked ++ pairs (c.self.inside.first ++ c.self.inside.notes.items))
  linked =
      let none : first_place c.args.suffix.now c.self.inside.asked ≡ None = search rules in
      let e : c.find_linked.result ≡ first_place c.args.suffix.now (pairs (c.self.inside.first ++ c.self.inside.notes.items)) = search rules in
      e ∙ sym (first_place-behind c.args.suffix.now c.self.inside.asked (pairs (c.self.inside.first ++ c.self.inside.notes.items)) none)

pub returns-else-is_empty-clause-found : goal.returns-else-is_empty-clause-found
returns-else-is_empty-clause-found c = linked c ∙ ap (λ ns. first_place c.args.suffix.now ns) c.self.view_is

pub returns-else-is_empty-clause-in_range : goal.returns-else-is_empty-clause-in_range
returns-else-is_empty-clause-in_range c =
    let all = c.self.inside.asked ++ pairs (c.self.inside.first ++ c.self.inside.notes.items) in
    subst (λ o. IfSome o (λ p. IsPlace p)) (sym (linked c)) (first_place-in_range c.args.suffix.now all c.self.invariant.0.in_range)
