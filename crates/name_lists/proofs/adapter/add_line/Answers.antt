use Rattle.std.proofs.Common.{◌≡◌, ◌==◌, ◌++◌, [], true, false, length, Some, sym, ap, ◌∙◌, subst}
use Rattle.std.specs.String.{string_bytes}
use Rattle.std.proofs.lemmas.List.{append-nil, nil_from_length}
use Rattle.std.proofs.lemmas.Bool.{eqb-true}
use Rattle.name_lists.specs.Gives.{Gives}
use Rattle.name_lists.specs.Names.{plain_lines}
use Rattle.name_lists.proofs.Adapting.{gives_none, takes}
use Rattle.name_lists.proofs.adapter.add_line.Goals as goal

pub returns-then-is_empty : goal.returns-then-is_empty
returns-then-is_empty c =
    let given = rw c.in-Some.is at c.in_ok-names.ensures in
    let empty : string_bytes c.in-Some.names ≡ [] = sym c.as_str.ensures.value ∙ nil_from_length c.as_str.result.now (eqb-true (length c.as_str.result.now) 0 (sym c.is_empty.ensures ∙ c.if-is_empty.true)) in
    let none : given.0 ≡ [] = gives_none given.0 (sym given.2 ∙ empty) in
    record {
      outcome = Some [];
      becomes = subst (Gives c.args.line.now) none given.1;
      handed = sym (append-nil (string_bytes c.args.text.now));
      counts_it = c.count_without_names.ensures;
    }

pub returns : goal.returns
returns c =
    let given = rw c.in-Some.is at c.in_ok-names.ensures in
    let some : given.0 ≡ [] → ⊥ = λ none.
    let e : c.as_str.result.now ≡ [] = c.as_str.ensures.value ∙ given.2 ∙ ap plain_lines none in
    let is : true ≡ false = sym (ap (λ (text : _). length text == 0) e) ∙ sym c.is_empty.ensures ∙ c.if-is_empty.false in absurd cc in
    record {
      outcome = Some given.0;
      becomes = given.1;
      handed = c.in_ok-push_str.ensures.bytes ∙ ap (λ r. string_bytes c.args.text.now ++ r) (c.as_str-2.ensures.value ∙ given.2);
      counts_it = c.count_taken.ensures ∙ takes c.args.report.now given.0 some;
    }
