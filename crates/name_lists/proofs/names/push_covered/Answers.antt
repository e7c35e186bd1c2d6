use Rattle.std.proofs.Common.{◌≡◌, ◌∷◌, [], ◌++◌, true, sym, ap, ◌∙◌}
use Rattle.std.specs.String.{string_bytes}
use Rattle.std.specs.Cow.{cow_str_bytes}
use Rattle.std.specs.List.{list_any}
use Rattle.name_lists.specs.Names.{qualified, wildcard_over, plain_line, is_asterisk}
use Rattle.name_lists.proofs.NameLines.{none_below, not_covered, gives_below, lines_of_two}
use Rattle.name_lists.proofs.names.push_covered.Goals as goal

pub returns-in_default : goal.returns-in_default
returns-in_default c names g = none_below c.args.word.now (rw c.in_default.is at c.in_ok-text.ensures) names g

pub returns-then-not-is_covered : goal.returns-then-not-is_covered
returns-then-not-is_covered c =
    let read = rw c.in-Some.is at c.in_ok-text.ensures in
    not_covered c.args.word.now (cow_str_bytes c.in-Some.text) (qualified c.in-Some.name) read.0 read.1.1
    (λ both. let t : c.is_covered.result ≡ true = c.is_covered.ensures.1 (ap (list_any is_asterisk) c.as_str.ensures.value ∙ both.0, both.1) in let f = c.if-not-is_covered.true in absurd cc)

pub returns : goal.returns
returns c =
    let read = rw c.in-Some.is at c.in_ok-text.ensures in
    let name = qualified c.in-Some.name in
    let old = string_bytes c.args.names.now in
    let covers = c.is_covered.ensures.0 c.if-not-is_covered.false in (
      name ∷ wildcard_over name.labels ∷ [],
      gives_below c.args.word.now (cow_str_bytes c.in-Some.text) name read.0
          (record { spells = read.1.1; plain = ap (list_any is_asterisk) (sym c.as_str.ensures.value) ∙ covers.0; room = covers.1 }),
      c.in_ok-push_line-2.ensures ∙ ap (λ r. r ++ plain_line name) (c.in_ok-push_str.ensures.bytes ∙ ap (λ r. r ++ 42 ∷ 46 ∷ []) c.in_ok-push_line.ensures) ∙ lines_of_two old c.in-Some.name read.1.0.some,
    )
