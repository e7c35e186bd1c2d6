use Rattle.std.proofs.Common.{◌∷◌, [], ◌++◌, sym, ap, ◌∙◌}
use Rattle.std.specs.String.{string_bytes}
use Rattle.std.specs.Cow.{cow_str_bytes}
use Rattle.name_lists.specs.Names.{qualified}
use Rattle.name_lists.proofs.NameLines.{no_name, gives_name, line_of_one}
use Rattle.name_lists.proofs.names.push_name.Goals as goal

pub returns-in_default : goal.returns-in_default
returns-in_default c names g = no_name c.args.word.now (rw c.in_default.is at c.in_ok-text.ensures) names g

pub returns : goal.returns
returns c =
    let read = rw c.in-Some.is at c.in_ok-text.ensures in
    let name = qualified c.in-Some.name in (
      name ∷ [],
      gives_name c.args.word.now (cow_str_bytes c.in-Some.text) name read.0 read.1.1,
      c.in_ok-push_line.ensures ∙ ap (λ r. string_bytes c.args.names.now ++ r) (sym (line_of_one name)),
    )
