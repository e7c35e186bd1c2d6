use Rattle.std.proofs.Common.{◌≡◌, Some, None, sym, ap, ◌∙◌, subst}
use Rattle.std.specs.Option.{option_map}
use Rattle.std.specs.Cow.{cow_str_bytes}
use Rattle.name_lists.specs.Names.{ascii_text, ReadsName, Spells}
use Rattle.name_lists.proofs.NameLines.{same_text}
use Rattle.name_lists.proofs.names.read_word.Goals as goal

pub returns : goal.returns
returns c text name e s =
    let word = c.args.word.now in
    let some : ascii_text word ≡ Some (cow_str_bytes c.in-Some.text) = sym c.in_ok-text.ensures ∙ ap (option_map cow_str_bytes) c.in-Some.is in
    let same : text ≡ c.as_str.result.now = same_text word text (cow_str_bytes c.in-Some.text) e some ∙ sym c.as_str.ensures.value in
    let none : ReadsName c.as_str.result.now None = subst (ReadsName c.as_str.result.now) c.in-None.is c.in_ok-name.ensures in
    none name (subst (λ x. Spells x name) same s)
