use Rattle.std.proofs.Common.{◌++◌, true, ap, ◌∙◌, subst}
use Rattle.std.specs.String.{string_bytes}
use Rattle.name_lists.specs.Gives.{GivesWords}
use Rattle.name_lists.specs.Names.{plain_lines}
use Rattle.name_lists.specs.Pushes.{Pushes}
use Rattle.name_lists.specs.Words.{words_before_comment}
use Rattle.name_lists.proofs.gives.read_line.Goals as goal

pub returns-then-branch : goal.returns-then-branch
returns-then-branch c =
    let old = string_bytes c.new-names.result in
    let new = string_bytes c.push_words.new.names in
    let given : Pushes (GivesWords (words_before_comment c.before-text.result.now)) true old new =
    subst (λ b. Pushes (GivesWords (words_before_comment c.before-text.result.now)) b old new) c.if-branch.true c.in_ok-push_words.ensures in (
      given.0,
      subst (λ text. GivesWords (words_before_comment text) given.0) c.before-text.ensures given.1,
      given.2 ∙ ap (λ bs. bs ++ plain_lines given.0) c.new-names.ensures.bytes,
    )
