use Rattle.std.proofs.Common.{◌∙◌, ap, length, arith}
use Rattle.std.specs.Prelude.{unwrap_or, not}
use Rattle.std.proofs.lemmas.List.Sums.{prefix_len-le-length}
use Rattle.name_lists.specs.Words.{is_blank}
use Rattle.name_lists.proofs.Splitting.{or_len}
use Rattle.name_lists.proofs.words.word_len.Goals as goal

pub returns : goal.returns
returns c =
    let is = c.unwrap_or.ensures ∙ ap (λ o. unwrap_or o (length c.args.text.now)) c.first_blank.ensures ∙ or_len is_blank c.args.text.now in
    record { len = is; within = omega (arith, is, prefix_len-le-length (λ b. not (is_blank b)) c.args.text.now) }
