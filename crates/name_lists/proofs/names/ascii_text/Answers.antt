use Rattle.std.proofs.Common.{sym, ◌∙◌}
use Rattle.std.proofs.lemmas.Str.{IsUtf8-from_ascii}
use Rattle.name_lists.proofs.NameLines.{ascii_from_all}
use Rattle.name_lists.proofs.names.ascii_text.Goals as goal

pub returns-in-Err : goal.returns-in-Err
returns-in-Err c =
    let word = c.args.word.now in
    absurd (c.in-Err.ensures.cases.0 (IsUtf8-from_ascii word (ascii_from_all word (sym c.is_ascii.ensures ∙ c.if-is_ascii.true))))
