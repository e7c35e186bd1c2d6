use Rattle.std.proofs.Common.{◌≡◌, ◌∙◌, ℕ, List, Some, sym, subst}
use Rattle.std.proofs.lemmas.Result.{err_from_is_err_and}
use Rattle.text_words.specs.Spelling.{SpellsName}
use Rattle.zone_text.proofs.FirstFaults.{not_wanting}
use Rattle.zone_text.proofs.Numbering.{once}
use Rattle.zone_text.proofs.zone_file.generate.numbered_owner.Goals as goal

pub returns-in_err-name-clause-refused : goal.returns-in_err-name-clause-refused
returns-in_err-name-clause-refused c =
    let p = err_from_is_err_and c.from_residual-in_err-name.result c.from_residual-in_err-name.ensures.1 in
    rw p.1 (λ other name is.
    let same : is.text ≡ c.as_slice.result.now = once c.args.lhs.now.quoted c.args.number c.args.lhs.now.bytes.now is.text c.in_ok-bytes.bytes.items is.numbered c.in_ok-bytes.ensures.numbered ∙ sym c.as_slice.ensures.value in
    c.in_err-name.ensures.refused (not_wanting _ _ p.2 other) name.labels is.unquoted (subst (λ (t : List ℕ). SpellsName (Some c.args.before.now.origin) t name.labels) same is.spelled) is.short)
