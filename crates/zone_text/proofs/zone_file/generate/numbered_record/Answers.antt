use Rattle.std.proofs.Common.{◌≡◌, ◌∙◌, ℕ, List, sym, subst}
use Rattle.std.proofs.lemmas.Result.{err_from_is_err_and}
use Rattle.zone_text.specs.ZoneFiles.{HasWordsOf}
use Rattle.zone_text.proofs.GenerateOnce.{not_moved, same_typed, same_words}
use Rattle.zone_text.proofs.Numbering.{once}
use Rattle.zone_text.proofs.zone_file.generate.numbered_record.Goals as goal

pub returns-in_err-name-clause-refused : goal.returns-in_err-name-clause-refused
returns-in_err-name-clause-refused c =
    let p = err_from_is_err_and c.from_residual.result c.from_residual.ensures.1 in
    rw (p.1, p.2) (λ other r is. c.in_err-name.ensures.refused other r.name is.owner)

pub returns-in_err-data-clause-refused : goal.returns-in_err-data-clause-refused
returns-in_err-data-clause-refused c =
    let p = err_from_is_err_and c.from_residual-in_err-data.result c.from_residual-in_err-data.ensures.1 in
    rw (p.1, p.2) (λ other r is.
    let same : is.text ≡ c.as_slice.result.now = once c.args.rhs.now.quoted c.args.number c.args.rhs.now.bytes.now is.text c.in_ok-text.text.items is.numbered c.in_ok-text.ensures.numbered ∙ sym c.as_slice.ensures.value in
    c.in_err-data.ensures.refused other is.words (subst (λ (t : List ℕ). HasWordsOf t is.words) same is.stand))

pub returns-clause-refused : goal.returns-clause-refused
returns-clause-refused c = λ other r is.
    let same : is.text ≡ c.as_slice.result.now = once c.args.rhs.now.quoted c.args.number c.args.rhs.now.bytes.now is.text c.in_ok-text.text.items is.numbered c.in_ok-text.ensures.numbered ∙ sym c.as_slice.ensures.value in
    let words : HasWordsOf c.as_slice.result.now c.as_slice-2.result.now = subst (HasWordsOf c.as_slice.result.now) (sym c.as_slice-2.ensures.value) c.in_ok-data.ensures.words in
    c.in-Err.ensures.refused (not_moved c.args.rhs.now.start c.args.rhs.now.start c.in-Err.e c.within.result c.within.ensures other) r
    (same_typed c.parameters_once.ensures.same c.args.before.now c.args.front.now.ttl c.args.front.now.record_type is.words c.as_slice-2.result.now r (same_words c.words_stand_once.ensures c.as_slice.result.now is.text is.words c.as_slice-2.result.now same is.stand words) is.is)
