use Rattle.std.proofs.Common.{◌≡◌, ◌∙◌, ◌<◌, ℕ, List, [], ◌++◌, length, take, get_or, sym, ap, subst, refl, append-nil, arith}
use Rattle.std.proofs.lemmas.List.{take_all, take_rest, take-append-drop}
use Rattle.std.proofs.lemmas.Result.{err_from_is_err_and}
use Rattle.std.specs.Option.{option_copied}
use Rattle.record_text.specs.declared.data.field.Field.{Field}
use Rattle.record_text.specs.declared.data.field.Field.TheVariants.{Number8}
use Rattle.text_words.specs.declared.words.Word.{Word}
use Rattle.record_text.specs.RecordText.{AreFields, HasNone, IsField}
use Rattle.record_text.specs.RecordText.AreFields.{none}
use Rattle.record_text.proofs.NoRow.{none_at, too_few}
use Rattle.record_text.proofs.RowSteps.{more_fields}
use Rattle.record_text.proofs.data.fields.put_fields.Goals as goal

pub loop-field-init : goal.loop-field-init
loop-field-init c = record {
  at = refl;
  within = omega arith;
  put = ([], sym (append-nil c.args.data.now.items), none);
}

pub loop-field-preserved : goal.loop-field-preserved
loop-field-preserved c =
    let fields : List Field = c.args.fields.now in
    let words : List Word = c.args.words.now in
    let place : ℕ = c.loop-field.place in
    let i : ℕ = c.loop-field.field-index in
    let at : place ≡ i = c.loop-field.invariant.at in
    let within : place < length words = c.in-Some.ensures.lookup.3.0 in
    record {
      at = omega (arith, at);
      within = omega (arith, within);
      put = more_fields (option_copied c.args.origin) fields words place c.in-Some.word.now Number8 (get_or fields i Number8) c.in-Some.word.now c.args.data.now.items c.loop-field.data.items c.put_field.new.data.items
          (omega (arith, at, c.loop-field-test.true)) within (ap (λ (k : ℕ). get_or fields k Number8) (sym at)) c.in-Some.ensures.lookup.1 c.loop-field.invariant.put c.in_ok-put_field.ensures.put;
    }

pub returns-clause-put : goal.returns-clause-put
returns-clause-put c =
    let fields : List Field = c.args.fields.now in
    let words : List Word = c.args.words.now in
    let place : ℕ = c.loop-field.place in
    let all = c.loop-field.invariant.put in (
      all.0,
      all.1,
      (
        take place words,
        sym (ap (λ (ws : List Word). take place words ++ ws) (take_rest words place) ∙ take-append-drop place words),
        subst (λ (fs : List Field). AreFields (option_copied c.args.origin) fs (take place words) all.0) (take_all place fields (omega (arith, c.loop-field.invariant.at, c.loop-field-test.false))) all.2,
      ),
    )

pub returns-in_err-put_field-clause-refused : goal.returns-in_err-put_field-clause-refused
returns-in_err-put_field-clause-refused c =
    let fields : List Field = c.args.fields.now in
    let words : List Word = c.args.words.now in
    let i : ℕ = c.loop-field.field-index in
    let p = err_from_is_err_and c.from_residual.result c.from_residual.ensures.1 in
    let at : c.loop-field.place ≡ i = c.loop-field.invariant.at in
    let word : c.in-Some.word.now ≡ get_or words i c.in-Some.word.now = c.in-Some.ensures.lookup.1 ∙ ap (λ (k : ℕ). get_or words k c.in-Some.word.now) at in
    rw (p.1, p.2) (λ other. none_at (option_copied c.args.origin) fields words i Number8 c.in-Some.word.now c.loop-field-test.true
    (subst (λ (w : Word). HasNone (IsField (option_copied c.args.origin) (get_or fields i Number8) w)) word (c.in_err-put_field.ensures.refused other)))

pub returns-in_default-clause-refused : goal.returns-in_default-clause-refused
returns-in_default-clause-refused c = λ other. too_few (option_copied c.args.origin) c.args.fields.now c.args.words.now (omega (arith, c.loop-field.invariant.at, c.loop-field-test.true, c.in_default.ensures.lookup))
