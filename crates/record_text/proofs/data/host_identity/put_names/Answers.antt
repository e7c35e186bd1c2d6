use Rattle.std.proofs.Common.{◌∙◌, ◌+◌, ◌<◌, ℕ, List, [], ◌++◌, Option, length, take, get_or, sym, ap, subst, append_assoc, append-nil}
use Rattle.std.proofs.lemmas.List.{take_more}
use Rattle.std.proofs.lemmas.Result.{err_from_is_err_and}
use Rattle.std.specs.Option.{option_copied}
use Rattle.wire_names.specs.rr.domain.DomainName.{DomainName}
use Rattle.record_text.specs.declared.data.field.Field.TheVariants as field
use Rattle.text_words.specs.declared.words.Word.{Word}
use Rattle.text_words.specs.Spelling.{Puts}
use Rattle.record_text.specs.RecordText.{AreNames, IsField}
use Rattle.record_text.specs.RecordText.AreNames.{none, more}
use Rattle.record_text.proofs.NoRow.{no_name_at}
use Rattle.record_text.proofs.data.host_identity.put_names.Goals as goal

pub loop-word-init : goal.loop-word-init
loop-word-init c = ([], sym (append-nil c.args.data.now.items), none)

more_names : (origin : Option DomainName) (words : List Word) (i : ℕ) (d : Word) (old before after : List ℕ) → i < length words → Puts (AreNames origin (take i words)) old before → Puts (IsField origin field.Name (get_or words i d)) before after
    → Puts (AreNames origin (take (i + 1) words)) old after
more_names origin words i d old before after below all one = (
  all.0 ++ one.0,
  one.1 ∙ ap (λ (xs : List ℕ). xs ++ one.0) all.1 ∙ append_assoc old all.0 one.0,
  subst (λ (ws : List Word). AreNames origin ws (all.0 ++ one.0)) (sym (take_more words i d below)) (more all.2 one.2),
)

pub loop-word-preserved : goal.loop-word-preserved
loop-word-preserved c = more_names (option_copied c.args.origin) c.args.words.now c.loop-word.word-index _ c.args.data.now.items c.loop-word.data.items c.put_name.new.data.items c.loop-word-test.true c.loop-word.invariant c.in_ok-put_name.ensures.put

pub returns-in_err-put_name-clause-refused : goal.returns-in_err-put_name-clause-refused
returns-in_err-put_name-clause-refused c =
    let p = err_from_is_err_and c.from_residual.result c.from_residual.ensures.1 in
    rw (p.1, p.2) (λ other. no_name_at (option_copied c.args.origin) c.args.words.now c.loop-word.word-index _ c.loop-word-test.true (c.in_err-put_name.ensures.refused other))
