use Rattle.std.proofs.Common.{◌≡◌, ◌∙◌, ◌+◌, ◌<◌, ℕ, false, List, [], ◌++◌, length, take, get_or, sym, ap, subst, append_assoc, append-nil}
use Rattle.std.proofs.lemmas.List.{take_more}
use Rattle.std.proofs.lemmas.Result.{err_from_is_err_and}
use Rattle.text_words.specs.declared.words.Word.{Word}
use Rattle.text_words.specs.Spelling.{Puts}
use Rattle.record_text.specs.Prefixes.{ArePrefixes, SpellsPrefix}
use Rattle.record_text.specs.Prefixes.ArePrefixes.{none, more}
use Rattle.record_text.proofs.NoRow.{no_prefix_at}
use Rattle.record_text.proofs.data.prefixes.put_prefixes.Goals as goal

pub loop-word-init : goal.loop-word-init
loop-word-init c = ([], sym (append-nil c.args.data.now.items), none)

more_prefixes : (words : List Word) (i : ℕ) (d : Word) (old before after : List ℕ) → i < length words → (get_or words i d).quoted ≡ false → Puts (ArePrefixes (take i words)) old before → Puts (SpellsPrefix (get_or words i d).bytes.now) before after
    → Puts (ArePrefixes (take (i + 1) words)) old after
more_prefixes words i d old before after below plain all one = (
  all.0 ++ one.0,
  one.1 ∙ ap (λ (xs : List ℕ). xs ++ one.0) all.1 ∙ append_assoc old all.0 one.0,
  subst (λ (ws : List Word). ArePrefixes ws (all.0 ++ one.0)) (sym (take_more words i d below)) (more (get_or words i d) all.2 plain one.2),
)

pub loop-word-preserved : goal.loop-word-preserved
loop-word-preserved c = more_prefixes c.args.words.now c.loop-word.word-index _ c.args.data.now.items c.loop-word.data.items c.put_prefix.new.data.items c.loop-word-test.true c.in_ok-put_prefix.ensures.plain c.loop-word.invariant c.in_ok-put_prefix.ensures.put

pub returns-in_err-put_prefix-clause-refused : goal.returns-in_err-put_prefix-clause-refused
returns-in_err-put_prefix-clause-refused c =
    let p = err_from_is_err_and c.from_residual.result c.from_residual.ensures.1 in
    rw (p.1, p.2) (λ other. no_prefix_at c.args.words.now c.loop-word.word-index _ c.loop-word-test.true (c.in_err-put_prefix.ensures.refused other))
