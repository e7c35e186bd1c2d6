use Rattle.std.proofs.Common.{◌≡◌, ◌+◌, ◌<◌, ℕ, false, List, [], ◌∷◌, ◌++◌, length, take, get_or, sym, subst}
use Rattle.std.proofs.lemmas.List.{take_more}
use Rattle.std.proofs.lemmas.Result.{err_from_is_err_and}
use Rattle.text_words.specs.declared.words.Word.{Word}
use Rattle.record_text.specs.RecordText.{ArePorts, SpellsPort}
use Rattle.record_text.specs.RecordText.ArePorts.{none, more}
use Rattle.record_text.proofs.NoRow.{no_port_at}
use Rattle.record_text.proofs.data.ports.ports.Goals as goal

more_ports : (words : List Word) (i : ℕ) (d : Word) (ports after : List ℕ) (port : ℕ) → i < length words → after ≡ ports ++ port ∷ [] → ArePorts (take i words) ports → (get_or words i d).quoted ≡ false
    → SpellsPort (get_or words i d).bytes.now port → ArePorts (take (i + 1) words) after
more_ports words i d ports after port below pushed before unquoted is =
    subst (ArePorts (take (i + 1) words)) (sym pushed) (subst (λ (ws : List Word). ArePorts ws (ports ++ port ∷ [])) (sym (take_more words i d below)) (more (get_or words i d) before unquoted is))

pub loop-word-init : goal.loop-word-init
loop-word-init c = rw c.new-ports.ensures.items none

pub loop-word-preserved : goal.loop-word-preserved
loop-word-preserved c = more_ports c.args.words.now c.loop-word.word-index _ c.loop-word.ports.items c.push.new.self.items c.in_ok-port.field-0 c.loop-word-test.true c.in_ok-push.ensures.items c.loop-word.invariant
    c.in_ok-port.ensures.spelled.0 c.in_ok-port.ensures.spelled.1

pub returns-in_err-port-clause-refused : goal.returns-in_err-port-clause-refused
returns-in_err-port-clause-refused c =
    let p = err_from_is_err_and c.from_residual.result c.from_residual.ensures.1 in
    rw p.1 (λ other. no_port_at c.args.words.now c.loop-word.word-index _ c.loop-word-test.true c.in_err-port.ensures.refused)
