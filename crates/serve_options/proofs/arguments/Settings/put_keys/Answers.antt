-- Each option's own arm: one thing more, where nothing else changes.
use Rattle.std.proofs.Common.{refl, ◌∙◌, ap, not, true, false, Bool, Bor, List, ℕ, ◌≡◌}
use Rattle.std.specs.Prelude.{codes}
use Rattle.serve_options.proofs.Said.{first_one, key_more, keys_gives, say_more, transfer_key_gives}
use Rattle.serve_options.proofs.arguments.Settings.put_keys.Goals as goal
use Rattle.serve_options.proofs.arguments.Settings.put_keys.Goals.{in-text, in-text-2+in_ok-push-in-text-2}

not_there : (some none : Bool) → some ≡ not none → none ≡ true → some ≡ false
not_there some none is there = is ∙ ap not there

pub returns : goal.returns
returns c = λ options say.
    elim c.match-option.branch [
      | in-text w ↦ rw (w.self-is, w.in-text.is)
          (say_more options (codes "--keys") c.args.text.now c.args.self.now _ say
          (keys_gives c.args.text.now c.args.self.now _ (first_one c.args.self.now.keys (λ (f : Bor (List ℕ)). f.now) c.args.text.now (not_there _ _ w.is_none.ensures w.if-is_none.true)) refl refl refl refl refl refl refl refl refl refl refl refl))
      | in-text-2+in_ok-push-in-text-2 w ↦ rw (w.self-is, w.in-text-2.is)
          (say_more options (codes "--allow-transfer-key") c.args.text.now c.args.self.now _ say
          (transfer_key_gives c.args.text.now c.args.self.now _ (key_more _ _ _ w.in_ok-push-in-text-2.ensures.items) refl refl refl refl refl refl refl refl refl refl refl refl))
    ]
