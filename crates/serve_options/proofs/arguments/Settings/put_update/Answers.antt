-- Each option's own arm: one thing more, where nothing else changes.
use Rattle.std.proofs.Common.{refl}
use Rattle.std.specs.Prelude.{codes}
use Rattle.serve_options.proofs.Said.{journal_gives, say_more, update_gives}
use Rattle.serve_options.proofs.arguments.Settings.put_update.Goals as goal
use Rattle.serve_options.proofs.arguments.Settings.put_update.Goals.{in-text+in_ok-update_argument-in-text+in_ok-push-in-text, in-text-2+in_ok-zone_argument-in-text-2+in_ok-push-in-text-2}

pub returns : goal.returns
returns c = λ options say.
    elim c.match-option.branch [
      | in-text+in_ok-update_argument-in-text+in_ok-push-in-text w ↦ rw (w.self-is, w.in-text.is)
          (say_more options (codes "--allow-update") c.args.text.now c.args.self.now _ say
          (update_gives c.args.text.now c.args.self.now _ w.in_ok-update_argument-in-text.field-0 w.in_ok-update_argument-in-text.ensures.spelled w.in_ok-push-in-text.ensures.items refl refl refl refl refl refl refl refl refl refl refl refl))
      | in-text-2+in_ok-zone_argument-in-text-2+in_ok-push-in-text-2 w ↦ rw (w.self-is, w.in-text-2.is)
          (say_more options (codes "--journal") c.args.text.now c.args.self.now _ say
          (journal_gives c.args.text.now c.args.self.now _ w.in_ok-zone_argument-in-text-2.field-0 w.in_ok-zone_argument-in-text-2.ensures.spelled w.in_ok-push-in-text-2.ensures.items refl refl refl refl refl refl refl refl refl refl refl refl))
    ]
