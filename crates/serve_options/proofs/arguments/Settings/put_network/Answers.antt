-- Each option's own arm: one thing more, where nothing else changes.
use Rattle.std.proofs.Common.{refl}
use Rattle.std.specs.Prelude.{codes}
use Rattle.serve_options.proofs.Said.{allow_gives, allow_transfer_gives, deny_gives, deny_transfer_gives, say_more}
use Rattle.serve_options.proofs.arguments.Settings.put_network.Goals as goal
use Rattle.serve_options.proofs.arguments.Settings.put_network.Goals.{in-text+in_ok-network-in-text+in_ok-push-in-text, in-text-2+in_ok-network-in-text-2+in_ok-push-in-text-2, in-text-3+in_ok-network-in-text-3+in_ok-push-in-text-3, in-text-4+in_ok-network-in-text-4+in_ok-push-in-text-4}

pub returns : goal.returns
returns c = λ options say.
    elim c.match-option.branch [
      | in-text+in_ok-network-in-text+in_ok-push-in-text w ↦ rw (w.self-is, w.in-text.is)
          (say_more options (codes "--allow") c.args.text.now c.args.self.now _ say
          (allow_gives c.args.text.now c.args.self.now _ w.in_ok-network-in-text.field-0 w.in_ok-network-in-text.ensures.spelled w.in_ok-push-in-text.ensures.items refl refl refl refl refl refl refl refl refl refl refl refl))
      | in-text-2+in_ok-network-in-text-2+in_ok-push-in-text-2 w ↦ rw (w.self-is, w.in-text-2.is)
          (say_more options (codes "--deny") c.args.text.now c.args.self.now _ say
          (deny_gives c.args.text.now c.args.self.now _ w.in_ok-network-in-text-2.field-0 w.in_ok-network-in-text-2.ensures.spelled w.in_ok-push-in-text-2.ensures.items refl refl refl refl refl refl refl refl refl refl refl refl))
      | in-text-3+in_ok-network-in-text-3+in_ok-push-in-text-3 w ↦ rw (w.self-is, w.in-text-3.is)
          (say_more options (codes "--allow-transfer") c.args.text.now c.args.self.now _ say
          (allow_transfer_gives c.args.text.now c.args.self.now _ w.in_ok-network-in-text-3.field-0 w.in_ok-network-in-text-3.ensures.spelled w.in_ok-push-in-text-3.ensures.items refl refl refl refl refl refl refl refl refl refl refl refl))
      | in-text-4+in_ok-network-in-text-4+in_ok-push-in-text-4 w ↦ rw (w.self-is, w.in-text-4.is)
          (say_more options (codes "--deny-transfer") c.args.text.now c.args.self.now _ say
          (deny_transfer_gives c.args.text.now c.args.self.now _ w.in_ok-network-in-text-4.field-0 w.in_ok-network-in-text-4.ensures.spelled w.in_ok-push-in-text-4.ensures.items refl refl refl refl refl refl refl refl refl refl refl refl))
    ]
