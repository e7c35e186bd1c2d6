-- Each option's own arm: one thing more, where nothing else changes.
use Rattle.std.proofs.Common.{refl, ◌∙◌, ap, not, true, false, Bool, ◌≡◌}
use Rattle.std.specs.Prelude.{codes}
use Rattle.serve_options.proofs.Said.{blocklist_gives, file_more, first_bound, first_one, max_udp_gives, nsid_gives, say_more, zone_gives}
use Rattle.serve_options.proofs.arguments.Settings.put.Goals as goal
use Rattle.serve_options.proofs.arguments.Settings.put.Goals.{in-text+in_ok-zone_argument-in-text+in_ok-push-in-text, in-text-2+in_ok-push-in-text-2, in-text-3, in-text-4+in_ok-max_udp-in-text-4}

not_there : (some none : Bool) → some ≡ not none → none ≡ true → some ≡ false
not_there some none is there = is ∙ ap not there

pub returns : goal.returns
returns c = λ options say.
    elim c.match-option.branch [
      | in-text+in_ok-zone_argument-in-text+in_ok-push-in-text w ↦ rw (w.self-is, w.in-text.is)
          (say_more options (codes "--zone") c.args.text.now c.args.self.now _ say
          (zone_gives c.args.text.now c.args.self.now _ w.in_ok-zone_argument-in-text.field-0 w.in_ok-zone_argument-in-text.ensures.spelled w.in_ok-push-in-text.ensures.items refl refl refl refl refl refl refl refl refl refl refl refl))
      | in-text-2+in_ok-push-in-text-2 w ↦ rw (w.self-is, w.in-text-2.is)
          (say_more options (codes "--blocklist") c.args.text.now c.args.self.now _ say
          (blocklist_gives c.args.text.now c.args.self.now _ (file_more _ _ _ w.in_ok-push-in-text-2.ensures.items) refl refl refl refl refl refl refl refl refl refl refl refl))
      | in-text-3 w ↦ rw (w.self-is, w.in-text-3.is)
          (say_more options (codes "--nsid") c.args.text.now c.args.self.now _ say
          (nsid_gives c.args.text.now c.args.self.now _ (first_one c.args.self.now.identifier _ c.args.text.now (not_there _ _ w.is_none.ensures w.if-is_none.true)) refl refl refl refl refl refl refl refl refl refl refl refl))
      | in-text-4+in_ok-max_udp-in-text-4 w ↦ rw (w.self-is, w.in-text-4.is)
          (say_more options (codes "--max-udp") c.args.text.now c.args.self.now _ say
          (max_udp_gives c.args.text.now c.args.self.now _ w.in_ok-max_udp-in-text-4.field-0 w.in_ok-max_udp-in-text-4.ensures.spelled (first_bound c.args.self.now.max_udp _ (not_there _ _ w.is_none-then-str_eq-4.ensures w.if-is_none-2.true)) refl refl refl refl refl refl refl refl refl refl refl refl))
    ]
