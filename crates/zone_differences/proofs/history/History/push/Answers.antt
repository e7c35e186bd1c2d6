-- It is last, or all are given up.
use Rattle.std.proofs.Common.{◌∙◌, ◌∷◌, []}
use Rattle.zone_differences.proofs.Following.{all_given_up, put_last}
use Rattle.zone_differences.proofs.history.History.push.Goals as goal
use Rattle.zone_differences.proofs.history.History.push.Goals.{in-Err, in-Ok}

pub returns-then-size-self : goal.returns-then-size-self
returns-then-size-self c = all_given_up c.args.self.now (c.args.difference ∷ []) c.clear.new.self c.clear.ensures

pub returns : goal.returns
returns c =
    elim c.match-push.branch [
      | in-Ok w ↦
          put_last c.args.self.now c.make_room.new.self c.self-2.inside.older.items c.self-2.inside.newer.items c.push.new.self.items c.match-push.self c.args.difference
          c.make_room.ensures c.self-2.view_is w.in-Ok.ensures.items w.self-is
      | in-Err w ↦ all_given_up c.args.self.now (c.args.difference ∷ []) c.match-push.self (w.self-is ∙ w.clear-in-Err.ensures)
    ]
