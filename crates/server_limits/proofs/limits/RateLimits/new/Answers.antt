use Rattle.std.proofs.Common.{◌*◌, List, ap, rules}
use Rattle.server_limits.specs.Limits.{Limits}
use Rattle.server_limits.specs.declared.limits.Place.{Place}
use Rattle.server_limits.proofs.limits.RateLimits.new.Goals as goal

pub returns : goal.returns
returns c =
    let places = c.in_ok-vec.ensures.items_if_clones_equal (λ y is. search rules) in
    let with_places : List Place → Limits = λ ps. record { limit = c.args.rate * c.args.window; slip = c.args.slip; window = c.args.window; places = ps } in
    ap with_places places
