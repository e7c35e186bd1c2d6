use Rattle.std.proofs.Common.{◌≡◌}
use Rattle.server_settings.specs.Settings.{has_only}
use Rattle.toml.specs.View.{members_view}
use Rattle.server_settings.proofs.zones.has_only.Given as goal

abbrev pub invariant-loop-key : goal.invariant-loop-key
invariant-loop-key l =
    has_only l.fn.a l.fn.b l.fn.c (members_view l.key-iterator) ≡ has_only l.fn.a l.fn.b l.fn.c (members_view l.fn.members.entries)
