use Rattle.std.proofs.Common.{◌≡◌}
use Rattle.server_settings.specs.Settings.{of_zone_only}
use Rattle.toml.specs.View.{members_view}
use Rattle.server_settings.proofs.zones.of_zone_only.Given as goal

abbrev pub invariant-loop-key : goal.invariant-loop-key
invariant-loop-key l = of_zone_only (members_view l.key-iterator) ≡ of_zone_only (members_view l.fn.members.entries)
