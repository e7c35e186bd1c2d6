use Rattle.std.proofs.Common.{◌≡◌, Some, arith, length, refl}
use Rattle.std.proofs.lemmas.Grind.{common_steps}
use Rattle.std.proofs.lemmas.Option.{slice_get_read}
use Rattle.std.specs.List.{slice_get}
use Rattle.server.proofs.transfers.give_key_at.Goals as goal

pub returns : goal.returns
returns c =
    let zones = c.args.zones.now.items in
    let was = c.index_mut.result.now in
    let there : slice_get zones c.args.place ≡ Some was = slice_get_read zones (length zones) c.args.place was refl c.requires (grind (arith, common_steps)) in
    record {
      before = was;
      after = record was { keys = c.push.new.self };
      was = there;
      is = refl;
      same_apex = refl;
      changes = record { name = c.in_ok-name.name; named = c.in_ok-name.ensures; given = c.in_ok-push.ensures.items; others = refl };
    }
