use Rattle.hickory_base.proofs.lemmas.ResultMaps.{if_ok_map}
use Rattle.std.proofs.Common.{refl}
use Rattle.hickory_server.specs.server.ServedBy.{refused}
use Rattle.hickory_server.proofs.lemmas.server.Refusals.{is_either}
use Rattle.hickory_server.proofs.server.service.refuse.Goals as goal

pub refused-requires : goal.refused-requires
refused-requires g c = is_either c.args.rules.now c.args.request.now c.requires

pub returns : goal.returns
returns g c =
    if_ok_map c.refused.result _ _ c.refused.ensures (λ sent (bytes, one, made). refused c.requires (rw (c.nsid.ensures, c.sending.ensures) at made) one refl)
