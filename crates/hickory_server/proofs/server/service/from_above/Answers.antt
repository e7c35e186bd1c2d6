use Rattle.std.proofs.Common.{refl}
use Rattle.hickory_base.proofs.lemmas.ResultMaps.{if_ok_map}
use Rattle.hickory_server.specs.server.ServedBy.{above, passed}
use Rattle.hickory_server.proofs.lemmas.server.Results.{match_map}
use Rattle.hickory_server.proofs.server.service.from_above.Goals as goal

pub returns : goal.returns
returns g c =
    if_ok_map c.replies_from_above.result _ _ c.replies_from_above.ensures
    (λ answer it. match_map answer _ _ _ it (λ sent (zone, replies, asked, replied, made). passed c.requires (above asked replied refl) (rw c.sending.ensures at made)))
