use Rattle.std.proofs.Common.{refl}
use Rattle.hickory_base.proofs.lemmas.ResultMaps.{if_ok_map}
use Rattle.hickory_server.specs.server.ServedBy.{transferred}
use Rattle.hickory_server.proofs.server.service.transferred.Goals as goal

pub returns : goal.returns
returns g c =
    if_ok_map c.transfer_replies.result _ _ c.transfer_replies.ensures (λ sent (replies, replied, made). transferred c.requires replied (rw c.sending.ensures at made) refl)
