use Rattle.hickory_base.proofs.lemmas.ResultMaps.{if_ok_map}
use Rattle.hickory_server.specs.server.ServedBy.{own, passed}
use Rattle.hickory_server.proofs.server.service.passed.Goals as goal

pub returns-clause-ok : goal.returns-clause-ok
returns-clause-ok g c =
    if_ok_map c.replies_to.result _ _ c.replies_to.ensures.ok (λ sent (replies, answered, made). passed c.requires.passes (own c.requires.not_above answered) (rw c.sending.ensures at made))
