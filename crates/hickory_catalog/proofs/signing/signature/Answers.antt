use Rattle.hickory_catalog.specs.replies.Signing.{answered, unwritable}
use Rattle.hickory_catalog.proofs.lemmas.queries.QueryReplies.{if_err_map, if_ok_map}
use Rattle.hickory_catalog.proofs.signing.signature.Goals as goal

pub returns-in-Ok-clause-signed : goal.returns-in-Ok-clause-signed
returns-in-Ok-clause-signed g c =
    if_ok_map c.sign.result _ _ c.sign.ensures.signed (λ s is. answered c.in-Ok.ensures.written.1 (rw c.as_slice.ensures.value at is))

pub returns-in-Ok-clause-failed : goal.returns-in-Ok-clause-failed
returns-in-Ok-clause-failed g c =
    if_err_map c.sign.result _ _ c.sign.ensures.failed (λ e is other. answered c.in-Ok.ensures.written.1 (rw c.as_slice.ensures.value at is other))

pub returns-in-Err-clause-failed : goal.returns-in-Err-clause-failed
returns-in-Err-clause-failed g c = λ other. unwritable (c.in-Err.ensures.refused (λ is. other (c.writing_error.ensures.memory is)))
