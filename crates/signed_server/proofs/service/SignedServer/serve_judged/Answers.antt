-- A message without a signature is served as it is.
use Rattle.std.proofs.Common.{sym, ◌∙◌}
use Rattle.hickory_base.proofs.lemmas.ResultMaps.{if_ok_map}
use Rattle.signed_server.specs.ServedWithKeys.ServedWithKeys.{plain}
use Rattle.signed_server.proofs.service.SignedServer.serve_judged.Goals as goal

pub returns-in-Plain-clause-ok : goal.returns-in-Plain-clause-ok
returns-in-Plain-clause-ok g c =
    if_ok_map c.serve.result _ _ c.serve.ensures.ok (λ answer served.
    plain {judgement = c.in-Ok.judgement} c.requires.judging c.in-Ok.ensures.judged (sym c.course_of.ensures ∙ c.in-Plain.is) served)
