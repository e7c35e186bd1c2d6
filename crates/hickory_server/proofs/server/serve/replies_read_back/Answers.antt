use Rattle.hickory_server.proofs.lemmas.server.DecodedOutcomes.{answers_read, one_has_room, steps_read}
use Rattle.hickory_server.proofs.server.serve.replies_read_back.Goals as goal

pub returns-clause-answers : goal.returns-clause-answers
returns-clause-answers g c = answers_read g.H.ZoneHandler g.S.ReplySigner.signature_for c.replies_of_requests.ensures.requests c.replies_decode.ensures

pub returns-clause-steps : goal.returns-clause-steps
returns-clause-steps g c = steps_read g.H.ZoneHandler g.S.ReplySigner.signature_for c.replies_of_requests.ensures.requests c.replies_decode.ensures c.repeatable_questions.ensures.read

pub returns-clause-room : goal.returns-clause-room
returns-clause-room g c = one_has_room g.H.ZoneHandler g.S.ReplySigner.signature_for c.replies_of_requests.ensures.requests c.replies_of_requests.ensures.edns
