use Rattle.std.proofs.Common.{◌≡◌, take}
use Rattle.hickory_base.specs.requests.RequestForm.{questions_form}
use Rattle.hickory_base.proofs.requests.request_encoding.question_bytes.Given as goal

abbrev pub invariant-loop-query : goal.invariant-loop-query
invariant-loop-query l = l.bytes.items ≡ questions_form (take l.query-index l.queries)
