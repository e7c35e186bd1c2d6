-- All are the same where those that are left are.
use Rattle.std.proofs.Common.{◌≡◌, length}
use Rattle.std.specs.Cmp.Lexicographic.{pointwise}
use Rattle.hickory_base.specs.requests.Questions.{query_eq}
use Rattle.hickory_base.proofs.requests.message_request.are_same.Given as goal

abbrev pub invariant-loop-rest : goal.invariant-loop-rest
invariant-loop-rest l = pointwise query_eq l.rest l.others ≡ pointwise query_eq l.fn.queries l.fn.others

abbrev pub decreases-loop-rest : goal.decreases-loop-rest
decreases-loop-rest l = length l.rest
