use Rattle.hickory_base.proofs.lemmas.requests.MessagesCompared.{compared}
use Rattle.hickory_base.proofs.requests.message_sameness.message_comparisons.Goals as goal

pub returns : goal.returns
returns c = compared _ _ _ _ _ c.header_comparisons.ensures.metadata c.question_comparisons.ensures c.record_comparisons.ensures.records c.signature_comparisons.ensures c.edns_comparisons.ensures.edns
