use Rattle.hickory_catalog.proofs.lemmas.transfers.Runs.{runs_once}
use Rattle.hickory_catalog.proofs.lemmas.transfers.TransferReplies.{answers_joined, no_answer_cut}
use Rattle.hickory_catalog.proofs.laws.transfers_in_several_replies.Goals as goal

pub returns-clause-joined : goal.returns-clause-joined
returns-clause-joined c = answers_joined

pub returns-clause-once : goal.returns-clause-once
returns-clause-once c = runs_once

pub returns-clause-uncut : goal.returns-clause-uncut
returns-clause-uncut c = λ request edns records replies are formed edns_formed room. no_answer_cut request edns edns_formed room records replies are formed
