use Rattle.hickory_catalog.proofs.lemmas.transfers.TransfersFromPlace.{TransferOn}
use Rattle.hickory_catalog.proofs.transfers.ask_for_transfer.Given as goal

abbrev pub invariant-loop-place : goal.invariant-loop-place
invariant-loop-place g l = TransferOn g.H.ZoneHandler l.request l.fn.now l.chain l.place
