use Rattle.std.proofs.Common.{[], sym, ◌∙◌, ◌≡◌}
use Rattle.std.specs.List.{remove}
use Rattle.hickory_catalog.specs.queries.Transcripts.{all_consulted}
use Rattle.hickory_catalog.proofs.lemmas.queries.ConsultedFromPlace.{alone, continue_is_answer, continued, skip_without_context, stands}
use Rattle.hickory_catalog.proofs.chains.chain_answer.Goals.{else-is_continue-via-then-is_continue+else-chain-gt1, else-is_continue-via-else-is_continue}
use Rattle.hickory_catalog.proofs.chains.chain_answer.Goals as goal

pub returns-else-is_continue-clause-answers : goal.returns-else-is_continue-clause-answers
returns-else-is_continue-clause-answers g c = elim c.else-is_continue.branch [
  | else-is_continue-via-then-is_continue+else-chain-gt1 w ↦
      let goes_on = sym c.is_continue.ensures ∙ w.if-is_continue.true in
      let nobody : remove c.args.chain.now c.ask.new.answer.place ≡ [] =
      alone c.args.chain.now c.ask.new.answer.place w.if-chain-gt1.false (c.ask.ensures.place (continue_is_answer c.ask.new.answer.given.0 goes_on)) in
      record {
        given = c.ask.new.answer.given;
        asked = c.ask.ensures.asked;
        followed = continued c.ask.new.answer.given.0 c.ask.new.answer.given.1 goes_on (rw nobody all_consulted);
      }
  | else-is_continue-via-else-is_continue w ↦
      record {
        given = c.ask.new.answer.given;
        asked = c.ask.ensures.asked;
        followed = stands _ _ _ _ c.ask.new.answer.given.0 c.ask.new.answer.given.1 (sym c.is_continue.ensures ∙ w.if-is_continue.false) (skip_without_context c.ask.ensures.asked);
      }
]
