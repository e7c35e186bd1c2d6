use Rattle.std.proofs.Common.{◌≡◌, ◌∙◌, arith, refl, subst, sym, take, true}
use Rattle.std.proofs.lemmas.List.{take_all}
use Rattle.std.proofs.lemmas.List.Elements.{All-more, All-same, recursion_from_All}
use Rattle.wire_messages.specs.declared.rr.rdata.RData.{RData}
use Rattle.wire_messages.specs.declared.rr.record.Record.{Record}
use Rattle.zone_answers.specs.Additionals.{is_hostless}
use Rattle.zone_answers.proofs.additionals.are_hostless.Goals as goal

pub loop-q-preserved : goal.loop-q-preserved
loop-q-preserved c =
    let told : c.is_hostless.result ≡ true = c.if-not-is_hostless.false in
    let here : is_hostless c.q-item.result.rdata ≡ true = sym c.is_hostless.ensures ∙ told in
    All-more (λ (q : Record RData). is_hostless q.rdata ≡ true) c.args.records.now c.loop-q.q-index c.q-item.result (omega arith) c.loop-q.invariant (subst (λ (q : Record RData). is_hostless q.rdata ≡ true) c.q-item.is here)

pub returns : goal.returns
returns c =
    let all : take c.loop-q.q-index c.args.records.now ≡ c.args.records.now = take_all c.loop-q.q-index c.args.records.now (omega arith) in
    (λ ok. recursion_from_All (λ (q : Record RData). is_hostless q.rdata ≡ true) c.args.records.now (All-same (λ (q : Record RData). is_hostless q.rdata ≡ true) c.args.records.now (take c.loop-q.q-index c.args.records.now) (sym all) c.loop-q.invariant), λ ok. refl)
