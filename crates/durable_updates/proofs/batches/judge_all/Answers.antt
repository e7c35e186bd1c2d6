-- One request more is judged.
use Rattle.std.proofs.Common.{◌≡◌, ◌∙◌, ◌-◌, ◌++◌, ◌∷◌, [], ℕ, List, ap, arith, drop, length, refl, subst, sym, take}
use Rattle.std.proofs.lemmas.List.{append-nil}
use Rattle.hickory_base.specs.requests.Requests.{ReceivedRequest}
use Rattle.hickory_store.specs.updates.UpdatableZone.{UpdatableZone}
use Rattle.journal.specs.Read.{contents}
use Rattle.durable_updates.specs.Batches.{AnswersEach, accepted, bytes_of}
use Rattle.durable_updates.specs.DurableUpdates.{Told}
use Rattle.durable_updates.proofs.Judging.{front_of, leads_more, more_keeps, none_of, written_more}
use Rattle.durable_updates.proofs.batches.judge_all.Goals as goal

pub loop-rest-preserved : goal.loop-rest-preserved
loop-rest-preserved g c =
    let rest : List (ReceivedRequest × ℕ) = c.loop-rest.rest.now in
    let first : ReceivedRequest × ℕ = c.first-item.result in
    let others : List (ReceivedRequest × ℕ) = take (length rest - 1) (drop 1 rest) in
    let split : rest ≡ first ∷ others = front_of rest first c.in-len1-up.len_at_least c.first-item.is in
    let told : Told = c.in_ok-told.told in
    record {
      leads = leads_more g.V.Verifier c.args.requests.now others first told c.loop-rest.answers.items c.push.new.self.items c.args.zone.now c.loop-rest.zone c.judge.new.zone
          (subst (λ (l : List (ReceivedRequest × ℕ)). (told : List Told) (new : UpdatableZone g.row.V.Denot) → AnswersEach g.V.Verifier l told c.loop-rest.zone new → AnswersEach g.V.Verifier c.args.requests.now (c.loop-rest.answers.items ++ told) c.args.zone.now new) split c.loop-rest.invariant.leads)
          c.in_ok-told.ensures.answers c.in_ok-push.ensures.items;
      written = written_more g.V.Verifier c.args.requests.now others first told c.loop-rest.answers.items c.push.new.self.items (contents c.loop-rest.entries.items) (contents c.judge.new.entries.items)
          (subst (λ (l : List (ReceivedRequest × ℕ)). (told : List Told) → contents c.loop-rest.entries.items ++ bytes_of (accepted l told) ≡ bytes_of (accepted c.args.requests.now (c.loop-rest.answers.items ++ told))) split c.loop-rest.invariant.written)
          c.in_ok-told.ensures.entries c.in_ok-push.ensures.items;
      others = more_keeps c.args.zone.now c.loop-rest.zone c.judge.new.zone c.loop-rest.invariant.others c.judge.ensures.others;
    }

pub returns-clause-answers : goal.returns-clause-answers
returns-clause-answers g c =
    let none : c.loop-rest.rest.now ≡ [] = none_of c.loop-rest.rest.now (omega (arith, c.in_default.len_below)) in
    subst (λ (l : List Told). AnswersEach g.V.Verifier c.args.requests.now l c.args.zone.now c.loop-rest.zone) (append-nil c.loop-rest.answers.items)
    (c.loop-rest.invariant.leads [] c.loop-rest.zone (subst (λ (l : List (ReceivedRequest × ℕ)). AnswersEach g.V.Verifier l [] c.loop-rest.zone c.loop-rest.zone) (sym none) refl))

pub returns-clause-entries : goal.returns-clause-entries
returns-clause-entries g c =
    let none : c.loop-rest.rest.now ≡ [] = none_of c.loop-rest.rest.now (omega (arith, c.in_default.len_below)) in
    sym (append-nil (contents c.loop-rest.entries.items))
    ∙ ap (λ (l : List (ReceivedRequest × ℕ)). contents c.loop-rest.entries.items ++ bytes_of (accepted l [])) (sym none)
    ∙ c.loop-rest.invariant.written []
    ∙ ap (λ (l : List Told). bytes_of (accepted c.args.requests.now l)) (append-nil c.loop-rest.answers.items)
