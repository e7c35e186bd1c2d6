use Rattle.std.proofs.Common.{◌≡◌, inl, inr, List, [], ◌∷◌, ◌++◌, rules, refl, sym, ap, ◌∙◌, append_assoc, arith}
use Rattle.std.proofs.lemmas.List.{append-nil, nil_from_length}
use Rattle.hickory_catalog.specs.requests.Server.{server_of}
use Rattle.hickory_server.specs.server.Serving.{none}
use Rattle.hickory_server.specs.declared.server.serve.Incoming.{Incoming}
use Rattle.hickory_server.proofs.lemmas.server.Runs.{leaves_between, others_stay, run_more, step_between}
use Rattle.hickory_server.proofs.server.serve.serve_all.Goals as goal

pub loop-message-init : goal.loop-message-init
loop-message-init g c = (refl, rw c.new-outcomes.ensures.items none, sym c.into_iter-message-iterator.ensures.into_iter_gives.0)

pub returns-then-is_err-clause-err : goal.returns-then-is_err-clause-err
returns-then-is_err-clause-err g c =
    let so_far = c.loop-message.invariant in
    let more : c.loop-message.message-iterator.rest.items ≡ c.in-Some.message ∷ c.next.new.self.rest.items = search rules in
    record {
      front = c.loop-message.yielded;
      message = c.in-Some.message;
      behind = c.next.new.self.rest.items;
      messages_are = so_far.2 ∙ ap (λ (xs : List Incoming). c.loop-message.yielded ++ xs) more;
      between = c.loop-message.catalog.zones;
      run = rw c.reserve.ensures.items so_far.1;
      left = inr (refl, refl);
    }

pub loop-message-preserved : goal.loop-message-preserved
loop-message-preserved g c =
    let so_far = c.loop-message.invariant in
    let more : c.loop-message.message-iterator.rest.items ≡ c.in-Some.message ∷ c.next.new.self.rest.items = search rules in (
      others_stay g.H.ZoneHandler g.S.ReplySigner.signature_for c.args.access.now c.args.catalog.now c.loop-message.catalog so_far.0 c.serve.new.catalog c.in-Ok.ensures.others,
      rw (c.push_reserved.ensures.items, c.reserve.ensures.items)
          (run_more c.args.access.now (server_of g.H.ZoneHandler g.S.ReplySigner.signature_for c.args.catalog.now) c.args.catalog.now.zones c.loop-message.catalog.zones c.serve.new.catalog.zones
          c.loop-message.yielded c.loop-message.outcomes.items c.in-Some.message c.in-Ok.outcome so_far.1
          (step_between g.H.ZoneHandler g.S.ReplySigner.signature_for c.args.access.now c.args.catalog.now c.loop-message.catalog so_far.0 c.in-Some.message c.in-Ok.outcome c.serve.new.catalog.zones c.in-Ok.ensures.ok)),
      so_far.2 ∙ ap (λ (xs : List Incoming). c.loop-message.yielded ++ xs) more ∙ sym (append_assoc c.loop-message.yielded (c.in-Some.message ∷ []) c.next.new.self.rest.items),
    )

pub returns-in-Err-clause-err : goal.returns-in-Err-clause-err
returns-in-Err-clause-err g c =
    let so_far = c.loop-message.invariant in
    let more : c.loop-message.message-iterator.rest.items ≡ c.in-Some.message ∷ c.next.new.self.rest.items = search rules in
    record {
      front = c.loop-message.yielded;
      message = c.in-Some.message;
      behind = c.next.new.self.rest.items;
      messages_are = so_far.2 ∙ ap (λ (xs : List Incoming). c.loop-message.yielded ++ xs) more;
      between = c.loop-message.catalog.zones;
      run = rw c.reserve.ensures.items so_far.1;
      left = inl (leaves_between g.H.ZoneHandler g.S.ReplySigner.signature_for c.args.access.now c.args.catalog.now c.loop-message.catalog so_far.0 c.in-Some.message c.in-Err.e c.serve.new.catalog.zones c.in-Err.ensures.err);
    }

pub returns-clause-ok : goal.returns-clause-ok
returns-clause-ok g c =
    let so_far = c.loop-message.invariant in
    let none_left : c.loop-message.message-iterator.rest.items ≡ [] = nil_from_length _ (omega (arith, c.loop-message.message-iterator.rest.ok, c.in-None.ensures.steps)) in
    let all : c.args.messages.items ≡ c.loop-message.yielded = so_far.2 ∙ ap (λ (xs : List Incoming). c.loop-message.yielded ++ xs) none_left ∙ append-nil c.loop-message.yielded in
    rw all so_far.1
