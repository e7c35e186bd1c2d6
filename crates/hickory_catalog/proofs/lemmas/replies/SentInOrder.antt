-- From replies that were taken one after the other to what was handed over.
use Rattle.std.proofs.Common.{◌≡◌, inl, inr, ℕ, ◌+◌, ◌%◌, ◌^◌, ◌<◌, ◌≤◌, arith, Option, List, [], ◌∷◌, ◌++◌, length, map, take, drop, refl, sym, ap, subst, ◌∙◌, append_assoc}
use Rattle.std.specs.List.{AllZip}
use Rattle.std.proofs.lemmas.List.{append-nil, map-append}
use Rattle.wire_messages.specs.op.EdnsFields.{EdnsFields}
use Rattle.wire_messages.specs.serialize.writing.Reply.{Reply}
use Rattle.wire_messages.specs.declared.op.header.Header.{Header}
use Rattle.wire_messages.specs.declared.op.header.Metadata.{Metadata}
use Rattle.wire_messages.specs.declared.rr.rdata.RData.{RData}
use Rattle.wire_messages.specs.declared.rr.record.Record.{Record}
use Rattle.hickory_base.specs.declared.requests.message_request.MessageRequest.{MessageRequest}
use Rattle.hickory_base.specs.declared.responses.response_handler.ResponseHandler.{Ghosts}
use Rattle.hickory_catalog.specs.representation.Runs.{IsRoom, IsRunLength}
use Rattle.hickory_catalog.specs.replies.Sending.{AreTaken, Fails, Sends, SendsInOrder, Takes, ended, whole}
use Rattle.hickory_catalog.specs.transfers.Transfers.{AreRuns, message_of_transfer}
use Rattle.hickory_catalog.proofs.lemmas.transfers.Runs.{run_first, run_last, runs_exist}

zip_more : {A B : Type 0} (R : A → B → Type 0) (xs : List A) (ys : List B) (x : A) (y : B) → AllZip R xs ys → R x y → AllZip R (xs ++ x ∷ []) (ys ++ y ∷ [])
zip_more R [] [] x y all r = (r, tt)
zip_more R [] (b ∷ bs) x y all r = absurd all
zip_more R (a ∷ rest) [] x y all r = absurd all
zip_more R (a ∷ rest) (b ∷ bs) x y all r = (all.0, zip_more R rest bs x y all.1 r)

-- a count that went up is not as it was
raised : (old between new : ℕ) → new ≡ (between + 1) % 2 ^ 64 → between ≡ old → new ≡ old → ⊥
raised old between new counted same e = omega (arith, counted, same, e)

module _ {S Entry Settings : Type 0} (sink : Ghosts S Entry Settings) where
  pub none_taken : (old : S) → AreTaken sink old old []
  none_taken old = record { settled = refl; uncounted = refl; added = []; shown = tt; grew = sym (append-nil (sink.entries old)) }

  one_more_taken : (old between new : S) (earlier : List Reply) (reply : Reply) (told : Header) → AreTaken sink old between earlier → Takes sink between new reply told
      → AreTaken sink old new (earlier ++ reply ∷ [])
  one_more_taken old between new earlier reply told taken took =
      let entry = took.1.added.entry in
      record {
        settled = took.0 ∙ taken.settled;
        uncounted = took.1.uncounted ∙ taken.uncounted;
        added = taken.added ++ entry ∷ [];
        shown = zip_more (sink.shows (sink.settings old)) earlier taken.added reply entry taken.shown
            (subst (λ (settings : Settings). sink.shows settings reply entry) taken.settled took.1.added.is_held.0);
        grew = took.1.added.grew ∙ ap (λ (xs : List Entry). xs ++ entry ∷ []) taken.grew ∙ append_assoc (sink.entries old) taken.added (entry ∷ []);
      }

  -- one reply, handed over by itself
  pub sent_alone : (request : Metadata) (old new : S) (reply : Reply) (told : Header) → Sends sink request old new reply told → SendsInOrder sink request old new (reply ∷ []) told
  sent_alone request old new reply told sent = whole refl (none_taken old) sent

  -- where the sink counted no failure it took all
  pub all_taken : (request : Metadata) (old new : S) (replies : List Reply) (told : Header) → SendsInOrder sink request old new replies told → sink.failures new ≡ sink.failures old → AreTaken sink old new replies
  all_taken request old new replies told (whole {earlier = earlier} {reply = reply} {between = between} is taken (settled, inl took)) e =
      subst (AreTaken sink old new) (sym is) (one_more_taken old between new earlier reply told taken (settled, took))
  all_taken request old new replies told (whole is taken (settled, inr failed)) e = absurd (raised _ _ _ failed.counted taken.uncounted e)
  all_taken request old new replies told (ended later is taken (settled, failed)) e = absurd (raised _ _ _ failed.counted taken.uncounted e)

  module _ (request : MessageRequest) (edns : Option EdnsFields) (front room : ℕ) (old : S) (records : List (Record RData)) where
    abbrev message : List (Record RData) → Reply
    message run = message_of_transfer request edns run

    -- The messages of some runs were taken, and the rest is to follow, of which so many records are next.
    pub record RunsSoFar (now : S) (rest : List (Record RData)) (len : ℕ) : Type 0 where
      pub sent : List (List (Record RData))
      pub leads : (runs : List (List (Record RData))) → AreRuns front rest runs → AreRuns front records (sent ++ runs)
      pub taken : AreTaken sink old now (map message sent)
      pub counted : IsRunLength room rest len

    pub runs_start : (len : ℕ) → IsRunLength room records len → RunsSoFar old records len
    runs_start len counted = record { sent = []; leads = λ runs r. r; taken = none_taken old; counted = counted }

    -- all replies of the transfer, and that they were handed over
    abbrev pub TransferSent : S → Header → Type 0
    TransferSent new told = (runs : List (List (Record RData))) × AreRuns front records runs × SendsInOrder sink request.metadata old new (map message runs) told

    module _ (is_room : IsRoom front room) (now : S) (rest : List (Record RData)) (len : ℕ) (so_far : RunsSoFar now rest len) where
      next_leads : len < length rest → (runs : List (List (Record RData))) → AreRuns front (drop len rest) runs → AreRuns front records ((so_far.sent ++ take len rest ∷ []) ++ runs)
      next_leads lt runs r = subst (AreRuns front records) (sym (append_assoc so_far.sent (take len rest ∷ []) runs))
          (so_far.leads (take len rest ∷ runs) (run_first front room is_room rest len so_far.counted runs lt r))

      pub runs_step : (new : S) (told : Header) (next : ℕ) → len < length rest → Takes sink now new (message (take len rest)) told → IsRunLength room (drop len rest) next → RunsSoFar new (drop len rest) next
      runs_step new told next lt took counted = record {
        sent = so_far.sent ++ take len rest ∷ [];
        leads = next_leads lt;
        taken = subst (AreTaken sink old new) (sym (map-append message so_far.sent (take len rest ∷ [])))
            (one_more_taken old now new (map message so_far.sent) (message (take len rest)) told so_far.taken took);
        counted = counted;
      }

      -- the sink failed at this run
      pub runs_ended : (new : S) (told : Header) → len < length rest → Fails sink request.metadata now new (message (take len rest)) told → TransferSent new told
      runs_ended new told lt failed =
          let behind = runs_exist front (drop len rest) in (
            so_far.sent ++ take len rest ∷ behind.0,
            so_far.leads (take len rest ∷ behind.0) (run_first front room is_room rest len so_far.counted behind.0 lt behind.1),
            ended (map message behind.0) (map-append message so_far.sent (take len rest ∷ behind.0)) so_far.taken failed,
          )

      -- this run was the last
      pub runs_whole : (new : S) (told : Header) → length rest ≤ len → Sends sink request.metadata now new (message rest) told → TransferSent new told
      runs_whole new told le sent =
          (so_far.sent ++ rest ∷ [], so_far.leads (rest ∷ []) (run_last front room is_room rest len so_far.counted le), whole (map-append message so_far.sent (rest ∷ [])) so_far.taken sent)
