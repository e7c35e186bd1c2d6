-- What the replies of a transfer that is sent in as many as it takes have of it.
use Rattle.std.proofs.Common.{◌≡◌, ◌⊎◌, inl, inr, ℕ, zero, suc, ◌<◌, ◌≤◌, List, [], ◌∷◌, length, map, take, drop, Option, Some, None, IfSome, refl, sym, ap, subst, ◌∙◌, arith}
use Rattle.std.specs.List.{AllByRecursion, flat_map}
use Rattle.std.proofs.lemmas.Bool.{cases_lt}
use Rattle.std.proofs.lemmas.List.Folds.{flat_map-map}
use Rattle.wire_messages.specs.op.EdnsFields.{EdnsFields}
use Rattle.wire_messages.specs.serialize.writing.Reply.{Reply, opt_record}
use Rattle.wire_writing.specs.serialize.writing.WholeReply.{FitsWhole, HasForm}
use Rattle.wire_messages.specs.declared.rr.rdata.RData.{RData}
use Rattle.wire_messages.specs.declared.rr.record.Record.{Record}
use Rattle.hickory_base.specs.declared.requests.message_request.MessageRequest.{MessageRequest}
use Rattle.hickory_catalog.specs.replies.ReplyEdns.{with_high_code}
use Rattle.hickory_catalog.specs.transfers.TransferLaws.{IsOneTooLarge}
use Rattle.hickory_catalog.specs.transfers.Transfers.{AreRuns, AreTransferReplies, size_without_answers, full, last, message_of_transfer, message_size}
use Rattle.hickory_catalog.proofs.lemmas.transfers.Runs.{run_by_run, runs_joined}

-- the answers one after the other
pub answers_joined : (request : MessageRequest) (edns : Option EdnsFields) (records : List (Record RData)) (replies : List Reply) → AreTransferReplies request edns records replies
    → flat_map (λ (reply : Reply). reply.answers) replies ≡ records
answers_joined request edns records replies are =
    ap (flat_map (λ (reply : Reply). reply.answers)) are.replies_are
    ∙ flat_map-map (λ (reply : Reply). reply.answers) (message_of_transfer request (with_high_code 0 edns)) are.runs
    ∙ runs_joined (size_without_answers request edns) records are.runs are.are_runs

module _ {X : Type 0} (P : X → Type 0) where
  take_all_hold : (n : ℕ) (xs : List X) → AllByRecursion P xs → AllByRecursion P (take n xs)
  take_all_hold zero xs all = tt
  take_all_hold (suc n) [] all = tt
  take_all_hold (suc n) (x ∷ xs) all = (all.0, take_all_hold n xs all.1)

  drop_all_hold : (n : ℕ) (xs : List X) → AllByRecursion P xs → AllByRecursion P (drop n xs)
  drop_all_hold zero xs all = all
  drop_all_hold (suc n) [] all = tt
  drop_all_hold (suc n) (x ∷ xs) all = drop_all_hold n xs all.1

-- what is so of each record is so of those of each run
runs_hold : (P : Record RData → Type 0) (front : ℕ) (records : List (Record RData)) (runs : List (List (Record RData))) → AreRuns front records runs → AllByRecursion P records
    → AllByRecursion (AllByRecursion P) runs
runs_hold P front records _ (last _) all = (all, tt)
runs_hold P front records _ (full {runs = runs} len _ _ _ _ behind) all = (take_all_hold P len records all, runs_hold P front (drop len records) runs behind (drop_all_hold P len records all))

module _ (request : MessageRequest) (edns : Option EdnsFields) (edns_formed : IfSome edns (λ e. HasForm (opt_record e))) (room : size_without_answers request edns ≤ 65535) where
  abbrev FitsOrOne : Reply → Type 0
  FitsOrOne reply = FitsWhole 65535 reply ⊎ IsOneTooLarge (size_without_answers request edns) reply

  fits_whole : (run : List (Record RData)) → AllByRecursion HasForm run → message_size (size_without_answers request edns) run ≤ 65535 → FitsWhole 65535 (message_of_transfer request (with_high_code 0 edns) run)
  fits_whole run formed small = by_edns edns edns_formed small where
    by_edns : (e : Option EdnsFields) → IfSome e (λ x. HasForm (opt_record x)) → message_size (size_without_answers request e) run ≤ 65535 → FitsWhole 65535 (message_of_transfer request (with_high_code 0 e) run)
    by_edns None _ fits = record { formed = (formed, (tt, (tt, (tt, (tt, tt))))); fits = omega (arith, fits) }
    by_edns (Some e) has fits = record { formed = (formed, (tt, (tt, ((has, tt), (tt, tt))))); fits = omega (arith, fits) }

  fits_or_one : (run : List (Record RData)) → AllByRecursion HasForm run → (message_size (size_without_answers request edns) run ≤ 65535) ⊎ (length run ≤ 1) → FitsOrOne (message_of_transfer request (with_high_code 0 edns) run)
  fits_or_one run formed (inl small) = inl (fits_whole run formed small)
  fits_or_one [] formed (inr one) = inl (fits_whole [] formed (omega (arith, room)))
  fits_or_one (r ∷ []) formed (inr one) = by_size (cases_lt 65535 (message_size (size_without_answers request edns) (r ∷ []))) where
    by_size : (65535 < message_size (size_without_answers request edns) (r ∷ [])) ⊎ (message_size (size_without_answers request edns) (r ∷ []) ≤ 65535) → FitsOrOne (message_of_transfer request (with_high_code 0 edns) (r ∷ []))
    by_size (inl large) = inr (r, refl, large)
    by_size (inr small) = inl (fits_whole (r ∷ []) formed small)
  fits_or_one (r ∷ s ∷ rs) formed (inr one) = absurd (omega (arith, one))

  each_fits : (runs : List (List (Record RData))) → AllByRecursion (AllByRecursion HasForm) runs → AllByRecursion (λ run. (message_size (size_without_answers request edns) run ≤ 65535) ⊎ (length run ≤ 1)) runs
      → AllByRecursion FitsOrOne (map (message_of_transfer request (with_high_code 0 edns)) runs)
  each_fits [] formed fit = tt
  each_fits (run ∷ runs) formed fit = (fits_or_one run formed.0 fit.0, each_fits runs formed.1 fit.1)

  pub no_answer_cut : (records : List (Record RData)) (replies : List Reply) → AreTransferReplies request edns records replies → AllByRecursion HasForm records → AllByRecursion FitsOrOne replies
  no_answer_cut records replies are formed = subst (AllByRecursion FitsOrOne) (sym are.replies_are)
      (each_fits are.runs (runs_hold HasForm (size_without_answers request edns) records are.runs are.are_runs formed) (run_by_run (size_without_answers request edns) records are.runs are.are_runs))
