-- Asking a chain for a transfer from a place on.
use Rattle.std.proofs.Common.{◌≡◌, ℕ, ◌+◌, ◌<◌, ◌≤◌, List, [], ◌∷◌, length, drop, get_or, Option, Some, None, Result, arith}
use Rattle.std.proofs.lemmas.List.{drop_all}
use Rattle.std.specs.Prelude.{is_some, true, false}
use Rattle.wire_messages.specs.declared.rr.tsig.TSigResponseContext.{TSigResponseContext}
use Rattle.hickory_base.specs.requests.Requests.{ReceivedRequest}
use Rattle.hickory_base.specs.declared.errors.LookupError.{LookupError}
use Rattle.hickory_base.specs.declared.zone_store.handler.ZoneHandler.{Ghosts}
use Rattle.hickory_base.specs.declared.zone_store.lookup.ZoneTransfer.{ZoneTransfer}
use Rattle.hickory_catalog.specs.queries.Transcripts.{options_of}
use Rattle.hickory_catalog.specs.transfers.Transfers.{TransferAsked, nobody, passed, answered}
use Rattle.hickory_catalog.proofs.lemmas.queries.ChainsFromPlace.{front_at}

abbrev pub Given : Type 0
Given = Option (Result ZoneTransfer LookupError × Option TSigResponseContext)

-- what is asked of the rest is asked of the whole
abbrev pub TransferOn : {H : Type 0} → Ghosts H → ReceivedRequest → ℕ → List H → ℕ → Type 0
TransferOn handler request now all i = (answer : Given) → TransferAsked handler request now (drop i all) answer → TransferAsked handler request now all answer

module _ {H : Type 0} (handler : Ghosts H) (request : ReceivedRequest) (now : ℕ) (all : List H) where
  given_at : (h : H) (hs : List H) (answer : Given) → is_some answer ≡ true → handler.transfer_gives h request (options_of request) now answer → TransferAsked handler request now (h ∷ hs) answer
  given_at h hs None e gave = absurd cc
  given_at h hs (Some (result, context)) e gave = answered gave

  pub on_none : (i : ℕ) (h : H) (answer : Given) → TransferOn handler request now all i → i < length all → h ≡ get_or all i h → is_some answer ≡ false
      → handler.transfer_gives h request (options_of request) now answer → TransferOn handler request now all (i + 1)
  on_none i h None on lt is e gave answer r =
      let f : drop i all ≡ h ∷ drop (i + 1) all = front_at all i h lt is in
      on answer (rw f (passed gave r))
  on_none i h (Some _) on lt is e gave answer r = absurd cc

  pub on_some : (i : ℕ) (h : H) (answer : Given) → TransferOn handler request now all i → i < length all → h ≡ get_or all i h → is_some answer ≡ true
      → handler.transfer_gives h request (options_of request) now answer → TransferAsked handler request now all answer
  on_some i h answer on lt is e gave =
      let f : drop i all ≡ h ∷ drop (i + 1) all = front_at all i h lt is in
      on answer (rw f (given_at h _ answer e gave))

  pub on_end : (i n : ℕ) → TransferOn handler request now all i → length all ≡ n → n ≤ i → TransferAsked handler request now all None
  on_end i n on e low =
      let none : drop i all ≡ [] = drop_all i all (omega arith) in
      on None (rw none nobody)
