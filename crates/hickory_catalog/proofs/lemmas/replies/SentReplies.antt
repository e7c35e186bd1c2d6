-- From what a sink's answer says to what a call says of it.
use Rattle.std.proofs.Common.{◌≡◌, ◌≢◌, Result, Ok, Err, ℕ, ◌+◌, ◌%◌, ◌^◌, ◌⊎◌, inl, inr, false, List, ◌++◌, Bor, ◌∙◌, sym, subst}
use Rattle.std.specs.Prelude.{IfOk, IfErr, OnOk}
use Rattle.hickory_wire.specs.serialize.writing.ReplyParts.{CannotBeWritten, ReplyWritten}
use Rattle.wire_writing.specs.serialize.writing.Writing.{Fronts, Written}
use Rattle.wire_names.specs.declared.error.ProtoError.{ProtoError}
use Rattle.wire_names.specs.declared.error.ProtoError.TheVariants.{Memory}
use Rattle.std.specs.Iterator.Adapters.{chain_first, chain_first_done, chain_second, chain_second_done, chain_steps}
use Rattle.std.specs.Slice.Iter.{iter_steps, iter_rest}
use Rattle.std.proofs.lemmas.Iterator.Consumers.{YieldsList-from_chain}
use Rattle.std.proofs.lemmas.Iterator.{items_from_drains, YieldsList-from_slice}
use Rattle.wire_messages.specs.serialize.writing.Reply.{Reply}
use Rattle.wire_messages.specs.declared.op.header.Header.{Header}
use Rattle.wire_messages.specs.declared.op.header.Metadata.{Metadata}
use Rattle.wire_messages.specs.declared.rr.rdata.RData.{RData}
use Rattle.wire_messages.specs.declared.rr.record.Record.{Record}
use Rattle.hickory_base.specs.responses.Responses.{GivesBy, header_of}
use Rattle.hickory_base.specs.responses.Sinks.{AddsEntry}
use Rattle.hickory_base.specs.declared.responses.message_response.ResponseInfo.{ResponseInfo}
use Rattle.hickory_base.specs.declared.responses.response_handler.ResponseHandler.{Ghosts}
use Rattle.hickory_catalog.specs.replies.Sending.{Fails, IsFailed, IsTaken, Sends, Takes, failure_header}

-- three slices' iterators that are chained give one slice after another
pub given_by_chain : {records xs ys zs : List (Record RData)} {it : _} → GivesBy (chain_steps iter_steps (chain_steps iter_steps iter_steps)) (λ (x : Bor (Record RData)). x.now) it records
    → iter_rest (chain_first it) ≡ xs → iter_rest (chain_first (chain_second it)) ≡ ys → iter_rest (chain_second (chain_second it)) ≡ zs
    → chain_first_done it ≡ false → chain_second_done it ≡ false → chain_first_done (chain_second it) ≡ false → chain_second_done (chain_second it) ≡ false
    → records ≡ xs ++ (ys ++ zs)
given_by_chain {xs = xs} {ys = ys} {zs = zs} gives e f g h k m n =
    let d = gives.1 in
    sym gives.2 ∙ items_from_drains gives.0 (d.1.0, d.1.1, λ _. (d.0, d.1.2))
    (YieldsList-from_chain (YieldsList-from_slice xs e) (YieldsList-from_chain (YieldsList-from_slice ys f) (YieldsList-from_slice zs g) m n) h k)

module _ {Entry : Type 0} {P : Reply → Type 0} {shows : Reply → Entry → Type 0} {old new : List Entry} where
  added_or_not : {reply : Reply} → ((r : Reply) → P r → r ≡ reply) → ((r : Reply) × P r × AddsEntry (shows r) old new) ⊎ (new ≡ old) → AddsEntry (shows reply) old new ⊎ (new ≡ old)
  added_or_not so (inl (r, is, added)) = inl (subst (λ (x : Reply). AddsEntry (shows x) old new) (so r is) added)
  added_or_not so (inr same) = inr same

module _ {S Entry Settings : Type 0} (sink : Ghosts S Entry Settings) {P : Reply → Type 0} (old new : S) {told : Header} where
  -- the sink took the reply
  pub taken_after_ok : (reply : Reply) → ((r : Reply) → P r → r ≡ reply)
      → (r : Reply) × P r × AddsEntry (λ entry. sink.shows (sink.settings old) r entry × sink.informs (sink.settings old) r entry told) (sink.entries old) (sink.entries new)
      → sink.failures new ≡ sink.failures old → IsTaken sink old new reply told
  taken_after_ok reply so (r, is, added) uncounted = record {
    uncounted = uncounted;
    added = subst (λ (x : Reply). AddsEntry (λ entry. sink.shows (sink.settings old) x entry × sink.informs (sink.settings old) x entry told) (sink.entries old) (sink.entries new)) (so r is) added;
  }

  -- the sink failed
  pub failed_after_err : {request : Metadata} (reply : Reply) → ((r : Reply) → P r → r ≡ reply)
      → ((r : Reply) × P r × AddsEntry (sink.shows (sink.settings old) r) (sink.entries old) (sink.entries new)) ⊎ (sink.entries new ≡ sink.entries old)
      → sink.failures new ≡ (sink.failures old + 1) % 2 ^ 64 → told ≡ failure_header request
      → IsFailed sink request old new reply told
  failed_after_err reply so added counted informed = record { counted = counted; added = added_or_not so added; informed = informed }

-- what is told of a reply, whether the sink took it or failed
module _ {S Entry Settings : Type 0} (sink : Ghosts S Entry Settings) (request : Metadata) (old new : S) (reply : Reply) where
  pub sent_as_told : (handed : Result ResponseInfo ResponseInfo) (told : ResponseInfo) → IfOk handed (λ info. told ≡ info) → IfErr handed (λ info. told ≡ info)
      → IfOk handed (λ info. Takes sink old new reply (header_of info)) → IfErr handed (λ info. Fails sink request old new reply (header_of info))
      → Sends sink request old new reply (header_of told)
  sent_as_told (Ok info) told is _ took _ = subst (λ (i : ResponseInfo). Sends sink request old new reply (header_of i)) (sym is) (took.0, inl took.1)
  sent_as_told (Err info) told _ is _ failed = subst (λ (i : ResponseInfo). Sends sink request old new reply (header_of i)) (sym is) (failed.0, inr failed.1)

-- from what an encoder's answer says of the reply of a response to what it says of the reply that this must be
module _ {P : Reply → Type 0} {expected : Reply} (so : (r : Reply) → P r → r ≡ expected) (limit : ℕ) where
  pub emitted : (bytes : List ℕ) {T : Type 0} (result : Result T ProtoError) (header : T → Header) → IfOk result (λ info. (reply : Reply) × P reply × ReplyWritten limit reply bytes (header info))
      → OnOk result ((fronts : Fronts) × Written limit expected bytes fronts)
  emitted bytes (Ok info) header w = (w.2.fronts, subst (λ (r : Reply). Written limit r bytes w.2.fronts) (so w.0 w.1) w.2.written)
  emitted bytes (Err e) header w = w

  pub not_emitted : {T : Type 0} (result : Result T ProtoError) → IfErr result (λ e. e ≢ Memory → (reply : Reply) × P reply × CannotBeWritten limit reply e)
      → IfErr result (λ e. e ≢ Memory → CannotBeWritten limit expected e)
  not_emitted (Ok info) w = w
  not_emitted (Err e) w = λ other. let r = w other in subst (λ (x : Reply). CannotBeWritten limit x e) (so r.0 r.1) r.2
