-- The reply of a response whose records are those of slices.
use Rattle.std.proofs.Common.{◌≡◌, ◌⊎◌, inl, inr, Result, Ok, Err, ℕ, List, [], ◌∷◌, length, Option, None, Bor, map, ◌∙◌, sym, ap, subst, refl}
use Rattle.std.specs.Prelude.{OnErr}
use Rattle.std.specs.Option.{option_copied}
use Rattle.std.specs.Iterator.Adapters.{once_steps, once_item}
use Rattle.std.specs.Slice.Iter.{iter_steps, iter_rest}
use Rattle.std.proofs.lemmas.Iterator.Adapters.{YieldsList-from_once}
use Rattle.std.proofs.lemmas.Iterator.{items_from_drains, YieldsList-from_slice}
use Rattle.wire_messages.specs.op.EdnsFields.{EdnsFields}
use Rattle.wire_messages.specs.serialize.writing.Reply.{Reply}
use Rattle.wire_messages.specs.declared.op.header.Metadata.{Metadata}
use Rattle.wire_messages.specs.declared.rr.rdata.RData.{RData}
use Rattle.wire_messages.specs.declared.rr.record.Record.{Record}
use Rattle.wire_messages.specs.declared.rr.tsig.TSIG.{TSIG}
use Rattle.wire_messages.specs.declared.op.header.Header.{Header}
use Rattle.hickory_wire.specs.serialize.writing.ReplyParts.{RecordLists, ReplyEncoded}
use Rattle.hickory_base.specs.requests.Questions.{QuestionSection}
use Rattle.hickory_base.specs.responses.Responses.{GivesBy, IsReplyOf, ReplyBase}
use Rattle.hickory_base.specs.responses.Sinks.{AddsEntry}
use Rattle.hickory_base.specs.declared.responses.message_response.MessageResponse.{MessageResponse}

-- the iterator of a slice gives the slice
pub given_by_slice : {records xs : List (Record RData)} {it : _} → GivesBy iter_steps (λ (x : Bor (Record RData)). x.now) it records → iter_rest it ≡ xs → records ≡ xs
given_by_slice {xs = xs} gives e =
    let d = gives.1 in
    sym gives.2 ∙ items_from_drains gives.0 (d.1.0, d.1.1, λ _. (d.0, d.1.2)) (YieldsList-from_slice xs e)

no_items : (items : List (Bor (Record RData))) → map (λ (x : Bor (Record RData)). x) items ≡ [] → map (λ (x : Bor (Record RData)). x.now) items ≡ []
no_items [] e = refl
no_items (x ∷ xs) e = cc

-- the empty iterator gives nothing
pub given_by_empty : {records : List (Record RData)} {it : _} → GivesBy once_steps (λ (x : Bor (Record RData)). x.now) it records → once_item it ≡ None → records ≡ []
given_by_empty gives e =
    let d = gives.1 in
    let none : map (λ (x : Bor (Record RData)). x) gives.0 ≡ [] = items_from_drains gives.0 (d.1.0, d.1.1, λ _. (d.0, d.1.2)) (YieldsList-from_once None e) in
    sym gives.2 ∙ no_items gives.0 none

-- a reply is known by its parts
reply_by_parts : (r : Reply) (metadata : Metadata) (question : List ℕ) (count : ℕ) (edns : Option EdnsFields) (answers authorities soa additionals : List (Record RData)) (signature : Option (Record TSIG))
    → r.metadata ≡ metadata → r.question ≡ question → r.question_count ≡ count → r.edns ≡ edns → r.answers ≡ answers → r.authorities ≡ authorities → r.soa ≡ soa → r.additionals ≡ additionals → r.signature ≡ signature
    → r ≡ record { metadata = metadata; question = question; question_count = count; edns = edns; answers = answers; authorities = authorities; soa = soa; additionals = additionals; signature = signature }
reply_by_parts r metadata question count edns answers authorities soa additionals signature e f g h i j k l m = rw (← e, ← f, ← g, ← h, ← i, ← j, ← k, ← l, ← m)

-- the reply of a response of these parts
pub reply_of_parts : {A N S D : Type 0} {answers_give : A → List (Record RData) → Type 0} {authorities_give : N → List (Record RData) → Type 0} {soa_gives : S → List (Record RData) → Type 0} {additionals_give : D → List (Record RData) → Type 0}
    {response : MessageResponse A N S D} {base : ReplyBase} {metadata : Metadata} {answers authorities soa additionals : List (Record RData)} {signature : Option (Record TSIG)}
    → (r : Reply) → IsReplyOf answers_give authorities_give soa_gives additionals_give response r
    → response.metadata ≡ metadata → response.queries.now ≡ base.questions → option_copied response.edns ≡ base.edns → response.signature ≡ signature
    → r.answers ≡ answers → r.authorities ≡ authorities → r.soa ≡ soa → r.additionals ≡ additionals
    → r ≡ record { metadata = metadata; question = base.questions.bytes; question_count = length base.questions.queries; edns = base.edns; answers = answers; authorities = authorities; soa = soa; additionals = additionals; signature = signature }
reply_of_parts r is m q e s answers authorities soa additionals =
    reply_by_parts r _ _ _ _ _ _ _ _ _ (is.metadata ∙ m) (is.question ∙ ap (λ z. z.bytes) q) (is.question_count ∙ ap (λ z. length z.queries) q) (is.edns ∙ e) answers authorities soa additionals (is.signature ∙ s)

-- from the reply that a sink was handed to the one that this must be
module _ {Entry : Type 0} (old new : List Entry) {P : Reply → Type 0} {reply : Reply} (so : (r : Reply) → P r → r ≡ reply) where
  pub added_so : (holds : Reply → Entry → Type 0) → (r : Reply) × P r × AddsEntry (holds r) old new → AddsEntry (holds reply) old new
  added_so holds (r, is, added) = subst (λ (x : Reply). AddsEntry (holds x) old new) (so r is) added

  pub added_so_or_not : {T E : Type 0} (shows : Reply → Entry → Type 0) (result : Result T E) → OnErr result (((r : Reply) × P r × AddsEntry (shows r) old new) ⊎ (new ≡ old))
      → OnErr result (AddsEntry (shows reply) old new ⊎ (new ≡ old))
  added_so_or_not shows (Ok t) h = h
  added_so_or_not shows (Err e) (inl added) = inl (added_so shows added)
  added_so_or_not shows (Err e) (inr same) = inr same

-- the reply of slices that was encoded, at the limit, in the bytes and with the header that are named
pub lent_at : (questions : QuestionSection) (edns : Option EdnsFields) (metadata : Metadata) {limit named count : ℕ} {question bytes kept : List ℕ} {header told : Header} {lists : RecordLists} {answers authorities soa additionals : List (Record RData)}
    → limit ≡ named → question ≡ questions.bytes → count ≡ length questions.queries → lists.answers ≡ answers → lists.authorities ≡ authorities → lists.soa ≡ soa → lists.additionals ≡ additionals
    → kept ≡ bytes → told ≡ header
    → ReplyEncoded limit (record { metadata = metadata; question = question; question_count = count; edns = edns; answers = lists.answers; authorities = lists.authorities; soa = lists.soa; additionals = lists.additionals; signature = None }) bytes header
    → ReplyEncoded named (record { metadata = metadata; question = questions.bytes; question_count = length questions.queries; edns = edns; answers = answers; authorities = authorities; soa = soa; additionals = additionals; signature = None }) kept told
lent_at questions edns metadata l q n a u s d k t made = rw (← l, ← q, ← n, ← a, ← u, ← s, ← d, k, t) made
