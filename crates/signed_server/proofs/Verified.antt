-- Replies that are signed one behind the other verify so.
use Rattle.std.proofs.Common.{◌≡◌, ℕ, List, [], ◌∷◌, ◌++◌, length, length-append, true, false, Contains, Option, Some, None, refl, sym, ap, subst, arith}
use Rattle.std.proofs.lemmas.List.Elements.{Contains-append_left, Contains-push}
use Rattle.wire_names.specs.serialize.layout.Bytes.{AreBytes}
use Rattle.wire_messages.specs.declared.rr.record.Record.{Record}
use Rattle.wire_messages.specs.declared.rr.tsig.TSIG.{TSIG}
use Rattle.tsig.specs.Judging.{HasKey, Judged, JudgedBy}
use Rattle.tsig.specs.Judging.Judged.{unsigned, signed, malformed}
use Rattle.tsig.specs.Judging.JudgedBy.{ill_formed, bad_key, bad_len, bad_sig, bad_time, bad_trunc, good}
use Rattle.tsig.specs.Signing.{Reply, next_of, plain, reply_of}
use Rattle.tsig.specs.Verifying.{IsWholeMessage, Verifies, VerifiesNext, is_mac_right}
use Rattle.tsig.specs.declared.judgement.Judgement.{Judgement}
use Rattle.tsig.specs.declared.judgement.Judgement.TheVariants.{FormErr, Signed, Unsigned}
use Rattle.tsig.specs.declared.judgement.Verdict.{Verdict}
use Rattle.tsig.specs.declared.judgement.Verdict.TheVariants.{Good}
use Rattle.tsig.specs.declared.keys.Key.{Key}
use Rattle.signed_server.specs.SignedAnswers.{AreSigned, signed_behind}
use Rattle.signed_server.specs.SignedAnswers.AreSigned.{none, more}
use Rattle.signed_server.specs.SignedLaws.{AreVerified, IsWhole, has_right_mac}
use Rattle.signed_server.specs.SignedLaws.AreVerified.{first_reply, further, nothing}

-- ---- the key of a request that is good

by_good : (keys : List Key) (bytes : List ℕ) (now n place : ℕ) (s z : Record TSIG) (j : Judgement) → JudgedBy keys bytes now n place z j → j ≡ Signed s Good → (key : Key) × HasKey keys s key
by_good keys bytes now n place s z j (ill_formed e) is = absurd cc
by_good keys bytes now n place s z j (bad_key f h) is = absurd cc
by_good keys bytes now n place s z j (bad_len key h e) is = absurd cc
by_good keys bytes now n place s z j (bad_sig key h e) is = absurd cc
by_good keys bytes now n place s z j (bad_time key h e) is = absurd cc
by_good keys bytes now n place s z j (bad_trunc key h t e) is = absurd cc
by_good keys bytes now n place s z j (good key h t e) is = let same : z ≡ s = cc in (key, subst (λ (r : Record TSIG). HasKey keys r key) same h.has.known)

key_of_good : (keys : List Key) (bytes : List ℕ) (now : ℕ) (s : Record TSIG) (j : Judgement) → Judged keys bytes now j → j ≡ Signed s Good → (key : Key) × HasKey keys s key
key_of_good keys bytes now s j (unsigned stop u) is = absurd cc
key_of_good keys bytes now s j (signed n place stop z k u by) is = by_good keys bytes now n place s z k by is
key_of_good keys bytes now s j (malformed a b) is = absurd cc

one_key : (keys : List Key) (s : Record TSIG) (key other : Key) → HasKey keys s key → HasKey keys s other → other ≡ key
one_key keys s key other h k = let a = h.found in let b = k.found in cc

one_reply : (o : Option Reply) (r q : Reply) → o ≡ Some q → o ≡ Some r → q ≡ r
one_reply o r q a b = cc

-- ---- one behind the other

nothing_before : (keys : List Key) (j : Judgement) (now : ℕ) (messages leaving : List (List ℕ)) (last : Option (List ℕ)) → AreSigned keys j now messages leaving last → last ≡ None → leaving ≡ []
nothing_before keys j now messages leaving last none is = refl
nothing_before keys j now messages leaving last (more m before by) is = absurd cc

pub as_many : (keys : List Key) (j : Judgement) (now : ℕ) (messages leaving : List (List ℕ)) (last : Option (List ℕ)) → AreSigned keys j now messages leaving last → length messages ≡ length leaving
as_many keys j now messages leaving last none = refl
as_many keys j now messages leaving last (more {messages = ms} {leaving = ls} {prior = p} m {reply = r} before by) =
    let so_far = as_many keys j now ms ls p before in
    let a = length-append ms (m ∷ []) in
    let b = length-append ls (r.bytes ∷ []) in
    omega (arith, so_far, a, b)

abbrev First : Type 0
First = (keys : List Key) (request message : List ℕ) (now later : ℕ) (s : Record TSIG) (verdict : Verdict) → AreBytes message → IsWholeMessage message → Judged keys request now (Signed s verdict) → is_mac_right verdict ≡ true
    → (key : Key) × HasKey keys s key × (reply : Reply) × (reply_of keys (Signed s verdict) message later ≡ Some reply) × Verifies key s.rdata.mac reply.bytes

abbrev Next : Type 0
Next = (keys : List Key) (request message prior : List ℕ) (now later : ℕ) (s : Record TSIG) → AreBytes message → IsWholeMessage message → Judged keys request now (Signed s Good)
    → (key : Key) × HasKey keys s key × (reply : Reply) × (next_of keys (Signed s Good) prior message later ≡ Some reply) × VerifiesNext key prior reply.bytes

module _ (first : First) (next : Next) (keys : List Key) (request : List ℕ) (moment now : ℕ) (s : Record TSIG) (key : Key) (has : HasKey keys s key) (judged : Judged keys request moment (Signed s Good)) where
  first_verifies : (message : List ℕ) (reply : Reply) → IsWhole message → reply_of keys (Signed s Good) message now ≡ Some reply → Verifies key s.rdata.mac reply.bytes
  first_verifies message reply w by =
      let f = first keys request message moment now s Good w.bytes w.whole judged refl in
      subst (λ (r : Reply). Verifies key s.rdata.mac r.bytes) (one_reply (reply_of keys (Signed s Good) message now) reply f.2 f.3 by)
      (subst (λ (k : Key). Verifies k s.rdata.mac f.2.bytes) (one_key keys s key f.0 has f.1) f.4)

  next_verifies : (message prior : List ℕ) (reply : Reply) → IsWhole message → next_of keys (Signed s Good) prior message now ≡ Some reply → VerifiesNext key prior reply.bytes
  next_verifies message prior reply w by =
      let f = next keys request message prior moment now s w.bytes w.whole judged in
      subst (λ (r : Reply). VerifiesNext key prior r.bytes) (one_reply (next_of keys (Signed s Good) prior message now) reply f.2 f.3 by)
      (subst (λ (k : Key). VerifiesNext k prior f.2.bytes) (one_key keys s key f.0 has f.1) f.4)

  one_more : (leaving : List (List ℕ)) (prior : Option (List ℕ)) (message : List ℕ) (reply : Reply) → AreVerified key s.rdata.mac leaving prior → (prior ≡ None → leaving ≡ []) → IsWhole message
      → signed_behind keys (Signed s Good) prior message now ≡ Some reply → AreVerified key s.rdata.mac (leaving ++ reply.bytes ∷ []) (Some reply.mac)
  one_more leaving None message reply before empty w by =
      subst (λ (ls : List (List ℕ)). AreVerified key s.rdata.mac (ls ++ reply.bytes ∷ []) (Some reply.mac)) (sym (empty refl)) (first_reply (first_verifies message reply w by))
  one_more leaving (Some prior) message reply before empty w by = further before (next_verifies message prior reply w by)

  all_verify : (messages leaving : List (List ℕ)) (last : Option (List ℕ)) → AreSigned keys (Signed s Good) now messages leaving last → ((message : List ℕ) → Contains messages message → IsWhole message)
      → AreVerified key s.rdata.mac leaving last
  all_verify messages leaving last none whole = nothing
  all_verify messages leaving last (more {messages = ms} {leaving = ls} {prior = p} m {reply = r} before by) whole =
      one_more ls p m r (all_verify ms ls p before (λ x h. whole x (Contains-append_left ms (m ∷ []) x h))) (nothing_before keys (Signed s Good) now ms ls p before) (whole m (Contains-push ms m)) by

-- All replies to a request that is good verify.
pub good_replies : First → Next → (keys : List Key) (request : List ℕ) (moment now : ℕ) (s : Record TSIG) (messages leaving : List (List ℕ)) (last : Option (List ℕ))
    → Judged keys request moment (Signed s Good) → ((message : List ℕ) → Contains messages message → IsWhole message) → AreSigned keys (Signed s Good) now messages leaving last
    → (key : Key) × HasKey keys s key × AreVerified key s.rdata.mac leaving last
good_replies first next keys request moment now s messages leaving last judged whole are =
    let k = key_of_good keys request moment s (Signed s Good) judged refl in
    (k.0, k.1, all_verify first next keys request moment now s k.0 k.1 judged messages leaving last are whole)

-- ---- replies without a MAC

some_mac : (r q : Reply) (o : Option Reply) → o ≡ Some r → o ≡ Some q → q.mac ≡ r.mac
some_mac r q o a b = let same : r ≡ q = cc in ap (λ (x : Reply). x.mac) (sym same)

pub bad_replies : ((keys : List Key) (s : Record TSIG) (verdict : Verdict) (message : List ℕ) (now : ℕ) (reply : Reply) → is_mac_right verdict ≡ false → reply_of keys (Signed s verdict) message now ≡ Some reply → reply.mac ≡ [])
    → (keys : List Key) (j : Judgement) (message : List ℕ) (now : ℕ) (reply : Reply) → has_right_mac j ≡ false → reply_of keys j message now ≡ Some reply → reply.mac ≡ []
bad_replies wrong keys Unsigned message now reply wrong_mac is = some_mac (plain message) reply (reply_of keys Unsigned message now) refl is
bad_replies wrong keys FormErr message now reply wrong_mac is = some_mac (plain message) reply (reply_of keys FormErr message now) refl is
bad_replies wrong keys (Signed s v) message now reply wrong_mac is = wrong keys s v message now reply wrong_mac is
