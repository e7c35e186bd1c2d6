-- The signature of a message that is judged good is good by the key of its name, around its time.
use Rattle.std.proofs.Common.{◌≡◌, ◌<◌, ◌^◌, ℕ, List, length, Bool, true, false, nat_le, nat_lt, Option, Some, None, Result, Ok, Err, refl, sym, ap, subst, ◌∙◌, ltb-false, le-leb, lt-ltb}
use Rattle.std.specs.declared.ops.Range.{Range}
use Rattle.wire_names.specs.declared.error.DecodeError.{DecodeError}
use Rattle.wire_messages.specs.declared.rr.record.Record.{Record}
use Rattle.wire_messages.specs.declared.rr.tsig.TSIG.{TSIG}
use Rattle.wire_reading.specs.serialize.reading.MessageReading.{front_of}
use Rattle.tsig.specs.Judging.{IsAuthentic, JudgedBy}
use Rattle.tsig.specs.Judging.JudgedBy.{ill_formed, bad_key, bad_len, bad_sig, bad_time, bad_trunc, good}
use Rattle.tsig.specs.JudgingSteps.{judged_found, judged_of, judgement_of}
use Rattle.tsig.specs.Keys.{key_of}
use Rattle.tsig.specs.Reading.{signature_of}
use Rattle.tsig.specs.Validity.{times_by, times_found, times_if_known, times_of}
use Rattle.tsig.specs.declared.judgement.Judgement.{Judgement}
use Rattle.tsig.specs.declared.judgement.Judgement.TheVariants.{Signed}
use Rattle.tsig.specs.declared.judgement.Verdict.TheVariants.{Good}
use Rattle.tsig.specs.declared.keys.Key.{Key}
use Rattle.tsig.specs.declared.reading.PlacedSignature.{PlacedSignature}
use Rattle.tsig.proofs.Judgements.{judged_so}
use Rattle.tsig.proofs.Replies.{key_named}

-- what a message that is judged good has
record Right (keys : List Key) (bytes : List ℕ) (n place : ℕ) (s z : Record TSIG) : Type 0 where
  same : z ≡ s
  key : Key
  authentic : IsAuthentic keys bytes n place z key
  long : nat_lt (length z.rdata.mac) key.shortest ≡ false

right : (keys : List Key) (bytes : List ℕ) (now n place : ℕ) (s z : Record TSIG) (j : Judgement) → JudgedBy keys bytes now n place z j → j ≡ Signed s Good → Right keys bytes n place s z
right keys bytes now n place s z j (ill_formed e) is = absurd cc
right keys bytes now n place s z j (bad_key f h) is = absurd cc
right keys bytes now n place s z j (bad_len key h e) is = absurd cc
right keys bytes now n place s z j (bad_sig key h e) is = absurd cc
right keys bytes now n place s z j (bad_time key h e) is = absurd cc
right keys bytes now n place s z j (bad_trunc key h t e) is = absurd cc
right keys bytes now n place s z j (good key h t e) is = record { same = cc; key = key; authentic = h; long = e }

not_less : (a b : ℕ) → nat_lt a b ≡ false → nat_le b a ≡ true
not_less a b e = le-leb b a (ltb-false a b e)

-- the times by an authentic key
times_so : (keys : List Key) (key : Key) (bytes : List ℕ) (p : PlacedSignature) → IsAuthentic keys bytes p.additionals p.place p.signature key → nat_lt (length p.signature.rdata.mac) key.shortest ≡ false
    → nat_lt p.signature.rdata.time (2 ^ 48) ≡ true → times_by key bytes p ≡ Some (times_of p.signature.rdata)
times_so keys key bytes p h long early =
    let named = key_named keys p.signature.name key h.has.known.found in
    let enough = not_less (length p.signature.rdata.mac) key.shortest long in
    rw (h.has.known.fixed, early, named, h.has.known.algorithm, h.has.len, enough, h.mac) refl

found_so : (keys : List Key) (key : Key) (bytes : List ℕ) (now : ℕ) (s : Record TSIG) (r : Result (Option PlacedSignature) DecodeError) → key_of keys s.name ≡ Some key → nat_lt s.rdata.time (2 ^ 48) ≡ true
    → judged_found keys bytes now r ≡ Signed s Good → times_found key bytes r ≡ Some (times_of s.rdata)
found_so keys key bytes now s (Ok None) found early is = absurd cc
found_so keys key bytes now s (Err e) found early is = absurd cc
found_so keys key bytes now s (Ok (Some p)) found early is =
    let r = right keys bytes now p.additionals p.place s p.signature (judged_of keys bytes now p) (judged_so keys bytes now p.additionals p.place p.signature) is in
    let by : key_of keys s.name ≡ Some r.key = subst (λ (z : Record TSIG). key_of keys z.name ≡ Some r.key) r.same r.authentic.has.known.found in
    let one : r.key ≡ key = cc in
    let authentic : IsAuthentic keys bytes p.additionals p.place p.signature key = subst (λ (k : Key). IsAuthentic keys bytes p.additionals p.place p.signature k) one r.authentic in
    let long : nat_lt (length p.signature.rdata.mac) key.shortest ≡ false = subst (λ (k : Key). nat_lt (length p.signature.rdata.mac) k.shortest ≡ false) one r.long in
    let in_time : nat_lt p.signature.rdata.time (2 ^ 48) ≡ true = subst (λ (z : Record TSIG). nat_lt z.rdata.time (2 ^ 48) ≡ true) (sym r.same) early in
    times_so keys key bytes p authentic long in_time ∙ ap (λ (z : Record TSIG). Some (times_of z.rdata)) r.same

pub good_times : (keys : List Key) (key : Key) (bytes : List ℕ) (now : ℕ) (s : Record TSIG) → key_of keys s.name ≡ Some key → s.rdata.time < 2 ^ 48
    → judgement_of keys bytes now ≡ Signed s Good → times_if_known (Some key) bytes ≡ Some (times_of s.rdata)
unfolding judgement_of
good_times keys key bytes now s found early is = found_so keys key bytes now s (signature_of (front_of bytes)) found (lt-ltb s.rdata.time (2 ^ 48) early) is
