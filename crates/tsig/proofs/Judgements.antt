-- The judgement, step by step, is the one that RFC 8945 section 5.2 tells.
use Rattle.std.proofs.Common.{◌≡◌, ℕ, List, length, ltb, Bool, true, false, cond, IfOk, Option, Some, None, Result, Ok, Err, refl, sym, ap, subst, ◌∙◌}
use Rattle.wire_names.specs.serialize.layout.Bytes.{AreBytes}
use Rattle.wire_names.specs.declared.error.DecodeError.{DecodeError}
use Rattle.wire_messages.specs.declared.rr.record.Record.{Record}
use Rattle.wire_messages.specs.declared.rr.tsig.TSIG.{TSIG}
use Rattle.wire_reading.specs.serialize.reading.MessageReading.{front_of}
use Rattle.tsig.specs.Judging.{HasKey, HasMac, IsAuthentic, Judged, JudgedBy, has_fixed_fields, is_in_time, is_mac_len, is_mac_of, is_named, signed_text}
use Rattle.tsig.specs.Judging.Judged.{unsigned, signed, malformed}
use Rattle.tsig.specs.Judging.JudgedBy.{ill_formed, bad_key, bad_len, bad_sig, bad_time, bad_trunc, good}
use Rattle.tsig.specs.JudgingSteps.{judged_by, judged_found, judged_of, judged_with, judgement_of, timed_verdict, verdict_of}
use Rattle.tsig.specs.Keys.{key_of}
use Rattle.tsig.specs.Reading.{signature_of}
use Rattle.tsig.specs.Standing.{SignedAt, UnsignedAt}
use Rattle.tsig.specs.declared.judgement.Judgement.{Judgement}
use Rattle.tsig.specs.declared.judgement.Judgement.TheVariants.{FormErr, Signed}
use Rattle.tsig.specs.declared.judgement.Verdict.TheVariants.{Good, BadKey, BadSig, BadTime, BadTrunc}
use Rattle.tsig.specs.declared.keys.Key.{Key}
use Rattle.tsig.specs.declared.reading.PlacedSignature.{PlacedSignature}
use Rattle.tsig.proofs.Signatures.{signature_found, signed_found, unsigned_found}

abbrev found_at : ℕ → ℕ → Record TSIG → PlacedSignature
found_at n place s = record { additionals = n; place = place; signature = s }

-- ---- each step is judged so

module _ (keys : List Key) (bytes : List ℕ) (now n place : ℕ) (s : Record TSIG) where
  abbrev By : Judgement → Type 0
  By j = JudgedBy keys bytes now n place s j

  by_trunc : (key : Key) (b : Bool) → IsAuthentic keys bytes n place s key → is_in_time s.rdata now ≡ true → ltb (length s.rdata.mac) key.shortest ≡ b → By (Signed s (cond b BadTrunc Good))
  by_trunc key true h t e = bad_trunc key h t e
  by_trunc key false h t e = good key h t e

  by_time : (key : Key) (b : Bool) → IsAuthentic keys bytes n place s key → is_in_time s.rdata now ≡ b → By (Signed s (cond b (cond (ltb (length s.rdata.mac) key.shortest) BadTrunc Good) BadTime))
  by_time key true h e = by_trunc key (ltb (length s.rdata.mac) key.shortest) h e refl
  by_time key false h e = bad_time key h e

  by_mac : (key : Key) (b : Bool) → HasMac keys s key → is_mac_of key (signed_text key bytes n place s) s.rdata.mac ≡ b → By (Signed s (cond b (timed_verdict key s.rdata now) BadSig))
  by_mac key true h e = by_time key (is_in_time s.rdata now) (record { has = h; mac = e }) refl
  by_mac key false h e = bad_sig key h e

  by_len : (key : Key) (b : Bool) → HasKey keys s key → is_mac_len key.algorithm (length s.rdata.mac) ≡ b
      → By (cond b (Signed s (verdict_of key (signed_text key bytes n place s) s.rdata now)) FormErr)
  by_len key true h e = by_mac key (is_mac_of key (signed_text key bytes n place s) s.rdata.mac) (record { known = h; len = e }) refl
  by_len key false h e = bad_len key h e

  by_algorithm : (key : Key) (b : Bool) → has_fixed_fields s ≡ true → key_of keys s.name ≡ Some key → is_named key.algorithm s.rdata.algorithm ≡ b
      → By (cond b (judged_with key bytes now (found_at n place s)) (Signed s BadKey))
  by_algorithm key true f k e = by_len key (is_mac_len key.algorithm (length s.rdata.mac)) (record { fixed = f; found = k; algorithm = e }) refl
  by_algorithm key false f k e = bad_key f (λ (other : Key) (h : HasKey keys s other).
      let same : key ≡ other = let g = h.found in cc in
      let named : is_named key.algorithm s.rdata.algorithm ≡ true = subst (λ (q : Key). is_named q.algorithm s.rdata.algorithm ≡ true) (sym same) h.algorithm in
      absurd cc)

  by_key : (o : Option Key) → has_fixed_fields s ≡ true → key_of keys s.name ≡ o → By (judged_by o bytes now (found_at n place s))
  by_key None f e = bad_key f (λ (key : Key) (h : HasKey keys s key). let g = h.found in absurd cc)
  by_key (Some key) f e = by_algorithm key (is_named key.algorithm s.rdata.algorithm) f e refl

  by_form : (b : Bool) → has_fixed_fields s ≡ b → By (cond b (judged_by (key_of keys s.name) bytes now (found_at n place s)) FormErr)
  by_form true e = by_key (key_of keys s.name) e refl
  by_form false e = ill_formed e

  pub judged_so : By (judged_of keys bytes now (found_at n place s))
  judged_so = by_form (has_fixed_fields s) refl

  -- ---- and nothing else is

  with_key : (key : Key) → HasKey keys s key → judged_of keys bytes now (found_at n place s) ≡ judged_with key bytes now (found_at n place s)
  with_key key h = rw (h.fixed, h.found, h.algorithm) refl

  with_mac : (key : Key) → HasMac keys s key → judged_of keys bytes now (found_at n place s) ≡ Signed s (verdict_of key (signed_text key bytes n place s) s.rdata now)
  with_mac key h = with_key key h.known ∙ rw h.len refl

  with_right : (key : Key) → IsAuthentic keys bytes n place s key → judged_of keys bytes now (found_at n place s) ≡ Signed s (timed_verdict key s.rdata now)
  with_right key h = with_mac key h.has ∙ rw h.mac refl

  no_key : (o : Option Key) → has_fixed_fields s ≡ true → key_of keys s.name ≡ o → ((key : Key) → HasKey keys s key → ⊥) → judged_by o bytes now (found_at n place s) ≡ Signed s BadKey
  no_key None f e h = refl
  no_key (Some key) f e h = no_algorithm (is_named key.algorithm s.rdata.algorithm) refl
    where
      no_algorithm : (b : Bool) → is_named key.algorithm s.rdata.algorithm ≡ b → cond b (judged_with key bytes now (found_at n place s)) (Signed s BadKey) ≡ Signed s BadKey
      no_algorithm true named = absurd (h key (record { fixed = f; found = e; algorithm = named }))
      no_algorithm false named = refl

  pub judged_only : (j : Judgement) → By j → judged_of keys bytes now (found_at n place s) ≡ j
  judged_only j (ill_formed e) = rw e refl
  judged_only j (bad_key f h) = rw f (no_key (key_of keys s.name) f refl h)
  judged_only j (bad_len key h e) = with_key key h ∙ rw e refl
  judged_only j (bad_sig key h e) = with_mac key h ∙ rw e refl
  judged_only j (bad_time key h e) = with_right key h ∙ rw e refl
  judged_only j (bad_trunc key h t e) = with_right key h ∙ rw (t, e) refl
  judged_only j (good key h t e) = with_right key h ∙ rw (t, e) refl

-- ---- whole messages

judged_at : (keys : List Key) (bytes : List ℕ) (now : ℕ) (r : Result (Option PlacedSignature) DecodeError) → AreBytes bytes → signature_of (front_of bytes) ≡ r → Judged keys bytes now (judged_found keys bytes now r)
judged_at keys bytes now (Ok None) a e = let u = signature_found bytes None a e in unsigned u.0 u.1
judged_at keys bytes now (Ok (Some p)) a e =
    let u = signature_found bytes (Some p) a e in
    signed p.additionals p.place u.0 p.signature (judged_of keys bytes now p) u.1 (judged_so keys bytes now p.additionals p.place p.signature)
judged_at keys bytes now (Err d) a e =
    malformed (λ (stop : ℕ) (u : UnsignedAt bytes stop). let f = unsigned_found bytes stop a u in absurd cc)
    (λ (n place stop : ℕ) (s : Record TSIG) (u : SignedAt bytes n place s stop). let f = signed_found bytes n place s stop a u in absurd cc)

-- Bytes are judged as the steps tell.
pub judged : (keys : List Key) (bytes : List ℕ) (now : ℕ) → AreBytes bytes → Judged keys bytes now (judgement_of keys bytes now)
unfolding judgement_of
judged keys bytes now a = judged_at keys bytes now (signature_of (front_of bytes)) a refl

not_malformed : (keys : List Key) (bytes : List ℕ) (now : ℕ) (r : Result (Option PlacedSignature) DecodeError) → AreBytes bytes → signature_of (front_of bytes) ≡ r
    → ((stop : ℕ) → UnsignedAt bytes stop → ⊥) → ((n place stop : ℕ) (s : Record TSIG) → SignedAt bytes n place s stop → ⊥) → judged_found keys bytes now r ≡ FormErr
not_malformed keys bytes now (Ok None) a e no_unsigned no_signed = let u = signature_found bytes None a e in absurd (no_unsigned u.0 u.1)
not_malformed keys bytes now (Ok (Some p)) a e no_unsigned no_signed = let u = signature_found bytes (Some p) a e in absurd (no_signed p.additionals p.place u.0 p.signature u.1)
not_malformed keys bytes now (Err d) a e no_unsigned no_signed = refl

-- And not otherwise.
pub only_judged : (keys : List Key) (bytes : List ℕ) (now : ℕ) (j : Judgement) → AreBytes bytes → Judged keys bytes now j → judgement_of keys bytes now ≡ j
unfolding judgement_of
only_judged keys bytes now j a (unsigned stop u) = ap (judged_found keys bytes now) (unsigned_found bytes stop a u)
only_judged keys bytes now j a (signed n place stop s k u by) = ap (judged_found keys bytes now) (signed_found bytes n place s stop a u) ∙ judged_only keys bytes now n place s k by
only_judged keys bytes now j a (malformed no_unsigned no_signed) = not_malformed keys bytes now (signature_of (front_of bytes)) a refl no_unsigned no_signed

-- of a result that is this judgement
pub from_ok : {E : Type 0} (r : Result Judgement E) (j : Judgement) (P : Judgement → Type 0) → IfOk r (λ x. x ≡ j) → P j → IfOk r P
from_ok (Ok x) j P e p = subst P (sym e) p
from_ok (Err x) j P e p = tt
