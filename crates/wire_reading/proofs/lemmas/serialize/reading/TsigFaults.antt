-- The data of a TSIG record have a first fault exactly where reading meets it.
use Rattle.std.proofs.Common.{◌≡◌, inl, inr, ℕ, ◌+◌, ◌<◌, ◌≤◌, List, length, Err, refl, sym, ap, subst, ◌∙◌, arith}
use Rattle.std.specs.Int.{w16, w32}
use Rattle.std.proofs.lemmas.Bool.{cases_lt}
use Rattle.wire_names.specs.serialize.layout.Bytes.{AreBytes}
use Rattle.wire_messages.specs.serialize.reading.Cursor.{Cursor}
use Rattle.wire_names.specs.rr.domain.DomainName.{DomainName}
use Rattle.wire_messages.specs.serialize.layout.NameLayout.{NameAt}
use Rattle.wire_messages.specs.serialize.reading.Reading.{Read, ◌>>=◌, number, octets}
use Rattle.wire_reading.specs.serialize.reading.RecordFaults.{NumberAt, TsigFault}
use Rattle.wire_reading.specs.serialize.reading.RecordFaults.TsigFault.{algorithm_faulty, mac_size_missing, other_len_missing, other_missing}
use Rattle.wire_messages.specs.serialize.reading.RecordReading.{tsig, counted_octets}
use Rattle.wire_names.specs.declared.error.DecodeError.{DecodeError}
use Rattle.wire_names.specs.declared.error.DecodeError.TheVariants.{InsufficientBytes}
use Rattle.wire_messages.proofs.lemmas.serialize.layout.ByteTexts.{here, read_here, number16_here}
use Rattle.wire_reading.proofs.lemmas.serialize.reading.FaultSteps.{Runs, octets_run, number_run, short_then, run_err, run_ok, short_is, name_read, name_err, number_at}
use Rattle.wire_reading.proofs.lemmas.serialize.reading.FaultSteps.Runs.{too_short, reads}

-- ---- octets behind their length

-- a length that is cut off
counted_short : (bytes : List ℕ) (q : ℕ) → q ≤ length bytes → length bytes < q + 2 → counted_octets (here bytes q) ≡ Err InsufficientBytes
unfolding counted_octets
counted_short bytes q within lt = rw (short_is bytes (number w16) 2 q (number_run bytes w16 q within) lt) refl

-- octets whose length is known
counted_run : {bytes : List ℕ} {q n : ℕ} → NumberAt bytes q n → Runs bytes counted_octets (2 + n) q
unfolding counted_octets
counted_run {bytes} {q} {n} at = behind (octets_run bytes n (q + 2) (omega (arith, at.stands.fits))) (number16_here bytes q (q + 2) n at.small at.stands refl)
  where
    behind : Runs bytes (octets n) n (q + 2) → number w16 (here bytes q) ≡ read_here n bytes (q + 2) → Runs bytes counted_octets (2 + n) q
    behind (too_short lt e) size = too_short (omega arith) (rw size e)
    behind (reads x le e) size = reads x (omega arith) (rw size (e ∙ ap (read_here x bytes) (omega arith)))

-- octets with their length, and what is read behind them, failed: at the length, at the octets, or behind them
counted_err : {Y : Type 0} (bytes : List ℕ) → AreBytes bytes → (rest : List ℕ × Cursor → Read Y) (q : ℕ) (e : DecodeError) (G : Type 0) → q ≤ length bytes → (counted_octets (here bytes q) >>= rest) ≡ Err e
    → (length bytes < q + 2 → e ≡ InsufficientBytes → G) → ((n : ℕ) → NumberAt bytes q n → length bytes < q + (2 + n) → e ≡ InsufficientBytes → G)
    → ((n : ℕ) (o : List ℕ) → NumberAt bytes q n → q + (2 + n) ≤ length bytes → rest (o, here bytes (q + (2 + n))) ≡ Err e → G) → G
counted_err bytes a rest q e G within h no_size short more = elim (cases_lt (length bytes) (q + 2)) [
  | inl lt ↦ run_err bytes counted_octets rest 2 q e G (too_short lt (counted_short bytes q within lt)) h no_size (λ x le f g. absurd (omega arith))
  | inr le ↦
      let r = run_ok bytes (number w16) 2 q (number_run bytes w16 q within) le in
      let at = number_at bytes a q r.0 within r.1 in
      run_err bytes counted_octets rest (2 + r.0) q e G (counted_run at) h (short r.0 at) (λ o fits f g. more r.0 o at fits g)
]

-- ---- a signature

-- a number at the same place
at_same : {bytes : List ℕ} {n : ℕ} (p q : ℕ) → p ≡ q → NumberAt bytes p n → NumberAt bytes q n
at_same {bytes} {n} p q e at = subst (λ (k : ℕ). NumberAt bytes k n) e at

-- a signature that fails, fails in one of its parts
pub tsig_part : (bytes : List ℕ) → AreBytes bytes → (p : ℕ) (e : DecodeError) → tsig (here bytes p) ≡ Err e → TsigFault bytes p e
unfolding tsig
tsig_part bytes a p e h =
    let F : DecodeError → Type 0 = TsigFault bytes p in
    let G = F e in
    name_err bytes _ p e G h algorithm_faulty (λ n m at fits g0.
    run_err bytes (number w16) _ 2 m e G (number_run bytes w16 m fits) g0 (λ lt is. subst F (sym is) (mac_size_missing at (omega arith))) (λ high le1 f1 g1.
    run_err bytes (number w32) _ 4 (m + 2) e G (number_run bytes w32 (m + 2) le1) g1 (λ lt is. subst F (sym is) (mac_size_missing at (omega arith))) (λ low le2 f2 g2.
    run_err bytes (number w16) _ 2 (m + 2 + 4) e G (number_run bytes w16 (m + 2 + 4) le2) g2 (λ lt is. subst F (sym is) (mac_size_missing at (omega arith))) (λ fudge le3 f3 g3.
    counted_err bytes a _ (m + 2 + 4 + 2) e G le3 g3 (λ lt is. subst F (sym is) (mac_size_missing at (omega arith)))
    (λ mac size lt is. subst F (sym is) (other_len_missing at (at_same (m + 2 + 4 + 2) (m + 8) (omega arith) size) (omega arith))) (λ mac o size le4 g4.
    let s = at_same (m + 2 + 4 + 2) (m + 8) (omega arith) size in
    let q = m + 2 + 4 + 2 + (2 + mac) in
    run_err bytes (number w16) _ 2 q e G (number_run bytes w16 q le4) g4 (λ lt is. subst F (sym is) (other_len_missing at s (omega arith))) (λ oid le5 f5 g5.
    run_err bytes (number w16) _ 2 (q + 2) e G (number_run bytes w16 (q + 2) le5) g5 (λ lt is. subst F (sym is) (other_len_missing at s (omega arith))) (λ error le6 f6 g6.
    counted_err bytes a _ (q + 2 + 2) e G le6 g6 (λ lt is. subst F (sym is) (other_len_missing at s (omega arith)))
    (λ other end lt is. subst F (sym is) (other_missing at s (at_same (q + 2 + 2) (m + 10 + mac + 4) (omega arith) end) (omega arith))) (λ other t end le7 g7. absurd cc))))))))

-- a message that ends within the fields up to the MAC size
pub size_short : {bytes : List ℕ} {p m : ℕ} {n : DomainName} → NameAt 0 bytes p n m → length bytes < m + 10 → tsig (here bytes p) ≡ Err InsufficientBytes
unfolding tsig
size_short {bytes} {p} {m} at lt =
    let r = name_read at in
    rw r.0 (
    short_then bytes (number w16) _ 2 m (number_run bytes w16 m r.1) (λ high le1.
    short_then bytes (number w32) _ 4 (m + 2) (number_run bytes w32 (m + 2) le1) (λ low le2.
    short_then bytes (number w16) _ 2 (m + 2 + 4) (number_run bytes w16 (m + 2 + 4) le2) (λ fudge le3.
    short_then bytes counted_octets _ 2 (m + 2 + 4 + 2) (too_short (omega arith) (counted_short bytes (m + 2 + 4 + 2) le3 (omega arith))) (λ mac le4. absurd (omega arith))))))

-- a message that ends within the fields behind it, up to the length of the other data, or within those
pub other_short : {bytes : List ℕ} {p m mac : ℕ} {n : DomainName} → NameAt 0 bytes p n m → NumberAt bytes (m + 8) mac
    → ((q : ℕ) → q ≡ m + 10 + mac + 4 → q ≤ length bytes → counted_octets (here bytes q) ≡ Err InsufficientBytes) → tsig (here bytes p) ≡ Err InsufficientBytes
unfolding tsig
other_short {bytes} {p} {m} {mac} at size other =
    let r = name_read at in
    let q = m + 2 + 4 + 2 + (2 + mac) in
    rw r.0 (
    short_then bytes (number w16) _ 2 m (number_run bytes w16 m r.1) (λ high le1.
    short_then bytes (number w32) _ 4 (m + 2) (number_run bytes w32 (m + 2) le1) (λ low le2.
    short_then bytes (number w16) _ 2 (m + 2 + 4) (number_run bytes w16 (m + 2 + 4) le2) (λ fudge le3.
    short_then bytes counted_octets _ (2 + mac) (m + 2 + 4 + 2) (counted_run (at_same (m + 8) (m + 2 + 4 + 2) (omega arith) size)) (λ mac le4.
    short_then bytes (number w16) _ 2 q (number_run bytes w16 q le4) (λ oid le5.
    short_then bytes (number w16) _ 2 (q + 2) (number_run bytes w16 (q + 2) le5) (λ error le6. rw (other (q + 2 + 2) (omega arith) le6) refl)))))))

-- the other length is cut off
pub len_short : {bytes : List ℕ} {p m mac : ℕ} {n : DomainName} → NameAt 0 bytes p n m → NumberAt bytes (m + 8) mac → length bytes < m + 10 + mac + 6 → tsig (here bytes p) ≡ Err InsufficientBytes
len_short {bytes} at size lt = other_short at size (λ q is le. counted_short bytes q le (omega arith))

-- the other data are cut off
pub end_short : {bytes : List ℕ} {p m mac other : ℕ} {n : DomainName} → NameAt 0 bytes p n m → NumberAt bytes (m + 8) mac → NumberAt bytes (m + 10 + mac + 4) other → length bytes < m + 10 + mac + 6 + other
    → tsig (here bytes p) ≡ Err InsufficientBytes
end_short {bytes} {p} {m} {mac} {other} at size end lt =
    other_short at size (λ q is le. short_is bytes counted_octets (2 + other) q (counted_run (at_same (m + 10 + mac + 4) q (sym is) end)) (omega arith))
