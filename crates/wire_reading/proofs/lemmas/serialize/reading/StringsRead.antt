-- Strings that were read before, and those that are still read.
use Rattle.std.proofs.Common.{◌≡◌, ℕ, zero, suc, ◌+◌, ◌-◌, ◌<◌, ◌≤◌, List, [], ◌∷◌, ◌++◌, length, Ok, Err, refl, sym, ap, ◌∙◌, append_assoc, arith, take, cond, ltb}
use Rattle.std.proofs.lemmas.Bool.{lt-ltb, le-ltb}
use Rattle.std.proofs.lemmas.List.{append-nil}
use Rattle.wire_names.specs.declared.error.DecodeError.TheVariants.{InsufficientBytes}
use Rattle.wire_names.specs.declared.error.DecodeError.{DecodeError}
use Rattle.wire_messages.specs.serialize.reading.Cursor.{Cursor}
use Rattle.wire_messages.specs.serialize.reading.Reading.{Read, ◌>>=◌, octets, rest_of, moved, Fails}
use Rattle.wire_messages.specs.serialize.reading.RecordReading.{byte, first_byte, string, strings_within, strings_until}
use Rattle.wire_reading.proofs.lemmas.serialize.reading.ReadSteps.{then_alike, guard_ok, bind_ok}

-- strings that were read before those that are read now
abbrev pub with_front : List (List ℕ) → Read (List (List ℕ)) → Read (List (List ℕ))
with_front front found = found >>= λ x. Ok (front ++ x.0, x.1)

-- a string has at least its length byte
pub string_moves : (c : Cursor) (s : List ℕ × Cursor) → string c ≡ Ok s → c.place < s.1.place
unfolding string
string_moves c s e =
    let a = bind_ok (byte c) (λ n. octets n.0 n.1) s e in
    let g = guard_ok (ltb (length (rest_of c)) 1) InsufficientBytes (first_byte (rest_of c), moved c 1) a.0 a.1 in
    let h = guard_ok (ltb (length (rest_of a.0.1)) a.0.0) InsufficientBytes (take a.0.0 (rest_of a.0.1), moved a.0.1 a.0.0) s a.2 in
    let p : (moved c 1).place ≡ a.0.1.place = ap (λ (x : ℕ × Cursor). x.1.place) g.1 in
    let q : (moved a.0.1 a.0.0).place ≡ s.1.place = ap (λ (x : List ℕ × Cursor). x.1.place) h.1 in
    omega arith

enough : (f g stop : ℕ) (c : Cursor) → stop ≤ c.place + f → stop ≤ c.place + g → strings_within f stop c ≡ strings_within g stop c
unfolding strings_within
enough zero zero stop c a b = refl
enough zero (suc g) stop c a b = rw (le-ltb c.place stop (omega arith)) refl
enough (suc f) zero stop c a b = rw (le-ltb c.place stop (omega arith)) refl
enough (suc f) (suc g) stop c a b =
    ap (λ (r : Read (List (List ℕ))). cond (ltb c.place stop) r (Ok ([], c)))
    (then_alike (string c) (λ s. strings_within f stop s.1 >>= λ others. Ok (s.0 ∷ others.0, others.1)) (λ s. strings_within g stop s.1 >>= λ others. Ok (s.0 ∷ others.0, others.1))
    (λ s e. let m = string_moves c s e in ap (λ (r : Read (List (List ℕ))). r >>= λ others. Ok (s.0 ∷ others.0, others.1)) (enough f g stop s.1 (omega arith) (omega arith))))

pub strings_until-step : (stop : ℕ) (c : Cursor) → c.place < stop
    → strings_until stop c ≡ (string c >>= λ s. strings_until stop s.1 >>= λ others. Ok (s.0 ∷ others.0, others.1))
unfolding strings_until strings_within
strings_until-step stop c lt =
    let k : stop - c.place ≡ suc (stop - c.place - 1) = omega arith in
    rw (k, lt-ltb c.place stop lt) (then_alike (string c) (λ s. strings_within (stop - c.place - 1) stop s.1 >>= λ others. Ok (s.0 ∷ others.0, others.1)) (λ s. strings_within (stop - s.1.place) stop s.1 >>= λ others. Ok (s.0 ∷ others.0, others.1))
    (λ s e. let m = string_moves c s e in ap (λ (r : Read (List (List ℕ))). r >>= λ others. Ok (s.0 ∷ others.0, others.1)) (enough (stop - c.place - 1) (stop - s.1.place) stop s.1 (omega arith) (omega arith))))

regroup : (front : List (List ℕ)) (s : List ℕ) (read : Read (List (List ℕ))) → with_front front (read >>= λ x. Ok (s ∷ x.0, x.1)) ≡ with_front (front ++ s ∷ []) read
regroup front s (Ok x) = ap (λ (ss : List (List ℕ)). Ok (ss, x.1)) (simp append_assoc)
regroup front s (Err f) = refl

module _ (front : List (List ℕ)) (stop : ℕ) (c : Cursor) (total : Read (List (List ℕ))) (so_far : with_front front (strings_until stop c) ≡ total) where
  pub strings_fail : (e : DecodeError) → c.place < stop → Fails e (string c) → Fails e total
  strings_fail e lt h not_memory = sym so_far ∙ rw (strings_until-step stop c lt, h not_memory) refl

  pub strings_go_on : (after : Cursor) (s : List ℕ) → c.place < stop → string c ≡ Ok (s, after) → with_front (front ++ s ∷ []) (strings_until stop after) ≡ total
  strings_go_on after s lt h =
      sym (regroup front s (strings_until stop after)) ∙ ap (with_front front) (sym (strings_until-step stop c lt ∙ rw h refl)) ∙ so_far

  pub strings_done : stop ≤ c.place → total ≡ Ok (front, c)
  unfolding strings_until strings_within
  strings_done le =
      let k : stop - c.place ≡ 0 = omega arith in
      sym so_far ∙ rw k (ap (λ (ss : List (List ℕ)). Ok (ss, c)) (append-nil front))
