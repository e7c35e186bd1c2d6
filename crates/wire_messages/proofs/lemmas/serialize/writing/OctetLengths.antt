-- How long octets are that are made of parts, and steps of the loops over them.
use Rattle.std.proofs.Common.{◌≡◌, inl, inr, ℕ, ◌+◌, ◌<◌, ◌≤◌, List, [], ◌∷◌, ◌++◌, length, get_or, take, Some, None, true, false, refl, sym, ap, ◌∙◌, arith}
use Rattle.std.specs.Prelude.{nat_lt}
use Rattle.std.specs.List.{flat_map}
use Rattle.std.proofs.lemmas.Bool.{le-ltb, lt-ltb, cases_lt}
use Rattle.std.proofs.lemmas.List.{take_more, flat_map_more}
use Rattle.std.proofs.lemmas.List.Folds.{length-flat_map-take}
use Rattle.wire_messages.specs.serialize.writing.RecordSize.{length_fault}
use Rattle.wire_names.specs.declared.error.ProtoError.TheVariants.{DataTooLong}

-- a length of 16 bits is no fault, and any other is one
pub fits : (len : ℕ) → len ≤ 65535 → length_fault len ≡ None
fits len le = let e : nat_lt 65535 len ≡ false = le-ltb _ _ le in rw e refl

pub too_long : (len : ℕ) → 65535 < len → length_fault len ≡ Some DataTooLong
too_long len lt = let e : nat_lt 65535 len ≡ true = lt-ltb _ _ lt in rw e refl

some_is_none : {A : Type 0} (x : A) → Some x ≡ None → ⊥
some_is_none x e = cc

pub fitted : (len : ℕ) → length_fault len ≡ None → len ≤ 65535
fitted len e = elim (cases_lt 65535 len) [
  | inl lt ↦ absurd (some_is_none DataTooLong (sym (too_long len lt) ∙ e))
  | inr le ↦ le
]

-- one part more
pub flat_map-more : {X : Type 0} (f : X → List ℕ) (xs : List X) (i : ℕ) (x : X) → i < length xs → x ≡ get_or xs i x → flat_map f (take (i + 1) xs) ≡ flat_map f (take i xs) ++ f x
flat_map-more f xs i x lt is = ap (flat_map f) (take_more xs i x lt ∙ ap (λ y. take i xs ++ y ∷ []) (sym is)) ∙ sym (flat_map_more f [] (take i xs) x)

-- the parts up to one are not longer than all of them
pub flat_map-front : {X : Type 0} (f : X → List ℕ) (xs : List X) (i : ℕ) (x : X) → i < length xs → x ≡ get_or xs i x → length (flat_map f (take i xs)) + length (f x) ≤ length (flat_map f xs)
flat_map-front f xs i x lt is = let h = length-flat_map-take f xs i x lt in omega (arith, h, ap (λ y. length (f y)) is)
