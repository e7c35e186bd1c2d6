use Rattle.std.proofs.Common.{◌≡◌, ◌∙◌, ◌-◌, ℕ, Bool, true, false, List, [], Ok, length, take, drop, get_or, sym, ap, subst, refl}
use Rattle.std.proofs.lemmas.List.{take_rest}
use Rattle.std.specs.Prelude.{◌≢◌, ◌⊎◌, ◌==◌}
use Rattle.hex.specs.Hex.{decode_of}
use Rattle.record_text.specs.Groups.{SpellsNsap, without_dots}
use Rattle.record_text.specs.RecordText.IsField.{in_digits}
use Rattle.record_text.specs.RecordText.SpellsOctets.{nsap}
use Rattle.record_text.proofs.data.nsap.put_nsap.Goals as goal

as_nsap : (text octets : List ℕ) → get_or text 0 0 ≡ 48 → (get_or text 1 0 ≡ 120) ⊎ (get_or text 1 0 ≡ 88) → decode_of (without_dots (take (length text - 2) (drop 2 text))) ≡ Ok octets → octets ≢ [] → SpellsNsap text octets
as_nsap text octets zero is_x spelled some = record {
  zero = zero;
  is_x = is_x;
  spelled = ap (λ (t : List ℕ). decode_of (without_dots t)) (sym (take_rest text 2)) ∙ spelled;
  some = some;
}

not_nil : (xs : List ℕ) (n : ℕ) (b : Bool) → b ≡ (n == 0) → b ≡ false → n ≡ length xs → xs ≢ []
not_nil xs n b e f len h =
    let none : n ≡ 0 = len ∙ ap length h in
    let is : b ≡ true = subst (λ (k : ℕ). b ≡ (k == 0)) none e in
    absurd (cc)

pub returns-clause-put : goal.returns-clause-put
returns-clause-put c = λ origin. (
  c.in_ok-octets.octets.items,
  rw c.as_slice.ensures.value at c.in_ok-extend_from_slice.ensures.items,
  in_digits c.if-word.false (nsap (as_nsap c.args.word.now.bytes.now c.in_ok-octets.octets.items (c.if-not-begins_so.ensures.zero refl) (c.if-not-begins_so.ensures.is_x refl) c.in_ok-octets.ensures.spelled (not_nil c.in_ok-octets.octets.items c.in_ok-octets.octets.len c.is_empty.result c.is_empty.ensures c.if-is_empty.false c.in_ok-octets.octets.ok.0))),
)
