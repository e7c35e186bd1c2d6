use Rattle.std.proofs.Common.{◌≡◌, ◌∙◌, ◌-◌, ◌∷◌, ap, drop, map, refl, replicate, suc, take, zero, ℕ}
use Rattle.std.proofs.lemmas.List.{drop-map, take-map}
use Rattle.std.specs.Char.{to_ascii_lowercase}
use Rattle.wire_names.proofs.values.wire.ShortBytes.set_lowered.Goals as goal

lower_zeros : (n : ℕ) → map to_ascii_lowercase (replicate n zero) ≡ replicate n zero
lower_zeros zero = refl
lower_zeros (suc n) = ap (λ rest. zero ∷ rest) (lower_zeros n)

pub invariant_of-self : goal.invariant_of-self
invariant_of-self c =
    let len : ℕ = c.source.inside.len in (
      c.source.invariant.0,
      ap (drop len) c.lowered_array-self-inside.ensures ∙ drop-map to_ascii_lowercase len c.source.inside.bytes
          ∙ ap (map to_ascii_lowercase) c.source.invariant.1 ∙ lower_zeros (30 - len),
    )

pub returns : goal.returns
returns c =
    let len : ℕ = c.source.inside.len in
    ap (take len) c.lowered_array-self-inside.ensures ∙ take-map to_ascii_lowercase len c.source.inside.bytes ∙ ap (map to_ascii_lowercase) c.source.view_is
