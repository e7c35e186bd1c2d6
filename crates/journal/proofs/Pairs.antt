-- Two files, of which the one with the higher generation counts, and the first where they have one generation.
use Rattle.std.proofs.Common.{◌≡◌, ◌⊎◌, inl, inr, ◌<◌, ◌≤◌, ◌^◌, ℕ, List, [], ◌∷◌, sym, ◌∙◌, subst, refl, arith}
use Rattle.std.proofs.lemmas.Nat.{from_be_bytes-to_be_bytes_8}
use Rattle.journal.specs.Frames.{StandsFor}
use Rattle.journal.specs.Generations.{IsBeingReplaced, StandFor, generation_of, header}
use Rattle.journal.proofs.Recovery.{unique}

-- a generation is that of the entries that begin with it
generation_is : (generation : ℕ) (entries : List (List ℕ)) → generation < 2 ^ 64 → generation_of (header generation ∷ entries) ≡ generation
generation_is generation entries small = from_be_bytes-to_be_bytes_8 generation small

pub one_of_two : (file other : List ℕ) (entries others : List (List ℕ)) → StandFor file other entries → StandFor file other others → entries ≡ others
one_of_two file other entries others p q = by p.4 q.4 (unique file p.0 q.0 p.2 q.2) (unique other p.1 q.1 p.3 q.3)
  where
    by : {mine theirs mine' theirs' : List (List ℕ)} → ((generation_of theirs ≤ generation_of mine) × (entries ≡ mine)) ⊎ ((generation_of mine < generation_of theirs) × (entries ≡ theirs))
        → ((generation_of theirs' ≤ generation_of mine') × (others ≡ mine')) ⊎ ((generation_of mine' < generation_of theirs') × (others ≡ theirs'))
        → mine ≡ mine' → theirs ≡ theirs' → entries ≡ others
    by (inl a) (inl b) m t = a.1 ∙ m ∙ sym b.1
    by (inr a) (inr b) m t = a.1 ∙ t ∙ sym b.1
    by {mine} {theirs} {mine'} {theirs'} (inl a) (inr b) m t =
        let c : generation_of theirs' ≤ generation_of mine' = subst (λ x. generation_of x ≤ generation_of mine') t (subst (λ x. generation_of theirs ≤ generation_of x) m a.0) in
        absurd (omega (arith, b.0, c))
    by {mine} {theirs} {mine'} {theirs'} (inr a) (inl b) m t =
        let c : generation_of mine' < generation_of theirs' = subst (λ x. generation_of x < generation_of theirs') m (subst (λ x. generation_of mine < generation_of x) t a.0) in
        absurd (omega (arith, b.0, c))

module _ (now new : List (List ℕ)) (generation : ℕ) (file spare : List ℕ) where
  pub second_done : StandsFor file now → generation_of now < generation → generation < 2 ^ 64 → StandsFor spare (header generation ∷ new) → StandFor file spare (header generation ∷ new)
  second_done stands higher small all =
      (now, (header generation ∷ new), stands, all, inr (subst (λ n. generation_of now < n) (sym (generation_is generation new small)) higher, refl))

  pub first_done : StandsFor file now → generation_of now < generation → generation < 2 ^ 64 → StandsFor spare (header generation ∷ new) → StandFor spare file (header generation ∷ new)
  first_done stands higher small all =
      let above : generation_of now < generation_of (header generation ∷ new) = subst (λ n. generation_of now < n) (sym (generation_is generation new small)) higher in
      ((header generation ∷ new), now, all, stands, inl (omega (arith, above), refl))

  module _ (old : List (List ℕ)) where
    pub second_is : StandsFor file now → generation_of old ≤ generation_of now → generation_of now < generation → generation < 2 ^ 64
        → IsBeingReplaced old (header generation ∷ new) spare → StandFor file spare now ⊎ StandFor file spare (header generation ∷ new)
    second_is stands lower higher small (inl before) = inl (now, old, stands, before, inl (lower, refl))
    second_is stands lower higher small (inr (inl none)) =
        let least : generation_of [] ≤ generation_of now = omega arith in
        inl (now, [], stands, none, inl (least, refl))
    second_is stands lower higher small (inr (inr all)) = inr (second_done stands higher small all)

    pub first_is : StandsFor file now → generation_of old < generation_of now → generation_of now < generation → generation < 2 ^ 64
        → IsBeingReplaced old (header generation ∷ new) spare → StandFor spare file now ⊎ StandFor spare file (header generation ∷ new)
    first_is stands lower higher small (inl before) = inl (old, now, before, stands, inr (lower, refl))
    first_is stands lower higher small (inr (inl none)) =
        let some : generation_of [] < generation_of now = omega (arith, lower) in
        inl ([], now, none, stands, inr (some, refl))
    first_is stands lower higher small (inr (inr all)) = inr (first_done stands higher small all)
