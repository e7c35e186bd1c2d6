-- Names that enclose others, and where they are no cuts.
use Rattle.std.proofs.Common.{List, [], ap, arith, drop, inl, inr, length, length-append, length-drop, sym, ℕ, ◌++◌, ◌<◌, ◌∙◌, ◌∷◌, ◌≡◌, ◌≤◌}
use Rattle.std.proofs.lemmas.Bool.{cases_lt}
use Rattle.std.proofs.lemmas.List.{append-nil, length-map}
use Rattle.zone_answers.proofs.lemmas.zones.Beside.{encloses_drop}
use Rattle.wire_names.specs.rr.domain.DomainName.{DomainName}
use Rattle.wire_names.specs.rr.domain.NameOrder.{Encloses, lower_label, lower_labels}
use Rattle.zone_answers.specs.Zones.{IsCut, Zone, ancestor}

pub encloses_length : (ns ms : List (List ℕ)) → Encloses ns ms → length ns ≤ length ms
encloses_length ns ms e = omega (arith, ap length e.ends, length-append e.front (lower_labels ns), length-map ms lower_label, length-map ns lower_label)

module _ (zone : Zone) (name : DomainName) where
  -- at the apex and above it there is no cut
  pub no_cut_above : (seen : ℕ) → Encloses (ancestor name seen).labels zone.origin.labels → (i : ℕ) → seen ≤ i → ¬ (IsCut zone (ancestor name i))
  no_cut_above seen apex i h cut = absurd (omega (arith, cut.below_apex, encloses_length _ _ apex, length-drop seen name.labels, length-drop i name.labels))

pub ends_within : (front other xs ys : List (List ℕ)) → front ++ xs ≡ other ++ ys → length xs ≤ length ys → (mid : List (List ℕ)) × (ys ≡ mid ++ xs)
ends_within [] [] xs ys e n = ([], sym e)
ends_within [] (l ∷ other) xs ys e n = absurd (omega (arith, ap length e, length-append other ys))
ends_within (l ∷ front) [] xs ys e n = (l ∷ front, sym e)
ends_within (l ∷ front) (m ∷ other) xs ys e n = let rest : front ++ xs ≡ other ++ ys = cc in ends_within front other xs ys rest n

-- a name above one in the zone that is not at the apex or above it is below the apex
pub below_the_apex : (os ls : List (List ℕ)) (k : ℕ) → Encloses os ls → ¬ (Encloses (drop k ls) os) → Encloses os (drop k ls) × (length os < length (drop k ls))
below_the_apex os ls k within apart =
    let own : Encloses (drop k ls) ls = encloses_drop k ls in
    let split : own.front ++ lower_labels (drop k ls) ≡ within.front ++ lower_labels os = sym own.ends ∙ within.ends in
    elim (cases_lt (length os) (length (drop k ls))) [
      | inl less ↦
          let r = ends_within within.front own.front (lower_labels os) (lower_labels (drop k ls)) (sym split) (omega (arith, length-map os lower_label, length-map (drop k ls) lower_label)) in
          (record { front = r.0; ends = r.1 }, less)
      | inr more ↦
          let r = ends_within own.front within.front (lower_labels (drop k ls)) (lower_labels os) split (omega (arith, length-map os lower_label, length-map (drop k ls) lower_label)) in
          absurd (apart (record { front = r.0; ends = r.1 }))
    ]

pub not_empty : (ls os : List (List ℕ)) → ¬ (Encloses ls os) → 0 < length ls
not_empty [] os apart = absurd (apart (record { front = lower_labels os; ends = sym (append-nil (lower_labels os)) }))
not_empty (l ∷ ls) os apart = omega arith

-- what is right above a name in the zone that is below the apex is in the zone
pub parent_within : (os ls : List (List ℕ)) → Encloses os ls → ¬ (Encloses ls os) → Encloses os (drop 1 ls)
parent_within os ls within apart =
    let below = below_the_apex os ls 0 within apart in
    let own : Encloses (drop 1 ls) ls = encloses_drop 1 ls in
    let r = ends_within within.front own.front (lower_labels os) (lower_labels (drop 1 ls)) (sym within.ends ∙ own.ends) (omega (arith, below.1, length-map os lower_label, length-map (drop 1 ls) lower_label, length-drop 1 ls)) in
    record { front = r.0; ends = r.1 }
