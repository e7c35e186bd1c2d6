-- What is said of a zone stays said where more is.
use Rattle.std.proofs.Common.{◌≡◌, ◌+◌, ◌<◌, ℕ, List, inl, inr, subst, sym, arith}
use Rattle.std.specs.List.{slice_index_or}
use Rattle.std.proofs.lemmas.Bool.{cases_lt}
use Rattle.wire_messages.specs.declared.rr.rdata.RData.{RData}
use Rattle.wire_messages.specs.declared.rr.record.Record.{Record}
use Rattle.zone_answers.specs.declared.features.Features.{Features}
use Rattle.zone_answers.specs.representation.Features.{Covers, Includes}

pub includes_via : (less some more : Features) → Includes less some → Includes some more → Includes less more
includes_via less some more h k = record {
  cuts = record { each = λ len o. k.cuts.each len (h.cuts.each len o) };
  dnames = λ e. k.dnames (h.dnames e);
  wildcards = record { each = λ len o. k.wildcards.each len (h.wildcards.each len o) };
}

covers_more : (less more : Features) (r : Record RData) → Includes less more → Covers less r → Covers more r
covers_more less more r i h = record {
  cuts = λ e. i.cuts.each _ (h.cuts e);
  dnames = λ e. i.dnames (h.dnames e);
  wildcards = record { each = λ k lt e. i.wildcards.each _ (h.wildcards.each k lt e) };
}

-- with one record more
pub covers_next : (rs : List (Record RData)) (n : ℕ) (less more : Features) → Includes less more → ((k : ℕ) (d : Record RData) → k < n → Covers less (slice_index_or rs k d))
    → ((d : Record RData) → Covers more (slice_index_or rs n d)) → (k : ℕ) (d : Record RData) → k < n + 1 → Covers more (slice_index_or rs k d)
covers_next rs n less more i h last k d lt = elim (cases_lt k n) [
  | inl before ↦ covers_more less more (slice_index_or rs k d) i (h k d before)
  | inr behind ↦ let e : k ≡ n = omega (arith, lt, behind) in subst (λ j. Covers more (slice_index_or rs j d)) (sym e) (last d)
]
