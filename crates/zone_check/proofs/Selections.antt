-- What is selected of all findings is what holds.
use Rattle.std.proofs.Common.{◌≡◌, zero, suc, List, [], ◌∷◌, sym, subst, arith, inl, inr}
use Rattle.std.proofs.lemmas.List.Elements.{Contains-append_left, Contains-append_right, Contains-append_cases}
use Rattle.std.specs.List.{Contains}
use Rattle.zone_check.specs.CheckedZones.{CheckedZone}
use Rattle.zone_check.specs.Findings.{Holds, Selects}
use Rattle.zone_check.specs.Findings.Selects.{none, holds, fails}
use Rattle.zone_check.specs.declared.finding.Finding.{Finding}

nothing : (f : Finding) → ¬ (Contains [] f)
nothing f within = absurd (omega (arith, within.1))

only : (x f : Finding) → Contains (x ∷ []) f → x ≡ f
only x f (zero, within, is) = is
only x f (suc k, within, is) = absurd (omega (arith, within))

pub sound : (zone : CheckedZone) (all selected : List Finding) (f : Finding) → Selects zone all selected → Contains selected f → Holds zone f
sound zone [] [] f none within = absurd (nothing f within)
sound zone _ _ f (holds {all = all} {selected = selected} x rest is) within =
    elim (Contains-append_cases selected (x ∷ []) f within) [ inl before ↦ sound zone all selected f rest before | inr last ↦ subst (Holds zone) (only x f last) is ]
sound zone _ _ f (fails {all = all} {selected = selected} x rest not) within = sound zone all selected f rest within

pub complete : (zone : CheckedZone) (all selected : List Finding) (f : Finding) → Selects zone all selected → Contains all f → Holds zone f → Contains selected f
complete zone [] [] f none within is = absurd (nothing f within)
complete zone _ _ f (holds {all = all} {selected = selected} x rest _) within is =
    elim (Contains-append_cases all (x ∷ []) f within) [ inl before ↦ Contains-append_left selected (x ∷ []) f (complete zone all selected f rest before is) | inr last ↦ Contains-append_right selected (x ∷ []) f last ]
complete zone _ _ f (fails {all = all} {selected = selected} x rest not) within is =
    elim (Contains-append_cases all (x ∷ []) f within) [ inl before ↦ complete zone all selected f rest before is | inr last ↦ absurd (not (subst (Holds zone) (sym (only x f last)) is)) ]
