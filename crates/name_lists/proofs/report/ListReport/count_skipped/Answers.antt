use Rattle.std.proofs.Common.{◌≡◌, ◌+◌, ◌++◌, ◌∷◌, [], ℕ, length, take, ap, ◌∙◌}
use Rattle.name_lists.specs.Counts.{Counts, lines_in}
use Rattle.name_lists.specs.declared.report.ListReport.TheInside.{Inside}
use Rattle.name_lists.proofs.Adapting.{same_counts, noted, none_noted}
use Rattle.name_lists.proofs.report.ListReport.count_skipped.Goals as goal
use Rattle.name_lists.proofs.report.ListReport.count_skipped.Goals.{then-self-lt3, else-self-lt3}

pub returns : goal.returns
returns c =
    let old = c.self.inside in
    let number : ℕ = old.taken + old.without_names + old.skipped + 1 in
    let view = c.self.view_is in
    let three : length old.first_skipped ≡ 3 = c.self.told in
    let seen = ap (λ (v : Counts). take 3 (v.first_skipped ++ (lines_in v + 1) ∷ [])) view in
    elim c.if-self-lt3.branch [
      | then-self-lt3 w ↦
          let is = w.self-inside-is in
          same_counts _ _ _ _ _ _ _ _
          (ap (λ (x : Inside). x.taken) is ∙ ap (λ (v : Counts). v.taken) view)
          (ap (λ (x : Inside). x.without_names) is ∙ ap (λ (v : Counts). v.without_names) view)
          (ap (λ (x : Inside). x.skipped + 1) is ∙ ap (λ (v : Counts). v.skipped + 1) view)
          (ap (λ (x : Inside). take (x.skipped + 1) x.first_skipped) is ∙ noted old.skipped number old.first_skipped three w.if-self-lt3.true ∙ seen)
      | else-self-lt3 w ↦
          let is = w.self-inside-is in
          same_counts _ _ _ _ _ _ _ _
          (ap (λ (x : Inside). x.taken) is ∙ ap (λ (v : Counts). v.taken) view)
          (ap (λ (x : Inside). x.without_names) is ∙ ap (λ (v : Counts). v.without_names) view)
          (ap (λ (x : Inside). x.skipped + 1) is ∙ ap (λ (v : Counts). v.skipped + 1) view)
          (ap (λ (x : Inside). take (x.skipped + 1) x.first_skipped) is ∙ none_noted old.skipped number old.first_skipped three w.if-self-lt3.false ∙ seen)
    ]
