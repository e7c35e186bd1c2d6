-- Names from one up, until one exists.
use Rattle.std.proofs.Common.{◌≡◌, ℕ, ◌+◌, ◌-◌, ◌<◌, true, List, [], drop, inl, inr, sym, ap, subst, ◌∙◌, arith}
use Rattle.std.proofs.Math.Seq.{drop-nil}
use Rattle.std.proofs.lemmas.Bool.{cases_lt}
use Rattle.std.proofs.lemmas.List.{drop-drop}
use Rattle.std.specs.Option.{option_copied}
use Rattle.wire_names.specs.rr.domain.DomainName.{DomainName}
use Rattle.zone_answers.specs.declared.find.Neighbours.{Neighbours}
use Rattle.zone_answers.specs.representation.FoundRecords.{IsAbove, Tells}
use Rattle.zone_answers.specs.Zones.{Exists, Sets, ancestor}

pub ancestor-ancestor : (name : DomainName) (j k : ℕ) → ancestor (ancestor name k) j ≡ ancestor name (k + j)
ancestor-ancestor name j k = ap (λ (ls : List (List ℕ)). let d : DomainName = record { labels = ls; is_fqdn = name.is_fqdn } in d) (drop-drop j k name.labels)

module _ (sets : Sets) (name here : DomainName) (beside : Neighbours) (off : ℕ) (is : here ≡ ancestor name off) (not_before : ¬ (IsAbove here (option_copied beside.before))) (not_behind : ¬ (IsAbove here (option_copied beside.behind))) (tells : Tells sets name beside) where
  pub not_here : ¬ (Exists sets (ancestor name off))
  not_here x = elim ((tells off).0 x) [
    | inl b ↦ not_before (subst (λ n. IsAbove n (option_copied beside.before)) (sym is) b)
    | inr b ↦ not_behind (subst (λ n. IsAbove n (option_copied beside.behind)) (sym is) b)
  ]

  pub none_more : ((j : ℕ) → j < off → ¬ (Exists sets (ancestor name j))) → (j : ℕ) → j < off + 1 → ¬ (Exists sets (ancestor name j))
  none_more none j h x = elim (cases_lt j off) [
    | inl below ↦ none j below x
    | inr above ↦ let e : j ≡ off = omega arith in not_here (subst (λ n. Exists sets (ancestor name n)) e x)
  ]

  -- above the root there is nothing more
  pub none_at_all : here ≡ record { labels = []; is_fqdn = true } → ((j : ℕ) → j < off → ¬ (Exists sets (ancestor name j))) → (k : ℕ) → ¬ (Exists sets (ancestor name k))
  none_at_all root none k x = elim (cases_lt k off) [
    | inl below ↦ none k below x
    | inr above ↦
        let more : off + (k - off) ≡ k = omega arith in
        let bare : (ancestor name off).labels ≡ [] = ap (λ (d : DomainName). d.labels) (sym is ∙ root) in
        let same : ancestor name k ≡ ancestor name off = ap (ancestor name) (sym more) ∙ sym (ancestor-ancestor name (k - off) off)
        ∙ ap (λ (ls : List (List ℕ)). let d : DomainName = record { labels = ls; is_fqdn = name.is_fqdn } in d) (ap (drop (k - off)) bare ∙ drop-nil (k - off) ∙ sym bare) in
        not_here (subst (Exists sets) same x)
  ]
