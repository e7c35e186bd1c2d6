-- A zone gives a name and a type at most one answer.
use Rattle.std.proofs.Common.{◌≡◌, ℕ, Some, inl, inr, refl, sym, ap, ◌∙◌, arith}
use Rattle.std.proofs.lemmas.Bool.{cases_lt}
use Rattle.wire_names.specs.rr.domain.DomainName.{DomainName}
use Rattle.zone_answers.proofs.lemmas.zones.Outcomes.{closest_once}
use Rattle.zone_answers.specs.Zones.{Answers, AnswersDirectly, Delegates, Outcome, Records, Redirects, Zone, ancestor, at_cut, at_node, delegated, denied, direct, matched, redirected, redirection, referral, rrset, by_wildcard, wild, wildcard}

module _ (zone : Zone) (name : DomainName) (t : ℕ) where
  cut_once : (j k : ℕ) → Delegates zone name j → Delegates zone name k → j ≡ k
  cut_once j k a b = elim (cases_lt j k) [
    | inl less ↦ absurd (a.highest k less b.cut)
    | inr more ↦ elim (cases_lt k j) [ inl greater ↦ absurd (b.highest j greater a.cut) | inr same ↦ omega arith ]
  ]

  same_servers : (j k : ℕ) (rs qs : Records) → j ≡ k → rrset zone.sets (ancestor name j) 2 ≡ Some rs → rrset zone.sets (ancestor name k) 2 ≡ Some qs → rs ≡ qs
  same_servers j k rs qs e a b = let f : Some rs ≡ Some qs = sym a ∙ ap (λ n. rrset zone.sets (ancestor name n) 2) e ∙ b in cc

  same_source : (j k : ℕ) → j ≡ k → by_wildcard (at_node zone.sets (wildcard (ancestor name j)) t) ≡ by_wildcard (at_node zone.sets (wildcard (ancestor name k)) t)
  same_source j k e = ap (λ n. by_wildcard (at_node zone.sets (wildcard (ancestor name n)) t)) e

  direct_once : (one other : Outcome) → AnswersDirectly zone name t one → AnswersDirectly zone name t other → one ≡ other
  direct_once one other (delegated {k = j} {servers = rs} d p s) (delegated {k = k} {servers = qs} e q r) = ap referral (same_servers j k rs qs (cut_once j k d e) s r)
  direct_once one other (delegated {k = j} d p s) (at_cut e ds) = absurd (p (cut_once j 0 d e) ds)
  direct_once one other (delegated {k = j} d p s) (matched auth x) = absurd (auth j d.cut)
  direct_once one other (delegated {k = j} d p s) (wild auth n c w) = absurd (auth j d.cut)
  direct_once one other (delegated {k = j} d p s) (denied auth n w) = absurd (auth j d.cut)
  direct_once one other (at_cut d ds) (delegated {k = k} e q r) = absurd (q (cut_once k 0 e d) ds)
  direct_once one other (at_cut d ds) (at_cut e fs) = refl
  direct_once one other (at_cut d ds) (matched auth x) = absurd (auth 0 d.cut)
  direct_once one other (at_cut d ds) (wild auth n c w) = absurd (auth 0 d.cut)
  direct_once one other (at_cut d ds) (denied auth n w) = absurd (auth 0 d.cut)
  direct_once one other (matched auth x) (delegated {k = k} e q r) = absurd (auth k e.cut)
  direct_once one other (matched auth x) (at_cut e fs) = absurd (auth 0 e.cut)
  direct_once one other (matched auth x) (matched uth y) = refl
  direct_once one other (matched auth x) (wild uth n c w) = absurd (n x)
  direct_once one other (matched auth x) (denied uth n w) = absurd (n x)
  direct_once one other (wild auth n c w) (delegated {k = k} e q r) = absurd (auth k e.cut)
  direct_once one other (wild auth n c w) (at_cut e fs) = absurd (auth 0 e.cut)
  direct_once one other (wild auth n c w) (matched uth y) = absurd (n y)
  direct_once one other (wild {k = j} auth n c w) (wild {k = k} uth m d v) = same_source j k (closest_once zone.sets name j k c d)
  direct_once one other (wild {k = j} auth n c w) (denied uth m v) = absurd (v j c w)
  direct_once one other (denied auth n w) (delegated {k = k} e q r) = absurd (auth k e.cut)
  direct_once one other (denied auth n w) (at_cut e fs) = absurd (auth 0 e.cut)
  direct_once one other (denied auth n w) (matched uth y) = absurd (n y)
  direct_once one other (denied auth n w) (wild {k = k} uth m d v) = absurd (w k d v)
  direct_once one other (denied auth n w) (denied uth m v) = refl

  redirect_once : (j k : ℕ) → Redirects zone name j → Redirects zone name k → j ≡ k
  redirect_once j k a b = elim (cases_lt j k) [
    | inl less ↦ absurd (a.highest k less b.is_ancestor b.owner)
    | inr more ↦ elim (cases_lt k j) [ inl greater ↦ absurd (b.highest j greater a.is_ancestor a.owner) | inr same ↦ omega arith ]
  ]

  same_dname : (j k : ℕ) (rs qs : Records) → j ≡ k → rrset zone.sets (ancestor name j) 39 ≡ Some rs → rrset zone.sets (ancestor name k) 39 ≡ Some qs → redirection j rs ≡ redirection k qs
  same_dname j k rs qs e a b =
      let f : Some rs ≡ Some qs = sym a ∙ ap (λ n. rrset zone.sets (ancestor name n) 39) e ∙ b in
      let same : rs ≡ qs = cc in
      ap (λ n. redirection n rs) e ∙ ap (redirection k) same

  pub once : (one other : Outcome) → Answers zone name t one → Answers zone name t other → one ≡ other
  once one other (redirected {k = j} {dname = rs} r s) (redirected {k = k} {dname = qs} q p) = same_dname j k rs qs (redirect_once j k r q) s p
  once one other (redirected {k = j} r s) (direct none a) = absurd (none j r)
  once one other (direct none a) (redirected {k = k} r s) = absurd (none k r)
  once one other (direct none a) (direct free b) = direct_once one other a b
