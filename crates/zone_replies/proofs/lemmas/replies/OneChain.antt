-- A chain has one answer section and one ending.
use Rattle.std.proofs.Common.{◌≡◌, ℕ, ◌++◌, Option, Some, refl, sym, ap, subst, ◌∙◌}
use Rattle.std.specs.Option.{IsSomeAnd}
use Rattle.std.proofs.lemmas.Bool.{false≢true}
use Rattle.wire_names.specs.rr.domain.DomainName.{DomainName}
use Rattle.wire_names.specs.rr.domain.NameOrder.{lower_name}
use Rattle.zone_answers.proofs.lemmas.zones.Unique.{once}
use Rattle.zone_answers.specs.Chains.{Chases, IsIn, Step, comes_back, ends, finishes, follows, leads, leaves, owns_cname, step, stops}
use Rattle.zone_answers.specs.Endings.{Ending}
use Rattle.zone_answers.specs.Zones.{Answers, Outcome, Records, Zone}

same_ends : (rs qs : Records) (end last : Ending) → ends rs end ≡ ends qs last → (rs ≡ qs) × (end ≡ last)
same_ends rs qs end last e = (cc, cc)

same_records : (rs qs : Records) (to on : Option DomainName) → leads rs to ≡ leads qs on → rs ≡ qs
same_records rs qs to on e = cc

same_way : (rs qs : Records) (to on : Option DomainName) → leads rs to ≡ leads qs on → to ≡ on
same_way rs qs to on e = cc

same_target : (one other : DomainName) → Some one ≡ Some other → one ≡ other
same_target one other e = cc

apart : (rs qs : Records) (end : Ending) (to : Option DomainName) → ends rs end ≡ leads qs to → ⊥
apart rs qs end to e = absurd cc

module _ (zone : Zone) (t : ℕ) where
  same_step : (before : Records) (name : DomainName) (o p : Outcome) (one other : Step) → Answers zone (lower_name name) t o → Answers zone (lower_name name) t p → step t before name o ≡ one → step t before name p ≡ other → one ≡ other
  same_step before name o p one other a b e f = sym e ∙ ap (step t before name) (once zone (lower_name name) t o p a b) ∙ f

  pub chain_once : (left : ℕ) (before : Records) (name : DomainName) (one other : Records) (end last : Ending) → Chases zone t left before name one end → Chases zone t left before name other last → (one ≡ other) × (end ≡ last)
  chain_once left before name one other end last (finishes {outcome = po} {rs = prs} pa ps) (finishes {outcome = qo} {rs = qrs} qa qs) =
      same_ends prs qrs end last (same_step before name po qo (ends prs end) (ends qrs last) pa qa ps qs)
  chain_once left before name one other end last (finishes {outcome = po} {rs = prs} pa ps) (follows {left = qleft} {target = qtarget} {outcome = qo} {rs = qrs} {rest = qrest} qa qs qi qf qon) =
      absurd (apart prs qrs end (Some qtarget) (same_step before name po qo (ends prs end) (leads qrs (Some qtarget)) pa qa ps qs))
  chain_once left before name one other end last (finishes {outcome = po} {rs = prs} pa ps) (comes_back {target = qtarget} {outcome = qo} {rs = qrs} qa qs qf) =
      absurd (apart prs qrs end (Some qtarget) (same_step before name po qo (ends prs end) (leads qrs (Some qtarget)) pa qa ps qs))
  chain_once left before name one other end last (finishes {outcome = po} {rs = prs} pa ps) (leaves {outcome = qo} {rs = qrs} {to = qto} qa qs qout) =
      absurd (apart prs qrs end qto (same_step before name po qo (ends prs end) (leads qrs qto) pa qa ps qs))
  chain_once left before name one other end last (finishes {outcome = po} {rs = prs} pa ps) (stops {outcome = qo} {rs = qrs} {to = qto} qa qs) =
      absurd (apart prs qrs end qto (same_step before name po qo (ends prs end) (leads qrs qto) pa qa ps qs))
  chain_once left before name one other end last (follows {left = pleft} {target = ptarget} {outcome = po} {rs = prs} {rest = prest} pa ps pi pf pon) (finishes {outcome = qo} {rs = qrs} qa qs) =
      absurd (apart qrs prs last (Some ptarget) (sym (same_step before name po qo (leads prs (Some ptarget)) (ends qrs last) pa qa ps qs)))
  chain_once left before name one other end last (follows {left = pleft} {target = ptarget} {outcome = po} {rs = prs} {rest = prest} pa ps pi pf pon) (follows {left = qleft} {target = qtarget} {outcome = qo} {rs = qrs} {rest = qrest} qa qs qi qf qon) =
      let e : leads prs (Some ptarget) ≡ leads qrs (Some qtarget) = same_step before name po qo (leads prs (Some ptarget)) (leads qrs (Some qtarget)) pa qa ps qs in
      let same : prs ≡ qrs = same_records prs qrs (Some ptarget) (Some qtarget) e in
      let to : ptarget ≡ qtarget = same_target ptarget qtarget (same_way prs qrs (Some ptarget) (Some qtarget) e) in
      let rest = chain_once pleft (before ++ prs) ptarget prest qrest end last pon
      (subst (λ (n : DomainName). Chases zone t pleft (before ++ prs) n qrest last) (sym to) (subst (λ (rs : Records). Chases zone t pleft (before ++ rs) qtarget qrest last) (sym same) qon)) in
      (ap (λ rs. rs ++ prest) same ∙ ap (λ rs. qrs ++ rs) rest.0, rest.1)
  chain_once left before name one other end last (follows {left = pleft} {target = ptarget} {outcome = po} {rs = prs} {rest = prest} pa ps pi pf pon) (comes_back {target = qtarget} {outcome = qo} {rs = qrs} qa qs qf) =
      let e : leads prs (Some ptarget) ≡ leads qrs (Some qtarget) = same_step before name po qo (leads prs (Some ptarget)) (leads qrs (Some qtarget)) pa qa ps qs in
      let same : prs ≡ qrs = same_records prs qrs (Some ptarget) (Some qtarget) e in
      let to : ptarget ≡ qtarget = same_target ptarget qtarget (same_way prs qrs (Some ptarget) (Some qtarget) e) in
      absurd (false≢true (sym pf ∙ ap (λ n. owns_cname n (before ++ prs)) to ∙ ap (λ rs. owns_cname qtarget (before ++ rs)) same ∙ qf))
  chain_once left before name one other end last (follows {left = pleft} {target = ptarget} {outcome = po} {rs = prs} {rest = prest} pa ps pi pf pon) (leaves {outcome = qo} {rs = qrs} {to = qto} qa qs qout) =
      let e : leads prs (Some ptarget) ≡ leads qrs qto = same_step before name po qo (leads prs (Some ptarget)) (leads qrs qto) pa qa ps qs in
      absurd (qout (subst (λ o. IsSomeAnd o (IsIn zone)) (same_way prs qrs (Some ptarget) qto e) pi))
  chain_once left before name one other end last (comes_back {target = ptarget} {outcome = po} {rs = prs} pa ps pf) (finishes {outcome = qo} {rs = qrs} qa qs) =
      absurd (apart qrs prs last (Some ptarget) (sym (same_step before name po qo (leads prs (Some ptarget)) (ends qrs last) pa qa ps qs)))
  chain_once left before name one other end last (comes_back {target = ptarget} {outcome = po} {rs = prs} pa ps pf) (follows {left = qleft} {target = qtarget} {outcome = qo} {rs = qrs} {rest = qrest} qa qs qi qf qon) =
      let e : leads prs (Some ptarget) ≡ leads qrs (Some qtarget) = same_step before name po qo (leads prs (Some ptarget)) (leads qrs (Some qtarget)) pa qa ps qs in
      let same : prs ≡ qrs = same_records prs qrs (Some ptarget) (Some qtarget) e in
      let to : ptarget ≡ qtarget = same_target ptarget qtarget (same_way prs qrs (Some ptarget) (Some qtarget) e) in
      absurd (false≢true (sym qf ∙ sym (ap (λ n. owns_cname n (before ++ qrs)) to) ∙ sym (ap (λ rs. owns_cname ptarget (before ++ rs)) same) ∙ pf))
  chain_once left before name one other end last (comes_back {target = ptarget} {outcome = po} {rs = prs} pa ps pf) (comes_back {target = qtarget} {outcome = qo} {rs = qrs} qa qs qf) =
      (same_records prs qrs (Some ptarget) (Some qtarget) (same_step before name po qo (leads prs (Some ptarget)) (leads qrs (Some qtarget)) pa qa ps qs), refl)
  chain_once left before name one other end last (comes_back {target = ptarget} {outcome = po} {rs = prs} pa ps pf) (leaves {outcome = qo} {rs = qrs} {to = qto} qa qs qout) =
      (same_records prs qrs (Some ptarget) qto (same_step before name po qo (leads prs (Some ptarget)) (leads qrs qto) pa qa ps qs), refl)
  chain_once left before name one other end last (comes_back {target = ptarget} {outcome = po} {rs = prs} pa ps pf) (stops {outcome = qo} {rs = qrs} {to = qto} qa qs) =
      (same_records prs qrs (Some ptarget) qto (same_step before name po qo (leads prs (Some ptarget)) (leads qrs qto) pa qa ps qs), refl)
  chain_once left before name one other end last (leaves {outcome = po} {rs = prs} {to = pto} pa ps pout) (finishes {outcome = qo} {rs = qrs} qa qs) =
      absurd (apart qrs prs last pto (sym (same_step before name po qo (leads prs pto) (ends qrs last) pa qa ps qs)))
  chain_once left before name one other end last (leaves {outcome = po} {rs = prs} {to = pto} pa ps pout) (follows {left = qleft} {target = qtarget} {outcome = qo} {rs = qrs} {rest = qrest} qa qs qi qf qon) =
      let e : leads prs pto ≡ leads qrs (Some qtarget) = same_step before name po qo (leads prs pto) (leads qrs (Some qtarget)) pa qa ps qs in
      absurd (pout (subst (λ o. IsSomeAnd o (IsIn zone)) (sym (same_way prs qrs pto (Some qtarget) e)) qi))
  chain_once left before name one other end last (leaves {outcome = po} {rs = prs} {to = pto} pa ps pout) (comes_back {target = qtarget} {outcome = qo} {rs = qrs} qa qs qf) =
      (same_records prs qrs pto (Some qtarget) (same_step before name po qo (leads prs pto) (leads qrs (Some qtarget)) pa qa ps qs), refl)
  chain_once left before name one other end last (leaves {outcome = po} {rs = prs} {to = pto} pa ps pout) (leaves {outcome = qo} {rs = qrs} {to = qto} qa qs qout) =
      (same_records prs qrs pto qto (same_step before name po qo (leads prs pto) (leads qrs qto) pa qa ps qs), refl)
  chain_once left before name one other end last (leaves {outcome = po} {rs = prs} {to = pto} pa ps pout) (stops {outcome = qo} {rs = qrs} {to = qto} qa qs) =
      (same_records prs qrs pto qto (same_step before name po qo (leads prs pto) (leads qrs qto) pa qa ps qs), refl)
  chain_once left before name one other end last (stops {outcome = po} {rs = prs} {to = pto} pa ps) (finishes {outcome = qo} {rs = qrs} qa qs) =
      absurd (apart qrs prs last pto (sym (same_step before name po qo (leads prs pto) (ends qrs last) pa qa ps qs)))
  chain_once left before name one other end last (stops {outcome = po} {rs = prs} {to = pto} pa ps) (comes_back {target = qtarget} {outcome = qo} {rs = qrs} qa qs qf) =
      (same_records prs qrs pto (Some qtarget) (same_step before name po qo (leads prs pto) (leads qrs (Some qtarget)) pa qa ps qs), refl)
  chain_once left before name one other end last (stops {outcome = po} {rs = prs} {to = pto} pa ps) (leaves {outcome = qo} {rs = qrs} {to = qto} qa qs qout) =
      (same_records prs qrs pto qto (same_step before name po qo (leads prs pto) (leads qrs qto) pa qa ps qs), refl)
  chain_once left before name one other end last (stops {outcome = po} {rs = prs} {to = pto} pa ps) (stops {outcome = qo} {rs = qrs} {to = qto} qa qs) =
      (same_records prs qrs pto qto (same_step before name po qo (leads prs pto) (leads qrs qto) pa qa ps qs), refl)
