-- The highest DNAME, from a name upwards, and what it redirects.
use Rattle.std.proofs.Common.{◌≡◌, ℕ, ◌+◌, ◌-◌, ◌<◌, ◌≤◌, Bool, Bor, true, false, List, [], ◌∷◌, Option, Some, None, drop, length, inl, inr, refl, sym, ap, subst, ◌∙◌, arith, length-drop}
use Rattle.std.specs.Prelude.{is_some}
use Rattle.std.specs.Option.{option_copied}
use Rattle.std.proofs.lemmas.Bool.{cases_lt, false≢true}
use Rattle.wire_names.specs.rr.domain.DomainName.{DomainName}
use Rattle.wire_names.specs.rr.domain.NameOrder.{Encloses}
use Rattle.zone_answers.proofs.lemmas.names.Enclosers.{ancestor-ancestor}
use Rattle.zone_answers.proofs.lemmas.zones.Cuts.{below_the_apex, encloses_length, no_cut_above, not_empty}
use Rattle.zone_answers.proofs.lemmas.zones.Outcomes.{is_above, owns}
use Rattle.zone_answers.specs.declared.redirections.Redirection.{Redirection}
use Rattle.zone_answers.specs.representation.FoundRecords.{IsEncloser, RedirectedAt, RedirectedBy, TopDname, higher}
use Rattle.zone_answers.specs.Zones.{Answers, Exists, HasClosestEncloser, HasDname, IsCut, Records, Redirects, Zone, ancestor, redirected, redirection, rrset}

-- what is known once so many names were looked at
pub record TopBelow (zone : Zone) (name : DomainName) (seen : ℕ) (by : Redirection) : Type 0 where
  pub off : ℕ
  pub below : off < seen
  pub owner : HasDname zone (ancestor name off)
  pub highest : (j : ℕ) → off < j → j < seen → ¬ (HasDname zone (ancestor name j))
  pub uncut : (j : ℕ) → off ≤ j → j < seen → ¬ (IsCut zone (ancestor name j))
  pub dname : rrset zone.sets (ancestor name off) 39 ≡ Some by.dname.now
  pub labels : by.labels ≡ length (drop off name.labels)

abbrev pub TopSoFar : Zone → DomainName → ℕ → Option Redirection → Type 0
TopSoFar zone name seen None = (i : ℕ) → i < seen → HasDname zone (ancestor name i) → (j : ℕ) × (i ≤ j) × (j < seen) × IsCut zone (ancestor name j)
TopSoFar zone name seen (Some by) = TopBelow zone name seen by

module _ (zone : Zone) (name : DomainName) where
  pub none_yet : TopSoFar zone name 0 None
  none_yet i h = absurd (omega arith)

  -- one more name that neither cuts the zone nor owns a DNAME
  one_more : (seen : ℕ) (by : Option Redirection) → ¬ (IsCut zone (ancestor name seen)) → ¬ (HasDname zone (ancestor name seen)) → TopSoFar zone name seen by → TopSoFar zone name (seen + 1) by
  one_more seen None whole none h = λ i below x. elim (cases_lt i seen) [
    | inl before ↦ let r = h i before x in (r.0, r.1, omega (arith, r.2), r.3)
    | inr at ↦ let e : i ≡ seen = omega arith in absurd (none (subst (λ k. HasDname zone (ancestor name k)) e x))
  ]
  one_more seen (Some by) whole none h = record {
    off = h.off;
    below = omega (arith, h.below);
    owner = h.owner;
    highest = λ j above below x. elim (cases_lt j seen) [
      | inl before ↦ h.highest j above before x
      | inr at ↦ let e : j ≡ seen = omega arith in none (subst (λ k. HasDname zone (ancestor name k)) e x)
    ];
    uncut = λ j above below x. elim (cases_lt j seen) [
      | inl before ↦ h.uncut j above before x
      | inr at ↦ let e : j ≡ seen = omega arith in whole (subst (λ k. IsCut zone (ancestor name k)) e x)
    ];
    dname = h.dname;
    labels = h.labels;
  }

  pub step_up : (seen labels : ℕ) (is_cut : Bool) (dname : Option (Bor Records)) (below : Option Redirection) → labels ≡ length (drop seen name.labels) → Encloses zone.origin.labels (ancestor name seen).labels
      → (is_cut ≡ true → IsCut zone (ancestor name seen)) → (IsCut zone (ancestor name seen) → is_cut ≡ true) → option_copied dname ≡ rrset zone.sets (ancestor name seen) 39
      → TopSoFar zone name seen below → TopSoFar zone name (seen + 1) (higher labels is_cut dname below)
  step_up seen labels true dname below l inside cut told set h = λ i less x. (seen, omega arith, omega arith, cut refl)
  step_up seen labels false None below l inside cut told set h =
      one_more seen below (λ c. false≢true (told c)) (λ x. false≢true (ap is_some set ∙ x.dname)) h
  step_up seen labels false (Some dname) below l inside cut told set h = record {
    off = seen;
    below = omega arith;
    owner = record { within = inside; dname = ap is_some (sym set) };
    highest = λ j above less. absurd (omega arith);
    uncut = λ j above less c. let e : j ≡ seen = omega arith in false≢true (told (subst (λ k. IsCut zone (ancestor name k)) e c));
    dname = sym set;
    labels = l;
  }

  -- above the apex no name owns records of the zone
  none_above : (seen : ℕ) → Encloses (ancestor name seen).labels zone.origin.labels → (j : ℕ) → seen < j → j ≤ length name.labels → ¬ (HasDname zone (ancestor name j))
  none_above seen apex j h real x = absurd (omega (arith, encloses_length _ _ x.within, encloses_length _ _ apex, length-drop seen name.labels, length-drop j name.labels))

  pub in_the_end : (seen : ℕ) (by : Option Redirection) → seen ≤ length name.labels → Encloses (ancestor name seen).labels zone.origin.labels → TopSoFar zone name (seen + 1) by → TopDname zone name by
  in_the_end seen None real apex h = λ k least x. elim (cases_lt k (seen + 1)) [
    | inl below ↦ let r = h k below x in (r.0, r.1, r.3)
    | inr above ↦ absurd (none_above seen apex k (omega arith) least x)
  ]
  in_the_end seen (Some by) real apex h = record {
    off = h.off;
    is_ancestor = omega (arith, h.below);
    owner = h.owner;
    highest = λ j above least x. elim (cases_lt j (seen + 1)) [ inl below ↦ h.highest j above below x | inr over ↦ none_above seen apex j (omega arith) least x ];
    uncut = λ j above c. elim (cases_lt j (seen + 1)) [ inl below ↦ h.uncut j above below c | inr over ↦ no_cut_above zone name seen apex j (omega arith) c ];
    dname = h.dname;
    labels = h.labels;
  }

  copied_some : (o : Option (Bor Records)) → is_some (option_copied o) ≡ is_some o
  copied_some None = refl
  copied_some (Some rs) = refl

  -- one step up from a name below the apex
  pub climb : (seen : ℕ) (here : DomainName) (servers dname : Option (Bor Records)) (is_cut : Bool) (below : Option Redirection) → here ≡ ancestor name seen → Encloses zone.origin.labels here.labels → ¬ (Encloses here.labels zone.origin.labels)
      → is_cut ≡ is_some servers → option_copied servers ≡ rrset zone.sets here 2 → option_copied dname ≡ rrset zone.sets here 39 → TopSoFar zone name seen below → TopSoFar zone name (seen + 1) (higher (length here.labels) is_cut dname below)
  climb seen here servers dname is_cut below is inside apart tests cut set h =
      let told : is_cut ≡ is_some (rrset zone.sets here 2) = tests ∙ sym (copied_some servers) ∙ ap is_some cut in
      let lower = below_the_apex zone.origin.labels here.labels 0 inside apart in
      step_up seen (length here.labels) is_cut dname below (ap (λ (d : DomainName). length d.labels) is) (subst (λ (d : DomainName). Encloses zone.origin.labels d.labels) is inside)
      (λ b. subst (IsCut zone) is (record { within = inside; below_apex = lower.1; servers = sym told ∙ b }))
      (λ c. let here_cut : IsCut zone here = subst (IsCut zone) (sym is) c in told ∙ here_cut.servers)
      (set ∙ ap (λ (d : DomainName). rrset zone.sets d 39) is) h

  -- the last step, at the apex
  pub arrive : (seen : ℕ) (here : DomainName) (dname : Option (Bor Records)) (below : Option Redirection) → here ≡ ancestor name seen → seen ≤ length name.labels → Encloses zone.origin.labels here.labels → Encloses here.labels zone.origin.labels
      → option_copied dname ≡ rrset zone.sets here 39 → TopSoFar zone name seen below → TopDname zone name (higher (length here.labels) false dname below)
  arrive seen here dname below is real inside apex set h =
      let at : Encloses (ancestor name seen).labels zone.origin.labels = subst (λ (d : DomainName). Encloses d.labels zone.origin.labels) is apex in
      in_the_end seen (higher (length here.labels) false dname below) real at
      (step_up seen (length here.labels) false dname below (ap (λ (d : DomainName). length d.labels) is) (subst (λ (d : DomainName). Encloses zone.origin.labels d.labels) is inside)
      (λ b. absurd (false≢true b)) (λ c. absurd (no_cut_above zone name seen at seen (omega arith) c)) (set ∙ ap (λ (d : DomainName). rrset zone.sets d 39) is) h)

  -- what redirects a name is the highest DNAME from one above it up, where none owns a DNAME between
  module _ (k : ℕ) (above : 0 < k) (real : k ≤ length name.labels) (apart : (i : ℕ) → 0 < i → i < k → ¬ (HasDname zone (ancestor name i))) where
    further : (j : ℕ) → k ≤ j → ancestor (ancestor name k) (j - k) ≡ ancestor name j
    further j h = let e : k + (j - k) ≡ j = omega arith in ancestor-ancestor name (j - k) k ∙ ap (ancestor name) e

    pub from_above : (by : Option Redirection) → TopDname zone (ancestor name k) by → RedirectedAt zone name by
    from_above None top = λ j r. elim (cases_lt j k) [
      | inl below ↦ apart j r.above below r.owner
      | inr over ↦
          let found = top (j - k) (omega (arith, r.is_ancestor, length-drop k name.labels)) (subst (HasDname zone) (sym (further j over)) r.owner) in
          r.uncut (k + found.0) (omega (arith, found.1)) (subst (IsCut zone) (ancestor-ancestor name found.0 k) found.2)
    ]
    from_above (Some by) top =
        let same : ancestor (ancestor name k) top.off ≡ ancestor name (k + top.off) = ancestor-ancestor name top.off k in
        record {
          off = k + top.off;
          redirects = record {
            above = omega arith;
            is_ancestor = omega (arith, top.is_ancestor, length-drop k name.labels);
            owner = subst (HasDname zone) same top.owner;
            highest = λ j h least x. top.highest (j - k) (omega arith) (omega (arith, length-drop k name.labels)) (subst (HasDname zone) (sym (further j (omega arith))) x);
            uncut = λ j h c. top.uncut (j - k) (omega arith) (subst (IsCut zone) (sym (further j (omega arith))) c);
          };
          dname = sym (ap (λ (d : DomainName). rrset zone.sets d 39) same) ∙ top.dname;
          labels = top.labels ∙ ap (λ (d : DomainName). length d.labels) same;
        }

  -- nothing is above the apex
  pub apex_direct : Encloses name.labels zone.origin.labels → (k : ℕ) → ¬ (Redirects zone name k)
  apex_direct apex k r = none_above 0 apex k r.above r.is_ancestor r.owner

  dname_exists : (n : DomainName) → HasDname zone n → Exists zone.sets n
  dname_exists n x = owns zone.sets n 39 x.dname

  -- where nothing above the name exists nothing redirects it
  pub nothing_redirects : ((k : ℕ) → ¬ (Exists zone.sets (ancestor name k))) → (k : ℕ) → ¬ (Redirects zone name k)
  nothing_redirects none k r = none k (dname_exists (ancestor name k) r.owner)

  pub from_parent : (parent : DomainName) (by : Option Redirection) → parent ≡ ancestor name 1 → ¬ (Encloses name.labels zone.origin.labels) → TopDname zone parent by → RedirectedAt zone name by
  from_parent parent by is apart top =
      from_above 1 (omega arith) (omega (arith, not_empty name.labels zone.origin.labels apart)) (λ i some less x. absurd (omega arith)) by (subst (λ (d : DomainName). TopDname zone d by) is top)

  -- the closest encloser is no higher than the root
  encloser_real : (k : ℕ) → HasClosestEncloser zone.sets name k → k ≤ length name.labels
  encloser_real k closest = elim (cases_lt (length name.labels) k) [
    | inl over ↦
        let same : ancestor name k ≡ ancestor name (length name.labels) =
        ap (λ (ls : List (List ℕ)). let d : DomainName = record { labels = ls; is_fqdn = name.is_fqdn } in d) (dropped k name.labels (omega arith) ∙ sym (dropped (length name.labels) name.labels (omega arith))) in
        absurd (closest.longest (length name.labels) over (subst (Exists zone.sets) same closest.exists))
    | inr under ↦ omega arith
  ] where
    dropped : (n : ℕ) (ls : List (List ℕ)) → length ls ≤ n → drop n ls ≡ []
    dropped n ls h = none_left (drop n ls) (omega (arith, length-drop n ls)) where
      none_left : (xs : List (List ℕ)) → length xs ≡ 0 → xs ≡ []
      none_left [] e = refl
      none_left (x ∷ xs) e = absurd (omega arith)

  pub from_encloser : (encloser : DomainName) (by : Option Redirection) (e : IsEncloser zone.sets name encloser) → ¬ (Exists zone.sets name) → TopDname zone encloser by → RedirectedAt zone name by
  from_encloser encloser by e missing top =
      from_above e.off (is_above zone.sets name encloser e missing) (encloser_real e.off e.closest) (λ i some less x. e.closest.longest i less (dname_exists (ancestor name i) x)) by
      (subst (λ (d : DomainName). TopDname zone d by) e.is top)

  pub as_redirected : (t : ℕ) (at : Option Redirection) (by : Redirection) → at ≡ Some by → RedirectedAt zone name at → Answers zone name t (redirection (length name.labels - by.labels) by.dname.now)
  as_redirected t at by is h =
      let x : RedirectedBy zone name by = subst (RedirectedAt zone name) is h in
      let e : length name.labels - by.labels ≡ x.off = omega (arith, x.labels, length-drop x.off name.labels, x.redirects.is_ancestor) in
      subst (λ (k : ℕ). Answers zone name t (redirection k by.dname.now)) (sym e) (redirected x.redirects x.dname)

  pub as_direct : (at : Option Redirection) → at ≡ None → RedirectedAt zone name at → (k : ℕ) → ¬ (Redirects zone name k)
  as_direct at is h = subst (RedirectedAt zone name) is h
