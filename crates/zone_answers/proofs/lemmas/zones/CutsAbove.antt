-- The highest cut above a name, looked for from the name upwards.
use Rattle.std.proofs.Common.{◌≡◌, ℕ, ◌+◌, ◌-◌, ◌<◌, ◌≤◌, Bool, true, false, cond, ◌&&◌, List, [], ◌∷◌, ◌++◌, Option, Some, None, length, drop, get_or, take, inl, inr, refl, sym, ap, subst, ◌∙◌, arith, length-append, length-drop}
use Rattle.std.specs.Prelude.{is_some, nat_le, nat_lt}
use Rattle.std.proofs.lemmas.Bool.{cases_lt, false≢true}
use Rattle.std.proofs.lemmas.Bool.Decides.{nat_tests}
use Rattle.std.proofs.lemmas.List.{drop-map, length-map, take_all}
use Rattle.std.proofs.lemmas.List.Elements.{All-drop}
use Rattle.wire_names.specs.rr.domain.DomainName.{AreLabels, DomainName, IsLabel, IsWire, cut, label_offset, name_len, wire_form}
use Rattle.wire_names.specs.rr.domain.NameOrder.{Encloses, lower_label, lower_labels}
use Rattle.wire_names.proofs.lemmas.rr.domain.WireForm.{Step, cut_of, is_wire_of, name_len-wire_form, offset-rest, offset-size, step}
use Rattle.zone_answers.proofs.lemmas.names.Enclosers.{ancestor-ancestor}
use Rattle.zone_answers.proofs.lemmas.names.WildcardLabels.{enclosing_len, lower_len}
use Rattle.zone_answers.proofs.lemmas.zones.Beside.{encloses_drop}
use Rattle.zone_answers.proofs.lemmas.zones.Cuts.{below_the_apex}
use Rattle.zone_answers.specs.declared.features.Features.{Features}
use Rattle.zone_answers.specs.representation.FoundRecords.{CutAbove, CutAt, EndsAbove, IsEncloser, first_or, may_be_cut, name_of}
use Rattle.zone_answers.specs.representation.Features.{AreFeatures, IsOfLength}
use Rattle.zone_answers.specs.Zones.{Answers, AnswersDirectly, HasDname, IsAuthoritativeAt, IsCut, Records, Zone, ancestor, delegated, direct, referral, rrset}

-- what is known once so many names above it were looked at
pub record CutBetween (zone : Zone) (name : DomainName) (seen : ℕ) (rs : Records) : Type 0 where
  pub off : ℕ
  pub above : 0 < off
  pub below : off ≤ seen
  pub is_cut : IsCut zone (ancestor name off)
  pub highest : (i : ℕ) → off < i → i ≤ seen → ¬ (IsCut zone (ancestor name i))
  pub servers : rrset zone.sets (ancestor name off) 2 ≡ Some rs

abbrev pub AboveSoFar : Zone → DomainName → ℕ → Option Records → Type 0
AboveSoFar zone name seen None = (i : ℕ) → 0 < i → i ≤ seen → ¬ (IsCut zone (ancestor name i))
AboveSoFar zone name seen (Some servers) = CutBetween zone name seen servers

-- a name with more labels than one above it is longer
more_labels : (front ls : List (List ℕ)) → 0 < length front → name_len ls < name_len (front ++ ls)
more_labels [] ls h = absurd (omega arith)
more_labels (l ∷ []) ls h = omega arith
more_labels (l ∷ (m ∷ front)) ls h = omega (arith, more_labels (m ∷ front) ls (omega arith))

longer : (os ls : List (List ℕ)) → Encloses os ls → length os < length ls → length (wire_form os) < length (wire_form ls)
longer os ls e h =
    omega (
      arith,
      more_labels e.front (lower_labels os) (omega (arith, ap length e.ends, length-append e.front (lower_labels os), length-map ls lower_label, length-map os lower_label)),
      ap name_len e.ends,
      lower_len os,
      lower_len ls,
      name_len-wire_form os,
      name_len-wire_form ls,
    )

pub rest_labels : (ls : List (List ℕ)) (k : ℕ) → AreLabels ls → AreLabels (drop k ls)
rest_labels ls k are = record {
  each = All-drop IsLabel k ls are.each;
  short = omega (arith, are.short, name_len-wire_form ls, name_len-wire_form (drop k ls), offset-size ls k);
}

pub rest_wire : (ls : List (List ℕ)) (k : ℕ) (bytes : List ℕ) → bytes ≡ wire_form (drop k ls) → AreLabels ls → IsWire bytes
rest_wire ls k bytes is are = is_wire_of bytes (drop k ls) is (rest_labels ls k are)

-- the name of the labels that are left of one in lower case
pub rest_name : (name : DomainName) (k : ℕ) (bytes : List ℕ) → bytes ≡ wire_form (drop k name.labels) → lower_labels name.labels ≡ name.labels → name.is_fqdn ≡ true → name_of bytes ≡ ancestor name k
rest_name name k bytes stand lower qualified =
    let own : lower_labels (cut bytes) ≡ drop k name.labels = ap lower_labels (cut_of bytes (drop k name.labels) stand) ∙ sym (drop-map lower_label k name.labels) ∙ ap (drop k) lower in
    ap (λ (ls : List (List ℕ)). let d : DomainName = record { labels = ls; is_fqdn = true } in d) own ∙ ap (λ (m : Bool). let d : DomainName = record { labels = drop k name.labels; is_fqdn = m } in d) (sym qualified)

-- what is known of a step to the name above
pub record Climbs (ls : List (List ℕ)) (wire : List ℕ) (seen place count : ℕ) : Type 0 where
  pub next : place + (1 + count) ≡ label_offset ls (seen + 1)
  pub fits : place + (1 + count) ≤ length wire
  pub below : seen + 1 ≤ length ls
  pub rest : take (length wire - (place + (1 + count))) (drop (place + (1 + count)) wire) ≡ wire_form (drop (seen + 1) ls)

pub climbs : (ls : List (List ℕ)) (wire : List ℕ) (seen place count : ℕ) → wire ≡ wire_form ls → place ≡ label_offset ls seen → place < length wire → count ≡ get_or wire place 0 → Climbs ls wire seen place count
climbs ls wire seen place count is at h read =
    let s : Step ls seen = step ls seen (omega (arith, ap length is, at, h)) in
    let b : count ≡ length (get_or ls seen []) = read ∙ ap (λ xs. get_or xs place 0) is ∙ ap (λ k. get_or (wire_form ls) k 0) at ∙ s.count in
    let next : place + (1 + count) ≡ label_offset ls (seen + 1) = omega (arith, s.next, b, at) in
    record {
      next = next;
      fits = omega (arith, ap length is, s.fits, next);
      below = omega (arith, s.below);
      rest = take_all (length wire - (place + (1 + count))) (drop (place + (1 + count)) wire) (omega (arith, length-drop (place + (1 + count)) wire)) ∙ ap (drop (place + (1 + count))) is ∙ ap (λ k. drop k (wire_form ls)) next ∙ offset-rest ls (seen + 1);
    }

both : (a b : Bool) → (a && b) ≡ true → (a ≡ true) × (b ≡ true)
both true b h = (refl, h)
both false b h = absurd cc

module _ (zone : Zone) (name : DomainName) where
  one_more : (seen : ℕ) (servers : Option Records) → ¬ (IsCut zone (ancestor name (seen + 1))) → AboveSoFar zone name seen servers → AboveSoFar zone name (seen + 1) servers
  one_more seen None none h = λ i some below. elim (cases_lt seen i) [
    | inl at ↦ let e : i ≡ seen + 1 = omega arith in λ c. none (subst (λ k. IsCut zone (ancestor name k)) e c)
    | inr before ↦ h i some before
  ]
  one_more seen (Some servers) none h = record {
    off = h.off;
    above = h.above;
    below = omega (arith, h.below);
    is_cut = h.is_cut;
    highest = λ i above below. elim (cases_lt seen i) [
      | inl at ↦ let e : i ≡ seen + 1 = omega arith in λ c. none (subst (λ k. IsCut zone (ancestor name k)) e c)
      | inr before ↦ h.highest i above before
    ];
    servers = h.servers;
  }

  found_one : (seen : ℕ) (found before : Option Records) → rrset zone.sets (ancestor name (seen + 1)) 2 ≡ found → (is_some found ≡ true → IsCut zone (ancestor name (seen + 1))) → AboveSoFar zone name seen before → AboveSoFar zone name (seen + 1) (first_or found before)
  found_one seen None before set is h = one_more seen before (λ c. false≢true (sym (ap is_some set) ∙ c.servers)) h
  found_one seen (Some servers) before set is h = record {
    off = seen + 1;
    above = omega arith;
    below = omega arith;
    is_cut = is refl;
    highest = λ i above below. absurd (omega arith);
    servers = set;
  }

  chosen : (seen : ℕ) (b : Bool) (before : Option Records) → (b ≡ true → is_some (rrset zone.sets (ancestor name (seen + 1)) 2) ≡ true → IsCut zone (ancestor name (seen + 1))) → (b ≡ false → ¬ (IsCut zone (ancestor name (seen + 1))))
      → AboveSoFar zone name seen before → AboveSoFar zone name (seen + 1) (cond b (first_or (rrset zone.sets (ancestor name (seen + 1)) 2) before) before)
  chosen seen true before is none h = found_one seen (rrset zone.sets (ancestor name (seen + 1)) 2) before refl (is refl) h
  chosen seen false before is none h = one_more seen before (none refl) h

  module _ (has : Features) (features : AreFeatures zone has) (within : Encloses zone.origin.labels name.labels) (are : AreLabels name.labels) where
    is_one : (k : ℕ) → may_be_cut (length (wire_form zone.origin.labels)) has (length (wire_form (drop k name.labels))) ≡ true → is_some (rrset zone.sets (ancestor name k) 2) ≡ true → IsCut zone (ancestor name k)
    is_one k may servers =
        let long : nat_lt (length (wire_form zone.origin.labels)) (length (wire_form (drop k name.labels))) ≡ true = (both _ _ may).0 in
        let more : length (wire_form zone.origin.labels) < length (wire_form (drop k name.labels)) = grind (arith, nat_tests, long) in
        let below = below_the_apex zone.origin.labels name.labels k within
        (λ e. absurd (omega (arith, more, enclosing_len (drop k name.labels) zone.origin.labels e, name_len-wire_form zone.origin.labels, name_len-wire_form (drop k name.labels)))) in
        record { within = below.0; below_apex = below.1; servers = servers }

    tested : (apex len : ℕ) → apex < len → IsOfLength has.cuts len → may_be_cut apex has len ≡ true
    tested apex len a o =
        let first : nat_lt apex len ≡ true = grind (arith, nat_tests) in
        let least : nat_le has.cuts.least len ≡ true = let l = o.least in grind (arith, nat_tests) in
        let most : nat_le len has.cuts.most ≡ true = let l = o.most in grind (arith, nat_tests) in
        rw (first, least, most) refl

    is_none : (k : ℕ) → may_be_cut (length (wire_form zone.origin.labels)) has (length (wire_form (drop k name.labels))) ≡ false → ¬ (IsCut zone (ancestor name k))
    is_none k may c =
        false≢true (sym may ∙ tested _ _ (longer zone.origin.labels (drop k name.labels) c.within c.below_apex) (features.cuts (ancestor name k) (rest_labels name.labels k are) c))

    -- one name further up
    pub climb : (seen apex : ℕ) (bytes : List ℕ) (here : DomainName) (before found : Option Records) → apex ≡ length (wire_form zone.origin.labels) → bytes ≡ wire_form (drop (seen + 1) name.labels) → here ≡ ancestor name (seen + 1)
        → found ≡ cond (may_be_cut apex has (length bytes)) (first_or (rrset zone.sets here 2) before) before → AboveSoFar zone name seen before → AboveSoFar zone name (seen + 1) found
    climb seen apex bytes here before found top stand is e h =
        let own : found ≡ cond (may_be_cut (length (wire_form zone.origin.labels)) has (length (wire_form (drop (seen + 1) name.labels)))) (first_or (rrset zone.sets (ancestor name (seen + 1)) 2) before) before =
        e ∙ ap (λ (n : DomainName). cond (may_be_cut apex has (length bytes)) (first_or (rrset zone.sets n 2) before) before) is
        ∙ ap (λ (bs : List ℕ). cond (may_be_cut apex has (length bs)) (first_or (rrset zone.sets (ancestor name (seen + 1)) 2) before) before) stand
        ∙ ap (λ (n : ℕ). cond (may_be_cut n has (length (wire_form (drop (seen + 1) name.labels)))) (first_or (rrset zone.sets (ancestor name (seen + 1)) 2) before) before) top in
        subst (AboveSoFar zone name (seen + 1)) (sym own)
        (chosen seen (may_be_cut (length (wire_form zone.origin.labels)) has (length (wire_form (drop (seen + 1) name.labels)))) before (is_one (seen + 1)) (is_none (seen + 1)) h)

  -- a name that is no longer than the apex is no cut, and none above it is
  pub none_from : (seen i : ℕ) → length (wire_form (drop seen name.labels)) ≤ length (wire_form zone.origin.labels) → seen ≤ i → ¬ (IsCut zone (ancestor name i))
  none_from seen i short h c =
      let e : seen + (i - seen) ≡ i = omega arith in
      let same : ancestor (ancestor name seen) (i - seen) ≡ ancestor name i = ancestor-ancestor name (i - seen) seen ∙ ap (ancestor name) e in
      let up : Encloses (drop i name.labels) (drop seen name.labels) = subst (λ (n : DomainName). Encloses n.labels (drop seen name.labels)) same (encloses_drop (i - seen) (drop seen name.labels)) in
      absurd (omega (
        arith,
        short,
        longer zone.origin.labels (drop i name.labels) c.within c.below_apex,
        enclosing_len (drop i name.labels) (drop seen name.labels) up,
        name_len-wire_form (drop i name.labels),
        name_len-wire_form (drop seen name.labels),
      ))

  pub in_the_end : (seen : ℕ) (found : Option Records) → length (wire_form (drop seen name.labels)) ≤ length (wire_form zone.origin.labels) → AboveSoFar zone name seen found → CutAbove zone name found
  in_the_end seen None short h = λ k some. elim (cases_lt seen k) [ inl over ↦ none_from seen k short (omega arith) | inr under ↦ h k some under ]
  in_the_end seen (Some servers) short h = record {
    off = h.off;
    above = h.above;
    delegates = record {
      cut = h.is_cut;
      highest = λ j above. elim (cases_lt seen j) [ inl over ↦ none_from seen j short (omega arith) | inr under ↦ h.highest j above under ];
    };
    servers = h.servers;
  }

  -- a name below a cut
  pub refers : (t : ℕ) (servers : Records) → EndsAbove zone name servers → AnswersDirectly zone name t (referral servers)
  refers t servers e = delegated e.delegates (λ zeros. absurd (omega (arith, e.above))) e.servers

  pub undirected : (t : ℕ) (servers : Records) → ((n : DomainName) → ¬ (HasDname zone n)) → EndsAbove zone name servers → Answers zone name t (referral servers)
  undirected t servers none e = direct (λ k r. none (ancestor name k) r.owner) (refers t servers e)

  -- where nothing is cut above a name nothing is from its closest encloser up
  pub above_encloser : (encloser : DomainName) (e : IsEncloser zone.sets name encloser) → 0 < e.off → CutAbove zone name None → CutAt zone encloser None
  above_encloser encloser e some none =
      subst (λ (n : DomainName). IsAuthoritativeAt zone n) (sym e.is)
      (λ k c. none (e.off + k) (omega arith) (subst (IsCut zone) (ancestor-ancestor name k e.off) c))
