-- The only topmost cut that can be above a name is the last one before it.
use Rattle.std.proofs.Common.{◌≡◌, ℕ, zero, suc, ◌-◌, ◌<◌, ◌≤◌, Bool, true, false, ◌&&◌, List, [], ◌∷◌, ◌++◌, take, drop, length, Some, None, inl, inr, refl, sym, ap, subst, ◌∙◌, arith, append_assoc, length-drop}
use Rattle.std.specs.Prelude.{slice_get}
use Rattle.std.specs.List.{AllByRecursion, Contains}
use Rattle.std.specs.List.Sorted.{IsStrictlySortedBy}
use Rattle.std.specs.Map.{keys_of}
use Rattle.std.specs.BTreeMap.Range.{IsLeBy, range_contains}
use Rattle.std.specs.Cmp.{IsTotalOrder, tied_itself}
use Rattle.std.specs.Ordering.{is_gt, is_le, nat_cmp, ordering_reverse, ordering_then}
use Rattle.std.specs.declared.cmp.Ordering.{Ordering}
use Rattle.std.specs.declared.cmp.Ordering.TheVariants.{Less, Equal, Greater}
use Rattle.std.specs.declared.ops.Bound.TheVariants.{Included, Unbounded}
use Rattle.std.proofs.Math.Seq.{drop-append_seam}
use Rattle.std.proofs.lemmas.Bool.{cases_lt}
use Rattle.std.proofs.lemmas.Grind.{common_steps}
use Rattle.std.proofs.lemmas.List.{length-map}
use Rattle.std.proofs.lemmas.List.Elements.{All-contains}
use Rattle.std.proofs.lemmas.Option.{get_or_from_slice_get, slice_get_read, slice_get_within}
use Rattle.wire_names.specs.rr.domain.DomainName.{DomainName}
use Rattle.wire_names.specs.rr.domain.NameOrder.{Encloses, lower_label, lower_labels, name_cmp, name_cmp_total}
use Rattle.wire_messages.specs.declared.rr.rr_key.RrKey.{RrKey}
use Rattle.wire_messages.specs.rr.RrKeys.{key_cmp}
use Rattle.hickory_base.proofs.lemmas.zone_store.ZoneByName.{key_total}
use Rattle.zone_answers.proofs.lemmas.names.EnclosedBetween.{between, encloses_up_to, same_of}
use Rattle.zone_answers.proofs.lemmas.zones.Beside.{encloses_drop}
use Rattle.zone_answers.proofs.lemmas.zones.Cuts.{encloses_length}
use Rattle.zone_answers.proofs.lemmas.zones.Owners.{names_up_to}
use Rattle.zone_answers.specs.representation.FoundRecords.{CutAbove, EndsAbove}
use Rattle.zone_answers.specs.representation.Indexes.{IsPlaceOf}
use Rattle.zone_answers.specs.representation.KeysBeside.{Entry}
use Rattle.zone_answers.specs.representation.TopCuts.{AreTopCuts, IsBelowOne, IsSetOfCut}
use Rattle.zone_answers.specs.Zones.{IsCut, Zone, ancestor, rrset}

pub some_same : {A : Type 0} {x y : A} → Some x ≡ Some y → x ≡ y
some_same e = cc

pub encloses_through : (ns ms ls : List (List ℕ)) → Encloses ns ms → Encloses ms ls → Encloses ns ls
encloses_through ns ms ls e f = record { front = f.front ++ e.front; ends = f.ends ∙ ap (λ zs. f.front ++ zs) e.ends ∙ sym (append_assoc f.front e.front (lower_labels ns)) }

pub not_gt_of_less : (o : Ordering) → o ≡ Less → is_gt o ≡ false
not_gt_of_less o e = ap is_gt e

module _ {X : Type 0} (P : X → Type 0) where
  -- what stands in front, and behind
  pub in_front : (xs : List X) (n i : ℕ) (x : X) → AllByRecursion P (take n xs) → i < n → slice_get xs i ≡ Some x → P x
  in_front [] n i x all h is = absurd cc
  in_front (y ∷ xs) zero i x all h is = absurd (omega arith)
  in_front (y ∷ xs) (suc n) zero x all h is = subst P (some_same is) all.0
  in_front (y ∷ xs) (suc n) (suc i) x all h is = in_front xs n i x all.1 (omega arith) is

  pub from_there : (xs : List X) (n i : ℕ) (x : X) → AllByRecursion P (drop n xs) → n ≤ i → slice_get xs i ≡ Some x → P x
  from_there [] n i x all h is = absurd cc
  from_there (y ∷ xs) zero zero x all h is = subst P (some_same is) all.0
  from_there (y ∷ xs) zero (suc i) x all h is = from_there xs zero i x all.1 (omega arith) is
  from_there (y ∷ xs) (suc n) zero x all h is = absurd (omega arith)
  from_there (y ∷ xs) (suc n) (suc i) x all h is = from_there xs n i x all (omega arith) is

module _ {K : Type 0} {R : K → K → Ordering} (o : IsTotalOrder R) where
  turned : (x y : Ordering) → x ≡ ordering_reverse y → (is_le y && true) ≡ false → x ≡ Less
  turned x Less e h = absurd cc
  turned x Equal e h = absurd cc
  turned x Greater e h = e

  less_when_before : (first k : K) → range_contains R (Included first) Unbounded k ≡ false → R k first ≡ Less
  less_when_before first k h = turned (R k first) (R first k) (o.antisymm k first) h

  before_when_less : (first k : K) → R k first ≡ Less → range_contains R (Included first) Unbounded k ≡ false
  before_when_less first k h = ap (λ x. is_le x && true) (o.antisymm first k ∙ ap ordering_reverse h)

module _ {K X : Type 0} where
  pub key_at : (P : K → Type 0) (es : List (K × X)) (i : ℕ) (e : K × X) → AllByRecursion P (keys_of es) → slice_get es i ≡ Some e → P e.0
  key_at P [] i e all is = absurd cc
  key_at P (x ∷ es) zero e all is = subst (λ (y : K × X). P y.0) (some_same is) all.0
  key_at P (x ∷ es) (suc i) e all is = key_at P es i e all.1 is

  -- a key that stands further on is not before another
  pub in_order : {R : K → K → Ordering} (o : IsTotalOrder R) (es : List (K × X)) (i j : ℕ) (a b : K × X) → IsStrictlySortedBy R (keys_of es) → i ≤ j → slice_get es i ≡ Some a → slice_get es j ≡ Some b → IsLeBy R a.0 b.0
  unfolding IsStrictlySortedBy
  in_order {R} o [] i j a b sorted h is at = absurd cc
  in_order {R} o (x ∷ es) zero zero a b sorted h is at = let e : a ≡ b = some_same (sym is ∙ at) in ap (λ (y : K × X). is_gt (R a.0 y.0)) (sym e) ∙ ap is_gt (tied_itself o a.0)
  in_order {R} o (x ∷ es) zero (suc j) a b sorted h is at = ap is_gt (subst (λ (y : K × X). R y.0 b.0 ≡ Less) (some_same is) (key_at (λ y. R x.0 y ≡ Less) es j b sorted.0 at))
  in_order {R} o (x ∷ es) (suc i) zero a b sorted h is at = absurd (omega arith)
  in_order {R} o (x ∷ es) (suc i) (suc j) a b sorted h is at = in_order o es i j a b sorted.1 (omega arith) is at

pub contained : (es : List Entry) (i : ℕ) (e : Entry) → slice_get es i ≡ Some e → Contains es e
contained es i e is = (i, slice_get_within es i e is, get_or_from_slice_get es i e e is)

pub place_of_one : (es : List Entry) (e : Entry) (h : Contains es e) → slice_get es h.0 ≡ Some e
place_of_one es e h = slice_get_read es (length es) h.0 e refl h.1 (sym h.2)

less_by_names : (o p : Ordering) → is_gt o ≡ false → (o ≡ Equal → ⊥) → ordering_then o p ≡ Less
less_by_names Less p h f = refl
less_by_names Equal p h f = absurd (f refl)
less_by_names Greater p h f = absurd cc

none_below_zero : (t : ℕ) → nat_cmp t 0 ≡ Less → ⊥
none_below_zero t e = grind (arith, common_steps, e)

module _ (zone : Zone) (first : RrKey) (cuts : List Entry) (place : ℕ) (least : first.record_type ≡ 0) (qualified : first.name.is_fqdn ≡ true) (tops : AreTopCuts zone cuts) (sorted : IsStrictlySortedBy key_cmp (keys_of cuts))
    (parts : IsPlaceOf first cuts place) where
  own : (e : Entry) → Contains cuts e → IsSetOfCut zone e
  own e h = All-contains (IsSetOfCut zone) cuts e tops.each h

  -- the topmost cut at a name above or above that one
  top : (k : ℕ) → IsCut zone (ancestor first.name k) → IsBelowOne cuts (ancestor first.name k)
  top k cut = tops.whole (ancestor first.name k) cut

  up : (k : ℕ) (cut : IsCut zone (ancestor first.name k)) → Encloses (top k cut).top.0.name.labels first.name.labels
  up k cut = encloses_through (top k cut).top.0.name.labels (drop k first.name.labels) first.name.labels (top k cut).at_or_below (encloses_drop k first.name.labels)

  less : (k : ℕ) → 0 < k → (cut : IsCut zone (ancestor first.name k)) → key_cmp (top k cut).top.0 first ≡ Less
  less k some cut =
      let t = (top k cut).top in
      less_by_names (name_cmp t.0.name first.name) (nat_cmp t.0.record_type first.record_type) (encloses_up_to t.0.name first.name (own t (top k cut).held).qualified qualified (up k cut))
      (λ e. omega (
        arith,
        encloses_length t.0.name.labels (drop k first.name.labels) (top k cut).at_or_below,
        length-drop k first.name.labels,
        cut.below_apex,
        ap length (same_of t.0.name first.name e).labels,
        length-map t.0.name.labels lower_label,
        length-map first.name.labels lower_label,
      ))

  -- it stands before the name
  early : (k : ℕ) → 0 < k → (cut : IsCut zone (ancestor first.name k)) → (top k cut).held.0 < place
  early k some cut =
      let t = (top k cut).top in
      elim (cases_lt (top k cut).held.0 place) [
        | inl before ↦ before
        | inr behind ↦
            let low = before_when_less key_total first t.0 (less k some cut) in
            let high = from_there (λ (e : Entry). range_contains key_cmp (Included first) Unbounded e.0 ≡ true) cuts place (top k cut).held.0 t parts.behind behind (place_of_one cuts t (top k cut).held) in
            absurd (cc (low, high))
      ]

  pub none_before : place ≡ 0 → CutAbove zone first.name None
  none_before none k some cut = let h = early k some cut in absurd (omega arith)

  module _ (c : Entry) (is : slice_get cuts (place - 1) ≡ Some c) (filled : 0 < place) where
    before : key_cmp c.0 first ≡ Less
    before = less_when_before key_total first c.0 (in_front (λ (e : Entry). range_contains key_cmp (Included first) Unbounded e.0 ≡ false) cuts place (place - 1) c parts.before (omega arith) is)

    -- so it is the last one before the name
    closest : (k : ℕ) → 0 < k → IsCut zone (ancestor first.name k) → Encloses c.0.name.labels (drop k first.name.labels)
    closest k some cut =
        let t = (top k cut).top in
        let h = early k some cut in
        let order : IsLeBy key_cmp t.0 c.0 = in_order key_total cuts (top k cut).held.0 (place - 1) t c sorted (omega arith) (place_of_one cuts t (top k cut).held) is in
        let middle = between t.0.name c.0.name first.name (names_up_to t.0 c.0 order) (names_up_to c.0 first (not_gt_of_less (key_cmp c.0 first) before)) (up k cut) in
        subst (λ (key : RrKey). Encloses key.name.labels (drop k first.name.labels)) (tops.apart t c (top k cut).held (contained cuts (place - 1) c is) middle) (top k cut).at_or_below

    pub none_above : ¬ (Encloses c.0.name.labels first.name.labels) → CutAbove zone first.name None
    none_above apart k some cut = apart (encloses_through c.0.name.labels (drop k first.name.labels) first.name.labels (closest k some cut) (encloses_drop k first.name.labels))

    module _ (lower : lower_labels first.name.labels ≡ first.name.labels) (own_lower : lower_labels c.0.name.labels ≡ c.0.name.labels) (e : Encloses c.0.name.labels first.name.labels) where
      here : IsSetOfCut zone c
      here = own c (contained cuts (place - 1) c is)

      rest : drop (length e.front) first.name.labels ≡ c.0.name.labels
      rest = ap (drop (length e.front)) (sym lower ∙ e.ends ∙ ap (λ ls. e.front ++ ls) own_lower) ∙ drop-append_seam e.front c.0.name.labels

      name_is : ancestor first.name (length e.front) ≡ c.0.name
      name_is = ap (λ (ls : List (List ℕ)). let d : DomainName = record { labels = ls; is_fqdn = first.name.is_fqdn } in d) rest
          ∙ ap (λ (m : Bool). let d : DomainName = record { labels = c.0.name.labels; is_fqdn = m } in d) (qualified ∙ sym here.qualified)

      above : 0 < length e.front
      above = elim (cases_lt 0 (length e.front)) [
        | inl some ↦ some
        | inr none ↦
            let zeros : length e.front ≡ 0 = omega arith in
            let same : first.name ≡ c.0.name = subst (λ n. ancestor first.name n ≡ c.0.name) zeros name_is in
            let names : name_cmp c.0.name first.name ≡ Equal = ap (name_cmp c.0.name) same ∙ tied_itself name_cmp_total c.0.name in
            let types : nat_cmp c.0.record_type 0 ≡ Less = sym (ap (λ o. ordering_then o (nat_cmp c.0.record_type 0)) names) ∙ sym (ap (λ n. ordering_then (name_cmp c.0.name first.name) (nat_cmp c.0.record_type n)) least) ∙ before in
            absurd (none_below_zero c.0.record_type types)
      ]

      pub ends_there : EndsAbove zone first.name c.1.value
      ends_there = record {
        off = length e.front;
        above = above;
        delegates = record {
          cut = subst (IsCut zone) (sym name_is) here.cut;
          highest = λ j higher cut. omega (
            arith,
            encloses_length c.0.name.labels (drop j first.name.labels) (closest j (omega arith) cut),
            length-drop j first.name.labels,
            length-drop (length e.front) first.name.labels,
            ap length rest,
            cut.below_apex,
          );
        };
        servers = subst (λ (n : DomainName). rrset zone.sets n 2 ≡ Some c.1.value) (sym name_is) here.servers;
      }
