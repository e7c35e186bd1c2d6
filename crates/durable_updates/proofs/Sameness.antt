-- What entries make of one zone is one zone: an update leaves the same of two lists that stand for one.
use Rattle.std.proofs.Common.{◌≡◌, ◌∙◌, ap, sym, subst, refl, ℕ, Bool, true, false, cond, not, ◌&&◌, ◌||◌, [], ◌∷◌, List, map, Option, Some, None, Result, Ok, Err}
use Rattle.std.specs.List.{list_any}
use Rattle.std.specs.Option.{is_some}
use Rattle.wire_names.specs.rr.domain.DomainName.{DomainName}
use Rattle.wire_reading.specs.declared.op.message.Message.{Message}
use Rattle.wire_messages.specs.rr.RecordSameness.{SameRecord}
use Rattle.wire_messages.specs.serialize.reading.Cursor.{Cursor}
use Rattle.wire_names.specs.declared.error.DecodeError.{DecodeError}
use Rattle.hickory_base.specs.zone_store.ZoneAnswers.{MemoryZone}
use Rattle.hickory_base.specs.zone_store.ZoneSets.{zone_records}
use Rattle.hickory_store.specs.updates.Changes.{after_record, after_updates, any_change, changes, counted, counted_changes, is_added, is_deleted_when, is_spared}
use Rattle.hickory_store.specs.updates.Identity.{SameZone, same_record, ttl_at}
use Rattle.hickory_store.specs.updates.UpdateAnswers.{Outcome, applied, incremented, is_apex_soa, with_next_serial}
use Rattle.hickory_store.specs.updates.UpdateLaws.{HasOneSoa, HoldsIn, IsOneSoa}
use Rattle.hickory_store.proofs.lemmas.updates.ApexNs.{OfOneType, Records, Resource}
use Rattle.hickory_store.proofs.lemmas.updates.OneSoa.{next_same, next_soa, one_fold, one_next, one_soa_same, only_soa, soa_respects}
use Rattle.hickory_store.proofs.lemmas.updates.SameZones.{Identity, any_same, comes_same, fold_same, goes_respects, same_turned, same_via, some_ttl, spared_same}
use Rattle.hickory_store.proofs.lemmas.updates.SerialSteps.{apex_next}
use Rattle.durable_updates.specs.Redone.{Leaves, Makes, Redone, RedoesOne}

true_and_false : {P : Type 0} (b : Bool) → b ≡ true → b ≡ false → P
true_and_false true p q = absurd (cc)
true_and_false false p q = absurd (cc)

none_of : (x : Option ℕ) → is_some x ≡ false → x ≡ None
none_of None h = refl
none_of (Some t) h = absurd (cc)

found_at : (b : Bool) (t : ℕ) (x : Option ℕ) → b ≡ true → cond b (Some t) x ≡ Some t
found_at true t x h = refl
found_at false t x h = absurd (cc)

passed_by : (b : Bool) (t : ℕ) (x : Option ℕ) → b ≡ false → cond b (Some t) x ≡ x
passed_by true t x h = absurd (cc)
passed_by false t x h = refl

is_false : (b : Bool) → (b ≡ true → ⊥) → b ≡ false
is_false true h = absurd (h refl)
is_false false h = refl

both_true : (a b : Bool) → a ≡ true → (a && not b) ≡ false → b ≡ true
both_true true true h e = refl
both_true true false h e = absurd (cc)
both_true false b h e = absurd (cc)

first_none : (a b : Bool) → (a || b) ≡ false → a ≡ false
first_none true b h = absurd (cc)
first_none false b h = refl

rest_none : (a b : Bool) → (a || b) ≡ false → b ≡ false
rest_none true b h = absurd (cc)
rest_none false b h = h

module _ (identity : Identity) (same_type : OfOneType) where
  -- ---- whether an update changes the zone

  counted_same : (o : DomainName) (z w : Records) (r : Resource) → SameZone z w → counted_changes true o z r ≡ counted_changes true o w r
  counted_same o z w r h =
      ap (λ a. list_any (is_deleted_when o r a (is_spared true o z r)) z || a) (comes_same identity true z w r h)
      ∙ ap (λ b. list_any (is_deleted_when o r (is_added true w r) b) z || is_added true w r) (spared_same identity true o z w r h)
      ∙ ap (λ x. x || is_added true w r) (any_same identity (is_deleted_when o r (is_added true w r) (is_spared true o w r)) (goes_respects identity o r (is_added true w r) (is_spared true o w r)) z w h)

  changes_same : (o : DomainName) (z w : Records) (r : Resource) → SameZone z w → changes true o z r ≡ changes true o w r
  unfolding changes
  changes_same o z w r h = counted_same o z w (counted true r) h

  any_change_same : (o : DomainName) (rs z w : Records) → SameZone z w → any_change true o z rs ≡ any_change true o w rs
  any_change_same o [] z w h = refl
  any_change_same o (r ∷ rs) z w h =
      ap (λ x. x || any_change true o (after_record true o z r) rs) (changes_same o z w r h)
      ∙ ap (λ x. changes true o w r || x) (any_change_same o rs (after_record true o z r) (after_record true o w r) (fold_same identity true o (r ∷ []) z w h))

  -- ---- the increment

  module _ (o : DomainName) where
    -- a record that is no SOA of the apex
    other_ttl : (q : Resource) → is_apex_soa o q ≡ false → (z : Records) → ttl_at (map (incremented o) z) q ≡ ttl_at z q
    other_ttl q n [] = refl
    other_ttl q n (r ∷ z) = step (is_apex_soa o r) refl (other_ttl q n z)
      where
        step : (b : Bool) → is_apex_soa o r ≡ b → ttl_at (map (incremented o) z) q ≡ ttl_at z q → cond (same_record q (cond b (next_soa r) r)) (Some (cond b (next_soa r) r).ttl) (ttl_at (map (incremented o) z) q) ≡ cond (same_record q r) (Some r.ttl) (ttl_at z q)
        step true e rest =
            let first : same_record q (next_soa r) ≡ false = is_false (same_record q (next_soa r)) (λ s. true_and_false (is_apex_soa o q) (sym (soa_respects identity same_type o q (next_soa r) s) ∙ apex_next o r ∙ e) n) in
            let second : same_record q r ≡ false = is_false (same_record q r) (λ s. true_and_false (is_apex_soa o q) (sym (soa_respects identity same_type o q r s) ∙ e) n) in
            passed_by (same_record q (next_soa r)) r.ttl (ttl_at (map (incremented o) z) q) first ∙ rest ∙ sym (passed_by (same_record q r) r.ttl (ttl_at z q) second)
        step false e rest = ap (λ x. cond (same_record q r) (Some r.ttl) x) rest

    -- the one that has the next serial
    next_ttl : (s q : Resource) → is_apex_soa o s ≡ true → is_apex_soa o q ≡ true → ((r : Resource) → same_record s r ≡ true → same_record q (next_soa r) ≡ true) → (z : Records) → list_any (λ r. is_apex_soa o r && not (same_record s r)) z ≡ false
        → ttl_at (map (incremented o) z) q ≡ ttl_at z s
    next_ttl s q n k follows [] alone = refl
    next_ttl s q n k follows (r ∷ z) alone = step (is_apex_soa o r) refl (next_ttl s q n k follows z (rest_none (is_apex_soa o r && not (same_record s r)) _ alone))
      where
        step : (b : Bool) → is_apex_soa o r ≡ b → ttl_at (map (incremented o) z) q ≡ ttl_at z s → cond (same_record q (cond b (next_soa r) r)) (Some (cond b (next_soa r) r).ttl) (ttl_at (map (incremented o) z) q) ≡ cond (same_record s r) (Some r.ttl) (ttl_at z s)
        step true e rest =
            let one : same_record s r ≡ true = both_true (is_apex_soa o r) (same_record s r) e (first_none (is_apex_soa o r && not (same_record s r)) _ alone) in
            found_at (same_record q (next_soa r)) r.ttl (ttl_at (map (incremented o) z) q) (follows r one) ∙ sym (found_at (same_record s r) r.ttl (ttl_at z s) one)
        step false e rest =
            let first : same_record q r ≡ false = is_false (same_record q r) (λ h. true_and_false (is_apex_soa o q) k (sym (soa_respects identity same_type o q r h) ∙ e)) in
            let second : same_record s r ≡ false = is_false (same_record s r) (λ h. true_and_false (is_apex_soa o s) n (sym (soa_respects identity same_type o s r h) ∙ e)) in
            passed_by (same_record q r) r.ttl (ttl_at (map (incremented o) z) q) first ∙ rest ∙ sym (passed_by (same_record s r) r.ttl (ttl_at z s) second)

    no_ttl : (z : Records) (s q : Resource) → IsOneSoa o z s → is_apex_soa o q ≡ true → same_record (next_soa s) q ≡ false → ttl_at (map (incremented o) z) q ≡ None
    no_ttl z s q h n apart =
        none_of (ttl_at (map (incremented o) z) q)
        (some_ttl (map (incremented o) z) q ∙ is_false (list_any (same_record q) (map (incremented o) z)) (λ e. true_and_false (same_record (next_soa s) q) (only_soa identity same_type o (map (incremented o) z) (next_soa s) q (one_next identity same_type o z s h) n e) apart))

    -- records of one identity are of one with the next serial
    next_alike : (s r : Resource) → same_record s r ≡ true → same_record (next_soa s) (next_soa r) ≡ true
    next_alike s r e =
        let i : SameRecord s r = (identity s r).0 e in (identity (next_soa s) (next_soa r)).1 (record { name = i.name; class = i.class; rdata = next_same s.rdata r.rdata i.rdata })

    incremented_same : (z w : Records) → HasOneSoa o z → SameZone z w → SameZone (map (incremented o) z) (map (incremented o) w)
    incremented_same z w h same q = by_kind (is_apex_soa o q) refl
      where
        in_w : IsOneSoa o w h.0
        in_w = one_soa_same identity same_type o z w h.0 same h.1

        by_serial : (b : Bool) → same_record (next_soa h.0) q ≡ b → is_apex_soa o q ≡ true → ttl_at (map (incremented o) z) q ≡ ttl_at (map (incremented o) w) q
        by_serial true e n =
            let follows : (r : Resource) → same_record h.0 r ≡ true → same_record q (next_soa r) ≡ true = λ r k. same_via identity q (next_soa h.0) (next_soa r) (same_turned identity (next_soa h.0) q e) (next_alike h.0 r k) in
            next_ttl h.0 q h.1.0 n follows z h.1.2 ∙ same h.0 ∙ sym (next_ttl h.0 q h.1.0 n follows w in_w.2)
        by_serial false e n = no_ttl z h.0 q h.1 n e ∙ sym (no_ttl w h.0 q in_w n e)

        by_kind : (b : Bool) → is_apex_soa o q ≡ b → ttl_at (map (incremented o) z) q ≡ ttl_at (map (incremented o) w) q
        by_kind true n = by_serial (same_record (next_soa h.0) q) refl n
        by_kind false n = other_ttl q n z ∙ same q ∙ sym (other_ttl q n w)

  -- ---- an update section

  -- two outcomes that leave one zone
  abbrev pub SameOutcome : Outcome → Outcome → Type 0
  SameOutcome (Ok a) (Ok b) = SameZone a.0 b.0
  SameOutcome (Err c) (Err d) = Unit {0}
  SameOutcome a b = ⊥

  serial_outcome : (o : DomainName) (z w : Records) (a b : Bool) → a ≡ b → HasOneSoa o z → SameZone z w → SameOutcome (cond a (Ok (map (incremented o) z, true)) (Err 2)) (cond b (Ok (map (incremented o) w, true)) (Err 2))
  serial_outcome o z w true true e h same = incremented_same o z w h same
  serial_outcome o z w false false e h same = tt
  serial_outcome o z w true false e h same = absurd (cc)
  serial_outcome o z w false true e h same = absurd (cc)

  change_outcome : (o : DomainName) (rs z w : Records) (a b : Bool) → a ≡ b → HasOneSoa o z → SameZone z w
      → SameOutcome (cond a (with_next_serial o (after_updates true o z rs)) (Ok (z, false))) (cond b (with_next_serial o (after_updates true o w rs)) (Ok (w, false)))
  change_outcome o rs z w true true e h same =
      let after : SameZone (after_updates true o z rs) (after_updates true o w rs) = fold_same identity true o rs z w same in
      serial_outcome o (after_updates true o z rs) (after_updates true o w rs) (list_any (is_apex_soa o) (after_updates true o z rs)) (list_any (is_apex_soa o) (after_updates true o w rs))
      (any_same identity (is_apex_soa o) (soa_respects identity same_type o) (after_updates true o z rs) (after_updates true o w rs) after) (one_fold identity same_type true o rs z h) after
  change_outcome o rs z w false false e h same = same
  change_outcome o rs z w true false e h same = absurd (cc)
  change_outcome o rs z w false true e h same = absurd (cc)

  pub applied_same : (o : DomainName) (rs z w : Records) → HasOneSoa o z → SameZone z w → SameOutcome (applied true o z rs true) (applied true o w rs true)
  applied_same o rs z w h same = change_outcome o rs z w (any_change true o z rs) (any_change true o w rs) (any_change_same o rs z w same) h same

  -- the outcome has one SOA, if it is no refusal
  abbrev OneSoaLeft : DomainName → Outcome → Type 0
  OneSoaLeft o (Ok p) = HasOneSoa o p.0
  OneSoaLeft o (Err code) = Unit {0}

  serial_left : (o : DomainName) (z : Records) (b : Bool) → HasOneSoa o z → OneSoaLeft o (cond b (Ok (map (incremented o) z, true)) (Err 2))
  serial_left o z true h = (next_soa h.0, one_next identity same_type o z h.0 h.1)
  serial_left o z false h = tt

  change_left : (o : DomainName) (rs z : Records) (b : Bool) → HasOneSoa o z → OneSoaLeft o (cond b (with_next_serial o (after_updates true o z rs)) (Ok (z, false)))
  change_left o rs z true h = serial_left o (after_updates true o z rs) (list_any (is_apex_soa o) (after_updates true o z rs)) (one_fold identity same_type true o rs z h)
  change_left o rs z false h = h

  -- two zones of one origin that have the same records, with one SOA
  pub record Alike (a b : MemoryZone) : Type 0 where
    pub origin : a.origin ≡ b.origin
    pub records : SameZone (zone_records a.sets) (zone_records b.sets)
    pub soa : HoldsIn HasOneSoa a

  left_alike : (one other : Outcome) (a b x y : MemoryZone) → Alike a b → SameOutcome one other → OneSoaLeft a.origin one → Leaves one a x → Leaves other b y → Alike x y
  left_alike (Ok one) (Ok other) a b x y alike same left p q =
      let of_x : x.origin ≡ a.origin = ap (λ (z : MemoryZone). z.origin) p.1 in
      let of_y : y.origin ≡ b.origin = ap (λ (z : MemoryZone). z.origin) q.1 in
      record {
        origin = of_x ∙ alike.origin ∙ sym of_y;
        records = λ r. p.0 r ∙ same r ∙ sym (q.0 r);
        soa = subst (λ o. HasOneSoa o (zone_records x.sets)) (sym of_x) (left.0, one_soa_same identity same_type a.origin one.0 (zone_records x.sets) left.0 (λ r. sym (p.0 r)) left.1);
      }
  left_alike (Err c) (Err d) a b x y alike same left p q = subst (λ v. Alike v y) (sym p) (subst (λ v. Alike a v) (sym q) alike)
  left_alike (Ok one) (Err d) a b x y alike same left p q = absurd same
  left_alike (Err c) (Ok other) a b x y alike same left p q = absurd same

  made_alike : (rs : Records) (a b x y : MemoryZone) → Alike a b → Makes rs a x → Makes rs b y → Alike x y
  made_alike rs a b x y alike p q =
      let done : Leaves (applied true a.origin (zone_records b.sets) rs true) b y = subst (λ o. Leaves (applied true o (zone_records b.sets) rs true) b y) (sym alike.origin) q.done in
      left_alike (applied true a.origin (zone_records a.sets) rs true) (applied true a.origin (zone_records b.sets) rs true) a b x y alike
      (applied_same a.origin rs (zone_records a.sets) (zone_records b.sets) alike.soa alike.records)
      (change_left a.origin rs (zone_records a.sets) (any_change true a.origin (zone_records a.sets) rs) alike.soa) p.done done

  -- ---- entries

  same_message : (entry : List ℕ) (a b x y : MemoryZone) (p : RedoesOne entry a x) (q : RedoesOne entry b y) → p.message ≡ q.message
  same_message entry a b x y p q = ap (λ (m : Message × Cursor). m.0) (ok_is (sym p.reads.reads ∙ q.reads.reads))
    where
      ok_is : {m n : Message × Cursor} → ◌≡◌ {A = Result (Message × Cursor) DecodeError} (Ok m) (Ok n) → m ≡ n
      ok_is e = cc

  pub redone_alike : (entries : List (List ℕ)) (a b x y : MemoryZone) → Alike a b → Redone entries a x → Redone entries b y → Alike x y
  redone_alike [] a b x y alike p q = subst (λ v. Alike v y) (sym p) (subst (λ v. Alike a v) (sym q) alike)
  redone_alike (entry ∷ entries) a b x y alike p q =
      let first = p.1 in
      let second = q.1 in
      let made : Makes p.1.message.authorities b q.0 = subst (λ (m : Message). Makes m.authorities b q.0) (sym (same_message entry a b p.0 q.0 p.1 q.1)) q.1.made in
      redone_alike entries p.0 q.0 x y (made_alike p.1.message.authorities a b p.0 q.0 alike p.1.made made) p.2 q.2

  pub redone_once : (entries : List (List ℕ)) (base a b : MemoryZone) → HoldsIn HasOneSoa base → Redone entries base a → Redone entries base b → SameZone (zone_records a.sets) (zone_records b.sets) × HoldsIn HasOneSoa a
  redone_once entries base a b soa p q =
      let alike = redone_alike entries base base a b (record { origin = refl; records = λ r. refl; soa = soa }) p q in
      (alike.records, alike.soa)
