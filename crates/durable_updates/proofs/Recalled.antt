-- What the entries of a snapshot say, and what a file that begins with one makes of a zone.
use Rattle.std.proofs.Common.{◌≡◌, ◌<◌, inl, inr, ◌∙◌, ap, sym, subst, refl, arith, ℕ, Bool, true, false, cond, not, ◌&&◌, ◌||◌, ◌++◌, [], ◌∷◌, List, length, filter, Option, Some, None, Result, Ok, Err, IfOk, IfSome, append_assoc}
use Rattle.std.specs.Prelude.{◌==◌, fold}
use Rattle.std.specs.List.{list_any}
use Rattle.std.specs.Option.{is_some, option_or}
use Rattle.std.proofs.lemmas.Bool.{eq-eqb, eqb-true}
use Rattle.wire_names.proofs.lemmas.rr.domain.SameNames.{both_ways}
use Rattle.std.proofs.lemmas.List.{append-nil}
use Rattle.wire_names.specs.rr.domain.DomainName.{DomainName}
use Rattle.wire_names.specs.rr.domain.NameOrder.{lower_labels, lower_name}
use Rattle.wire_messages.specs.rr.RecordData.{type_of}
use Rattle.wire_messages.specs.serialize.reading.Cursor.{Cursor}
use Rattle.wire_messages.specs.serialize.reading.SectionReading.{header}
use Rattle.wire_names.specs.declared.error.DecodeError.{DecodeError}
use Rattle.wire_reading.specs.declared.op.message.Message.{Message}
use Rattle.wire_reading.specs.serialize.reading.MessageReading.{Reads, front_of, message}
use Rattle.hickory_base.specs.zone_store.ZoneAnswers.{MemoryZone}
use Rattle.hickory_base.specs.zone_store.ZoneRecords.{is_at, is_of, rrset}
use Rattle.wire_messages.specs.declared.rr.rr_key.RrKey.{RrKey}
use Rattle.hickory_base.specs.zone_store.ZoneSets.{AreSetsInOrder, IsZone, zone_records}
use Rattle.hickory_store.specs.representation.ZoneSets.{HoldsSets}
use Rattle.hickory_store.proofs.lemmas.updates.OneSoa.{one_soa_same}
use Rattle.hickory_store.proofs.lemmas.file.SetsOfRecords.{same_of}
use Rattle.hickory_store.specs.file.FirstRecords.{first_records, keep_first}
use Rattle.hickory_store.specs.updates.Identity.{SameZone, same_record, ttl_at}
use Rattle.hickory_store.specs.updates.UpdateAnswers.{is_apex_soa}
use Rattle.hickory_store.specs.updates.UpdateLaws.{HasOneSoa, HoldsIn}
use Rattle.hickory_store.proofs.lemmas.updates.ApexNs.{OfOneType, Records, Resource}
use Rattle.hickory_store.proofs.lemmas.updates.SameZones.{Identity, passes, same_itself, same_respects, some_ttl, ttl_append}
use Rattle.journal.specs.Generations.{header as generation_header}
use Rattle.durable_updates.specs.Compactions.{fresh}
use Rattle.durable_updates.specs.Redone.{Redone}
use Rattle.durable_updates.specs.Snapshots.{IsAnswer, IsBase, IsPut, IsSnapshot, Recalls, Say, Says, compacted}
use Rattle.durable_updates.proofs.Sameness.{Alike, redone_alike, redone_once}

-- ---- of eight bytes nothing is read

no_message : (a b c d e f g h : ℕ) (m : Message) (stop : Cursor) → ◌≡◌ {A = Result (Message × Cursor) DecodeError} (message (front_of (a ∷ b ∷ c ∷ d ∷ e ∷ f ∷ g ∷ h ∷ []))) (Ok (m, stop)) → ⊥
unfolding message header
no_message a b c d e f g h m stop is = cc

pub not_read : (entry : List ℕ) (m : Message) → Reads entry m → length entry ≡ 8 → ⊥
not_read (a ∷ b ∷ c ∷ d ∷ e ∷ f ∷ g ∷ h ∷ []) m r size = no_message a b c d e f g h m r.stop r.reads
not_read [] m r size = absurd (omega (arith, size))
not_read (a ∷ []) m r size = absurd (omega (arith, size))
not_read (a ∷ b ∷ []) m r size = absurd (omega (arith, size))
not_read (a ∷ b ∷ c ∷ []) m r size = absurd (omega (arith, size))
not_read (a ∷ b ∷ c ∷ d ∷ []) m r size = absurd (omega (arith, size))
not_read (a ∷ b ∷ c ∷ d ∷ e ∷ []) m r size = absurd (omega (arith, size))
not_read (a ∷ b ∷ c ∷ d ∷ e ∷ f ∷ []) m r size = absurd (omega (arith, size))
not_read (a ∷ b ∷ c ∷ d ∷ e ∷ f ∷ g ∷ []) m r size = absurd (omega (arith, size))
not_read (a ∷ b ∷ c ∷ d ∷ e ∷ f ∷ g ∷ h ∷ i ∷ rest) m r size = absurd (omega (arith, size))

-- ---- entries that say records

pub say_more : (entries more : List (List ℕ)) (records added : Records) → Say entries records → Say more added → Say (entries ++ more) (records ++ added)
say_more [] more [] added say new = new
say_more [] more (r ∷ records) added say new = absurd say
say_more (e ∷ entries) more [] added say new = absurd say
say_more (e ∷ entries) more (r ∷ records) added say new = (say.0, say_more entries more records added say.1 new)

same_answer : (entry : List ℕ) (q r : Resource) → IsAnswer entry q → IsAnswer entry r → q ≡ r
same_answer entry q r a b =
    let one : a.message ≡ b.message = ap (λ (m : Message × Cursor). m.0) (ok_is (sym a.reads.reads ∙ b.reads.reads)) in
    first_is (sym a.answer ∙ ap (λ (m : Message). m.answers) one ∙ b.answer)
  where
    ok_is : {m n : Message × Cursor} → ◌≡◌ {A = Result (Message × Cursor) DecodeError} (Ok m) (Ok n) → m ≡ n
    ok_is e = cc

    first_is : {q r : Resource} → ◌≡◌ {A = Records} (q ∷ []) (r ∷ []) → q ≡ r
    first_is e = cc

module _ (identity : Identity) where
  pub says_itself : (entry : List ℕ) (r : Resource) → IsAnswer entry r → Says entry r
  says_itself entry r a = record { said = r; is_answer = a; same = same_itself identity r; ttl = refl }

  says_one : (entry : List ℕ) (r s x : Resource) → Says entry r → Says entry s → (same_record x r ≡ same_record x s) × (r.ttl ≡ s.ttl)
  says_one entry r s x p q =
      let one : p.said ≡ q.said = same_answer entry p.said q.said p.is_answer q.is_answer in (
        same_respects identity x p.said r p.same ∙ ap (same_record x) one ∙ sym (same_respects identity x q.said s q.same),
        sym p.ttl ∙ ap (λ (t : Resource). t.ttl) one ∙ q.ttl,
      )

  pub said_once : (entries : List (List ℕ)) (records others : Records) → Say entries records → Say entries others → SameZone records others
  said_once [] [] [] p q x = refl
  said_once [] (r ∷ records) others p q x = absurd p
  said_once [] [] (s ∷ others) p q x = absurd q
  said_once (e ∷ entries) [] others p q x = absurd p
  said_once (e ∷ entries) (r ∷ records) [] p q x = absurd q
  said_once (e ∷ entries) (r ∷ records) (s ∷ others) p q x =
      let one = says_one e r s x p.0 q.0 in
      λ i. cond (one.0 i) (Some (one.1 i)) (said_once entries records others p.1 q.1 x i)

  -- ---- records of which each counts once

  put_last : (kept rs : Records) (r q : Resource) (m : Bool) → list_any (same_record r) kept ≡ m → ttl_at (cond m kept (kept ++ r ∷ []) ++ rs) q ≡ ttl_at (kept ++ r ∷ rs) q
  put_last kept rs r q false none = ap (λ (l : Records). ttl_at l q) (append_assoc kept (r ∷ []) rs)
  put_last kept rs r q true there = ttl_append kept rs q ∙ by (same_record q r) refl ∙ sym (ttl_append kept (r ∷ rs) q)
    where
      found : (x : Option ℕ) (y z : Option ℕ) → is_some x ≡ true → option_or x y ≡ option_or x z
      found None y z is = absurd (cc)
      found (Some t) y z is = refl

      by : (b : Bool) → same_record q r ≡ b → option_or (ttl_at kept q) (ttl_at rs q) ≡ option_or (ttl_at kept q) (cond b (Some r.ttl) (ttl_at rs q))
      by false is = refl
      by true is = found (ttl_at kept q) (ttl_at rs q) (Some r.ttl) (some_ttl kept q ∙ passes identity (same_record q) (same_respects identity q) r is kept there)

  kept_same : (kept rs : Records) → SameZone (fold keep_first kept rs) (kept ++ rs)
  kept_same kept [] q = ap (λ (l : Records). ttl_at l q) (sym (append-nil kept))
  kept_same kept (r ∷ rs) q = kept_same (keep_first kept r) rs q ∙ put_last kept rs r q (list_any (same_record r) kept) refl

  pub first_same : (rs : Records) → SameZone (first_records rs) rs
  first_same rs = kept_same [] rs

  -- ---- one SOA

  module _ (o : DomainName) where
    of_apex : (r : Resource) → is_of o 6 r ≡ is_apex_soa o r
    of_apex r = ap (λ b. is_at o r && b) (both_ways (6 == type_of r.rdata) (type_of r.rdata == 6) (λ e. eq-eqb (type_of r.rdata) 6 (sym (eqb-true 6 (type_of r.rdata) e))) (λ e. eq-eqb 6 (type_of r.rdata) (sym (eqb-true (type_of r.rdata) 6 e))))

    none_left : (rs : Records) → length (filter (is_of o 6) rs) ≡ 0 → (s : Resource) → list_any (λ q. is_apex_soa o q && not (same_record s q)) rs ≡ false
    none_left [] none s = refl
    none_left (r ∷ rs) none s = by (is_of o 6 r) refl none (λ few. none_left rs few s)
      where
        by : (b : Bool) → is_of o 6 r ≡ b → length (cond b (r ∷ filter (is_of o 6) rs) (filter (is_of o 6) rs)) ≡ 0
            → (length (filter (is_of o 6) rs) ≡ 0 → list_any (λ q. is_apex_soa o q && not (same_record s q)) rs ≡ false)
            → ((is_apex_soa o r && not (same_record s r)) || list_any (λ q. is_apex_soa o q && not (same_record s q)) rs) ≡ false
        by true is none rest = absurd (omega (arith, none))
        by false is none rest = ap (λ b. (b && not (same_record s r)) || list_any (λ q. is_apex_soa o q && not (same_record s q)) rs) (sym (of_apex r) ∙ is) ∙ rest none

    not_other : (a b : Bool) → b ≡ true → (a && not b) ≡ false
    not_other true true is = refl
    not_other false true is = refl
    not_other a false is = absurd (cc)

    or_yes : (a b : Bool) → b ≡ true → (a || b) ≡ true
    or_yes true b is = refl
    or_yes false b is = is

    pub one_soa_of : (rs : Records) → length (filter (is_of o 6) rs) ≡ 1 → HasOneSoa o rs
    one_soa_of [] one = absurd (omega (arith, one))
    one_soa_of (r ∷ rs) one = by (is_of o 6 r) refl one (λ few. one_soa_of rs few)
      where
        by : (b : Bool) → is_of o 6 r ≡ b → length (cond b (r ∷ filter (is_of o 6) rs) (filter (is_of o 6) rs)) ≡ 1 → (length (filter (is_of o 6) rs) ≡ 1 → HasOneSoa o rs) → HasOneSoa o (r ∷ rs)
        by true is one rest =
            let itself : same_record r r ≡ true = same_itself identity r in
            let few : length (filter (is_of o 6) rs) ≡ 0 = omega (arith, one) in (
              r,
              (
                sym (of_apex r) ∙ is,
                ap (λ b. b || list_any (same_record r) rs) itself,
                ap (λ b. b || list_any (λ q. is_apex_soa o q && not (same_record r q)) rs) (not_other (is_apex_soa o r) (same_record r r) itself) ∙ none_left rs few r,
              ),
            )
        by false is one rest =
            let more = rest one in (
              more.0,
              (
                more.1.0,
                or_yes (same_record more.0 r) (list_any (same_record more.0) rs) more.1.1,
                ap (λ b. (b && not (same_record more.0 r)) || list_any (λ q. is_apex_soa o q && not (same_record more.0 q)) rs) (sym (of_apex r) ∙ is) ∙ more.1.2,
              ),
            )

-- a name that is in lower case
pub lowered : (n m : DomainName) → n ≡ m → lower_labels m.labels ≡ m.labels → lower_name n ≡ m
lowered n m same lower = ap lower_name same ∙ (λ i. record { labels = lower i; is_fqdn = m.is_fqdn })

module _ (identity : Identity) (same_type : OfOneType) where
  -- the zone of records
  pub made_same : (records : Records) (sets : List (RrKey × Records)) → IsZone sets → AreSetsInOrder sets → HoldsSets (first_records records) sets → SameZone (zone_records sets) records
  made_same records sets zone ordered holds = λ q. same_of identity (first_records records) sets ordered zone holds q ∙ first_same identity records q

  pub made_soa : (o n : DomainName) (records : Records) (sets : List (RrKey × Records)) → lower_name n ≡ o → IsZone sets → AreSetsInOrder sets → HoldsSets (first_records records) sets
      → length (rrset (first_records records) (lower_name n) 6) ≡ 1 → HasOneSoa o (zone_records sets)
  made_soa o n records sets lower zone ordered holds one =
      let soa : HasOneSoa o (first_records records) = subst (λ m. HasOneSoa m (first_records records)) lower (one_soa_of identity (lower_name n) (first_records records) one) in
      (soa.0, one_soa_same identity same_type o (first_records records) (zone_records sets) soa.0 (λ q. sym (same_of identity (first_records records) sets ordered zone holds q)) soa.1)

-- ---- one way to split

pub one_split : (first other requests others : List (List ℕ)) (records said : Records) → Say first records → Say other said → first ++ [] ∷ requests ≡ other ++ [] ∷ others → (first ≡ other) × (requests ≡ others)
one_split [] [] requests others records said p q is = (refl, cc)
one_split [] (e ∷ other) requests others records [] p q is = absurd q
one_split [] (e ∷ other) requests others records (s ∷ said) p q is =
    let empty : [] ≡ e = cc in
    absurd (omega (arith, subst (λ (l : List ℕ). 0 < length l) (sym empty) q.0.is_answer.filled))
one_split (e ∷ first) other requests others [] said p q is = absurd p
one_split (e ∷ first) [] requests others (r ∷ records) said p q is =
    let empty : e ≡ [] = cc in
    absurd (omega (arith, subst (λ (l : List ℕ). 0 < length l) empty p.0.is_answer.filled))
one_split (e ∷ first) (f ∷ other) requests others (r ∷ records) [] p q is = absurd q
one_split (e ∷ first) (f ∷ other) requests others (r ∷ records) (s ∷ said) p q is =
    let same : e ≡ f = cc in
    let behind : first ++ [] ∷ requests ≡ other ++ [] ∷ others = cc in
    let rest = one_split first other requests others records said p.1 q.1 behind in
    (λ i. same i ∷ rest.0 i, rest.1)

-- ---- what is recalled

pub heads : {e f : List ℕ} {es fs : List (List ℕ)} → ◌≡◌ {A = List (List ℕ)} (e ∷ es) (f ∷ fs) → e ≡ f
heads is = cc

pub tails : {e f : List ℕ} {es fs : List (List ℕ)} → ◌≡◌ {A = List (List ℕ)} (e ∷ es) (f ∷ fs) → es ≡ fs
tails is = cc

-- a file that was compacted is done again in no other way
pub not_both : {P : Type 0} (entries : List (List ℕ)) (first a base : MemoryZone) (requests : List (List ℕ)) → Redone entries first a → IsPut entries first base requests → P
not_both [] first a base requests p q = let none : [] ≡ compacted q.head q.snapshot requests = q.split in absurd (cc)
not_both (e ∷ entries) first a base requests p q = absurd (not_read e p.1.message p.1.reads (ap length (heads q.split) ∙ q.is_head))

-- what is done to the first zone itself
pub plain : (entries : List (List ℕ)) (first new base : MemoryZone) (requests : List (List ℕ)) → (requests ≡ entries) × (base ≡ first) → Redone requests base new → Redone entries first new
plain entries first new base requests same done = subst (λ (l : List (List ℕ)). Redone l first new) same.0 (subst (λ (z : MemoryZone). Redone requests z new) same.1 done)

pub not_of_fresh : {P : Type 0} (head : List ℕ) (rest : List (List ℕ)) (first new : MemoryZone) → length head ≡ 8 → Redone (head ∷ rest) first new → P
not_of_fresh head rest first new is p = absurd (not_read head p.1.message p.1.reads is)

module _ (identity : Identity) (same_type : OfOneType) where
  module _ (entries : List (List ℕ)) (first a b one other : MemoryZone) (requests others : List (List ℕ)) where
    put_alike : IsPut entries first one requests → IsPut entries first other others → Redone requests one a → Redone others other b → Alike identity same_type a b
    put_alike p q done done_too =
        let split = one_split p.snapshot q.snapshot requests others p.is_snapshot.0 q.is_snapshot.0 p.is_snapshot.1 q.is_snapshot.1 (tails (sym p.split ∙ q.split)) in
        let said : Say p.snapshot q.is_snapshot.0 = subst (λ (l : List (List ℕ)). Say l q.is_snapshot.0) (sym split.0) q.is_snapshot.1 in
        redone_alike identity same_type requests one other a b
        (record {
          origin = ap (λ (z : MemoryZone). z.origin) p.others ∙ sym (ap (λ (z : MemoryZone). z.origin) q.others);
          records = λ r. p.is_snapshot.2 r ∙ said_once identity p.snapshot p.is_snapshot.0 q.is_snapshot.0 p.is_snapshot.1 said r ∙ sym (q.is_snapshot.2 r);
          soa = p.is_snapshot.3;
        })
        done (subst (λ (l : List (List ℕ)). Redone l other b) (sym split.1) done_too)

    once : HoldsIn HasOneSoa first → IsBase entries first one requests → IsBase entries first other others → Redone requests one a → Redone others other b
        → SameZone (zone_records a.sets) (zone_records b.sets) × HoldsIn HasOneSoa a
    once soa (inl p) (inl q) done done_too = redone_once identity same_type entries first a b soa (plain entries first a one requests p done) (plain entries first b other others q done_too)
    once soa (inl p) (inr q) done done_too = not_both entries first a other others (plain entries first a one requests p done) q
    once soa (inr p) (inl q) done done_too = not_both entries first b one requests (plain entries first b other others q done_too) p
    once soa (inr p) (inr q) done done_too = let alike = put_alike p q done done_too in (alike.records, alike.soa)

  pub recalled_once : (entries : List (List ℕ)) (first a b : MemoryZone) → HoldsIn HasOneSoa first → Recalls entries first a → Recalls entries first b → SameZone (zone_records a.sets) (zone_records b.sets) × HoldsIn HasOneSoa a
  recalled_once entries first a b soa p q = once entries first a b p.base q.base p.requests q.requests soa p.is_base q.is_base p.redone q.redone

  module _ (generation : ℕ) (written : List (List ℕ)) (first zone new base : MemoryZone) (requests : List (List ℕ)) (is : IsSnapshot written zone) where
    of_base : IsBase (fresh generation written) first base requests → Redone requests base new → SameZone (zone_records new.sets) (zone_records zone.sets)
    of_base (inl p) done = not_of_fresh (generation_header generation) (written ++ [] ∷ []) first new refl (plain (fresh generation written) first new base requests p done)
    of_base (inr p) done =
        let split = one_split written p.snapshot [] requests is.0 p.is_snapshot.0 is.1 p.is_snapshot.1 (tails p.split) in
        let said : Say p.snapshot is.0 = subst (λ (l : List (List ℕ)). Say l is.0) split.0 is.1 in
        let none : Redone [] base new = subst (λ (l : List (List ℕ)). Redone l base new) (sym split.1) done in
        λ r. ap (λ (z : MemoryZone). ttl_at (zone_records z.sets) r) none ∙ p.is_snapshot.2 r ∙ said_once identity p.snapshot p.is_snapshot.0 is.0 p.is_snapshot.1 said r ∙ sym (is.2 r)

  -- what was written says the zone, once it was read and made a zone
  pub snapshot_is : (written found rest : List (List ℕ)) (zone : MemoryZone) (made records : Records) → Say written (zone_records zone.sets) → written ++ [] ∷ [] ≡ found ++ [] ∷ rest → Say found records
      → SameZone made records → HasOneSoa zone.origin made → IsSnapshot written zone
  snapshot_is written found rest zone made records say split read same soa =
      let one = one_split written found [] rest (zone_records zone.sets) records say read split in
      let said : Say written records = subst (λ (l : List (List ℕ)). Say l records) (sym one.0) read in (
        zone_records zone.sets,
        say,
        (λ q. refl),
        (soa.0, one_soa_same identity same_type zone.origin made (zone_records zone.sets) soa.0 (λ q. same q ∙ said_once identity written records (zone_records zone.sets) said say q) soa.1),
      )

  pub fresh_recalled : (generation : ℕ) (written : List (List ℕ)) (first zone new : MemoryZone) → IsSnapshot written zone → Recalls (fresh generation written) first new → SameZone (zone_records new.sets) (zone_records zone.sets)
  fresh_recalled generation written first zone new is p = of_base generation written first zone new p.base p.requests is p.is_base p.redone

-- a zone is what its own snapshot makes of it
pub recalls_itself : (generation : ℕ) (written : List (List ℕ)) (zone : MemoryZone) → IsSnapshot written zone → Recalls (fresh generation written) zone zone
recalls_itself generation written zone is = record {
  base = zone;
  requests = [];
  is_base = inr (record { head = generation_header generation; snapshot = written; split = refl; is_head = refl; is_snapshot = is; others = refl });
  redone = refl;
}

-- entries that are none but requests
pub recalls_all : (entries : List (List ℕ)) (first new : MemoryZone) → Redone entries first new → Recalls entries first new
recalls_all entries first new done = record { base = first; requests = entries; is_base = inl (refl, refl); redone = done }

-- what is done of the requests is what is recalled of a front of the entries
pub recalls_front : (entries requests done rest : List (List ℕ)) (first base new : MemoryZone) → IsBase entries first base requests → requests ≡ done ++ rest → Redone done base new
    → (front : List (List ℕ)) × (entries ≡ front ++ rest) × Recalls front first new
recalls_front entries requests done rest first base new (inl same) split redone = (done, sym same.0 ∙ split, record { base = base; requests = done; is_base = inl (refl, same.1); redone = redone })
recalls_front entries requests done rest first base new (inr put) split redone = (
  compacted put.head put.snapshot done,
  put.split ∙ ap (λ (l : List (List ℕ)). put.head ∷ (put.snapshot ++ [] ∷ l)) split ∙ ap (λ (l : List (List ℕ)). put.head ∷ l) (sym (append_assoc put.snapshot ([] ∷ done) rest)),
  record {
    base = base;
    requests = done;
    is_base = inr (record { head = put.head; snapshot = put.snapshot; split = refl; is_head = put.is_head; is_snapshot = put.is_snapshot; others = put.others });
    redone = redone;
  },
)

-- of what was found
pub of_found : {T E : Type 0} (P Q : T → Type 0) (result : Result (Option T) E) → ((t : T) → P t → Q t) → IfOk result (λ found. IfSome found P) → IfOk result (λ found. IfSome found Q)
of_found P Q (Ok None) from h = tt
of_found P Q (Ok (Some t)) from h = from t h
of_found P Q (Err e) from h = tt
