-- What the marks of an index tell of names that updates may have changed.
use Rattle.std.proofs.Common.{◌≡◌, ℕ, zero, suc, ◌<◌, ◌≤◌, Bool, true, false, ◌||◌, ◌&&◌, List, [], ◌∷◌, ◌++◌, take, drop, length, Option, Some, None, refl, sym, ap, subst, ◌∙◌, arith}
use Rattle.std.specs.Prelude.{slice_get, slice_set, IfSome, IsSome}
use Rattle.std.specs.List.{AllByRecursion, list_any}
use Rattle.std.specs.List.Sorted.{IsStrictlySortedBy}
use Rattle.std.specs.Map.{keys_of}
use Rattle.std.specs.BTreeMap.Range.{IsLeBy, range_contains}
use Rattle.std.specs.Cmp.{IsEquivalence, eq_by_cmp_equiv, upto}
use Rattle.std.specs.declared.alloc.Global.{Global}
use Rattle.std.specs.declared.vec.Vec.{Vec}
use Rattle.std.specs.declared.cmp.Ordering.TheVariants.{Equal}
use Rattle.std.specs.declared.ops.Bound.TheVariants.{Included, Unbounded}
use Rattle.std.specs.Ordering.{is_eq, is_gt, is_le, nat_cmp, ordering_reverse, ordering_then}
use Rattle.std.proofs.lemmas.Bool.{false≢true}
use Rattle.wire_names.specs.representation.NameHash.{equal_is}
use Rattle.wire_names.specs.rr.domain.DomainName.{DomainName}
use Rattle.wire_names.specs.rr.domain.NameOrder.{Encloses, lower_labels, lower_name, name_cmp, name_cmp_total, name_eq}
use Rattle.wire_names.proofs.lemmas.rr.domain.SameNames.{eq_from_same, lower_same}
use Rattle.wire_messages.specs.rr.RrKeys.{key_cmp}
use Rattle.wire_messages.specs.declared.rr.rdata.RData.{RData}
use Rattle.wire_messages.specs.declared.rr.record.Record.{Record}
use Rattle.wire_messages.specs.declared.rr.rr_key.RrKey.{RrKey}
use Rattle.hickory_base.proofs.lemmas.zone_store.SoaAsked.{lookup_alike}
use Rattle.hickory_base.proofs.lemmas.zone_store.ZoneByName.{key_total}
use Rattle.hickory_base.specs.zone_store.ZoneRecords.{is_at}
use Rattle.hickory_base.specs.zone_store.ZoneSets.{has_name, shared_sets}
use Rattle.zone_answers.proofs.lemmas.names.EnclosedBetween.{same_of}
use Rattle.zone_answers.proofs.lemmas.zones.Glue.{IsGlueOf, Section, each_at}
use Rattle.zone_answers.proofs.lemmas.zones.Kept.{both_up_to, nameless}
use Rattle.zone_answers.proofs.lemmas.zones.Owners.{first_up_to, names_up_to}
use Rattle.zone_answers.proofs.lemmas.zones.Ranges.{le_of, of_le}
use Rattle.zone_answers.proofs.lemmas.zones.TopCuts.{from_there, in_front, in_order}
use Rattle.zone_answers.specs.declared.additionals.Source.TheVariants as source
use Rattle.zone_answers.specs.declared.cuts.TopCut.{TopCut}
use Rattle.zone_answers.specs.Additionals.{AreAdditionals, Gains, GainsFor, host, is_added, no_host, no_record, record_by, some_records, stands_already}
use Rattle.zone_answers.specs.representation.FoundRecords.{CutAbove}
use Rattle.zone_answers.specs.representation.Indexes.{IndexedSets, IsClearAt, IsIndexBut, IsIndexOf, IsPlaceOf, IsUnmarked, KeepsOthers, Marks}
use Rattle.zone_answers.specs.representation.KeysBeside.{Entry}
use Rattle.zone_answers.specs.representation.TopCuts.{AreEach, AreGlueOf, AreHostsOf, IsAt, IsClearGlue, IsClearHost, IsHostPlace, IsPlaceOfHost}
use Rattle.zone_answers.specs.Zones.{IsCut, Records, Sets, Zone, ancestor, rrset}

-- ---- places

pub marks_at : (marks : List Bool) (p q : ℕ) → slice_get (slice_set marks p true) q ≡ Some false → (slice_get marks q ≡ Some false) × (q ≡ p → ⊥)
marks_at [] p q h = absurd cc
marks_at (m ∷ marks) zero zero h = absurd cc
marks_at (m ∷ marks) zero (suc q) h = (h, λ e. absurd (omega (arith, e)))
marks_at (m ∷ marks) (suc p) zero h = (h, λ e. absurd (omega (arith, e)))
marks_at (m ∷ marks) (suc p) (suc q) h = let rest = marks_at marks p q h in (rest.0, λ e. rest.1 (omega (arith, e)))

not_both : (a b : Bool) → a ≡ b → a ≡ true → b ≡ false → ⊥
not_both a b e f g = let no : true ≡ false = sym f ∙ e ∙ g in cc

one_place_by : (f g : RrKey → Bool) → ((k : RrKey) → f k ≡ g k) → (es : List Entry) (p q : ℕ) → p ≤ length es → q ≤ length es
    → AllByRecursion (λ (e : Entry). f e.0 ≡ false) (take p es) → AllByRecursion (λ (e : Entry). f e.0 ≡ true) (drop p es)
    → AllByRecursion (λ (e : Entry). g e.0 ≡ false) (take q es) → AllByRecursion (λ (e : Entry). g e.0 ≡ true) (drop q es) → p ≡ q
one_place_by f g same [] p q within under low high below above = omega arith
one_place_by f g same (e ∷ es) zero zero within under low high below above = refl
one_place_by f g same (e ∷ es) zero (suc q) within under low high below above = absurd (not_both (f e.0) (g e.0) (same e.0) high.0 below.0)
one_place_by f g same (e ∷ es) (suc p) zero within under low high below above = absurd (not_both (g e.0) (f e.0) (sym (same e.0)) above.0 low.0)
one_place_by f g same (e ∷ es) (suc p) (suc q) within under low high below above =
    let rest : p ≡ q = one_place_by f g same es p q (omega arith) (omega arith) low.1 high below.1 above in omega (arith, rest)

-- equal keys have one place
one_place : (a b : RrKey) → key_cmp a b ≡ Equal → (es : List Entry) (p q : ℕ) → p ≤ length es → q ≤ length es → IsPlaceOf a es p → IsPlaceOf b es q → p ≡ q
one_place a b e es p q within under is at =
    one_place_by (λ k. range_contains key_cmp (Included a) Unbounded k) (λ k. range_contains key_cmp (Included b) Unbounded k) (λ k. ap (λ o. is_le o && true) (key_total.congr a b k e)) es p q within under is.before is.behind at.before at.behind

module _ (first : RrKey) (old new : IndexedSets) (m : Marks first old new) where
  moved : (k : RrKey) → IsUnmarked new k → IsUnmarked (record old { marks = new.marks }) k
  moved k u = subst (λ (i : IndexedSets). IsUnmarked i k) m.new_is u

  pub was_unmarked : (k : RrKey) → IsUnmarked new k → IsUnmarked old k
  was_unmarked k u = let v = moved k u in record { place = v.place; is = v.is; within = v.within; unmarked = m.marked.kept v.place v.unmarked }

  pub other_key : (k : RrKey) → IsUnmarked new k → key_cmp first k ≡ Equal → ⊥
  other_key k u e =
      let v = moved k u in
      m.marked.place_too (subst (λ p. slice_get new.marks p ≡ Some false) (sym (one_place first k e old.entries m.place v.place m.within v.within m.is v.is)) v.unmarked)

  pub was_clear : (place : ℕ) (e : Entry) → IsClearAt old.entries new.marks place e → IsClearAt old.entries old.marks place e
  was_clear place e c = record { there = c.there; clear = m.marked.kept place c.clear }

-- ---- the sets of a name

false_of : (b : Bool) → (b ≡ true → ⊥) → b ≡ false
false_of true h = absurd (h refl)
false_of false h = refl

module _ (first : RrKey) (least : first.record_type ≡ 0) (es : List Entry) (place : ℕ) (at : IsPlaceOf first es place) where
  -- no set before the place is of the name
  pub none_before : (n : ℕ) (e : Entry) → n < place → slice_get es n ≡ Some e → has_name first.name e.0 ≡ false
  none_before n e low is = false_of (has_name first.name e.0) (λ q.
      let up : range_contains key_cmp (Included first) Unbounded e.0 ≡ true = of_le (key_cmp first e.0) (first_up_to first e.0 least (ap is_gt (equal_is (name_cmp first.name e.0.name) q))) in
      false≢true (sym (in_front (λ (x : Entry). range_contains key_cmp (Included first) Unbounded x.0 ≡ false) es place n e at.before low is) ∙ up))

  -- and none from a set of another name on
  pub none_after : IsStrictlySortedBy key_cmp (keys_of es) → (n other : ℕ) (x e : Entry) → place ≤ n → n ≤ other → slice_get es n ≡ Some x → has_name first.name x.0 ≡ false → slice_get es other ≡ Some e
      → has_name first.name e.0 ≡ false
  none_after sorted n other x e from up is apart there = false_of (has_name first.name e.0) (λ q.
      let low : IsLeBy name_cmp first.name x.0.name =
      names_up_to first x.0 (le_of (key_cmp first x.0) (from_there (λ (y : Entry). range_contains key_cmp (Included first) Unbounded y.0 ≡ true) es place n x at.behind from is)) in
      let high : IsLeBy name_cmp x.0.name e.0.name = names_up_to x.0 e.0 (in_order key_total es n other x e sorted up is there) in
      let back : IsLeBy name_cmp x.0.name first.name = upto name_cmp_total x.0.name e.0.name first.name high (ap is_gt (name_cmp_total.antisymm e.0.name first.name ∙ ap ordering_reverse (equal_is (name_cmp first.name e.0.name) q))) in
      false≢true (sym apart ∙ ap is_eq (both_up_to (name_cmp first.name x.0.name) (name_cmp x.0.name first.name) (name_cmp_total.antisymm x.0.name first.name) low back)))

-- ---- names

names : IsEquivalence name_eq
names = eq_by_cmp_equiv name_cmp_total

lower_own : (n : DomainName) → name_eq (lower_name n) n ≡ true
lower_own n = eq_from_same (lower_name n) n (lower_same n)

pub equal_keys : (a b : DomainName) → name_eq a b ≡ true → key_cmp (nameless a) (nameless b) ≡ Equal
equal_keys a b e = ap (λ o. ordering_then o (nat_cmp 0 0)) (equal_is (name_cmp a b) e)

second : (a b : Bool) → a ≡ false → b ≡ false → (a || b) ≡ false
second a b e f = ap (λ x. x || b) e ∙ f

-- ---- after an update

module _ (records : Records) (origin : DomainName) (before after : Sets) (old new : IndexedSets) (m : Marks (nameless old.apex) old new) (of : IsIndexOf origin before old) (kept : KeepsOthers records origin before after) where
  apart : (name : DomainName) → IsUnmarked new (nameless name) → name_eq name origin ≡ false
  apart name u = false_of (name_eq name origin) (λ e. other_key (nameless old.apex) old new m (nameless name) u
      (equal_keys old.apex name (ap (λ d. name_eq d name) of.apex ∙ names.symm origin name ∙ e)))

  apart_set : (place : ℕ) (e : Entry) → IsClearAt old.entries new.marks place e → name_eq e.0.name origin ≡ false
  apart_set place e c = false_of (name_eq e.0.name origin) (λ q. false≢true (sym (m.marked.own place e c) ∙ ap (λ d. name_eq d e.0.name) of.apex ∙ names.symm origin e.0.name ∙ q))

  not_apex : (name : DomainName) → ¬ (Encloses old.apex.labels name.labels) → name_eq name origin ≡ false
  not_apex name out = false_of (name_eq name origin) (λ q. out (record { front = []; ends = (same_of name origin (equal_is (name_cmp name origin) q)).labels ∙ ap (λ (d : DomainName). lower_labels d.labels) (sym of.apex) }))

  -- the place of the apex is marked, since the serial has changed
  pub begun : IsIndexBut records origin after new
  begun =
      subst (IsIndexBut records origin after) (sym m.new_is) (record {
        apex = of.apex;
        held = λ place e c none. kept e.0.name e.0.record_type none (λ soa. apart_set place e c) ∙ of.held place e (was_clear (nameless old.apex) old new m place e c) refl;
        unmarked = λ name t none u.
            let v = subst (λ (i : IndexedSets). IsUnmarked i (nameless name)) (sym m.new_is) u in
            kept name t none (λ soa. apart name v) ∙ of.unmarked name t refl (was_unmarked (nameless old.apex) old new m (nameless name) v);
        servers = λ name none has. kept name 2 none (λ soa. absurd (omega (arith, soa))) ∙ of.servers name refl has;
        outside = λ name t none out. kept name t none (λ soa. not_apex name out) ∙ of.outside name t refl out;
      })

-- what a name owns of a type neither before nor after
pub record OwnsNone (sets : Sets) (entries : List Entry) (name : DomainName) (t : ℕ) : Type 0 where
  pub before : rrset (shared_sets entries) name t ≡ None
  pub after : rrset sets name t ≡ None

module _ (r : Record RData) (rest : Records) (origin : DomainName) (sets : Sets) (old new : IndexedSets) (servers : Bool) (name : DomainName) (is : name ≡ lower_name r.name) (within : Encloses old.apex.labels name.labels)
    (ns : servers ≡ true → (old.has_servers ≡ true) × OwnsNone sets old.entries name 2)
    (m : Marks (nameless name) (record old { has_servers = servers }) new) (of : IsIndexBut (r ∷ rest) origin sets old) where
  abbrev mid : IndexedSets
  mid = record old { has_servers = servers }

  named : (n : DomainName) → is_at n r ≡ true → name_eq n name ≡ true
  named n e = ap (name_eq n) is ∙ names.congr n r.name (lower_name r.name) e ∙ names.symm r.name (lower_name r.name) ∙ lower_own r.name

  none_still : (n : DomainName) (t : ℕ) → is_at n r ≡ true → OwnsNone sets old.entries name t → rrset sets n t ≡ rrset (shared_sets old.entries) n t
  none_still n t e none =
      lookup_alike n name t (named n e) sets ∙ none.after ∙ sym (lookup_alike n name t (named n e) (shared_sets old.entries) ∙ none.before)

  by_name : (n : DomainName) (t : ℕ) (had : Option Records) (b : Bool) → is_at n r ≡ b → (b ≡ true → rrset sets n t ≡ had)
      → (list_any (is_at n) (r ∷ rest) ≡ false → rrset sets n t ≡ had) → list_any (is_at n) rest ≡ false → rrset sets n t ≡ had
  by_name n t had true e own other none = own refl
  by_name n t had false e own other none = other (second (is_at n r) (list_any (is_at n) rest) e none)

  inside : (n : DomainName) → is_at n r ≡ true → Encloses old.apex.labels n.labels
  inside n e = record { front = within.front; ends = (same_of n name (equal_is (name_cmp n name) (named n e))).labels ∙ within.ends }

  -- one record more
  pub marked_on : IsIndexBut rest origin sets new
  marked_on =
      subst (IsIndexBut rest origin sets) (sym m.new_is) (record {
        apex = of.apex;
        held = λ place e c none.
            by_name e.0.name e.0.record_type (Some e.1.value) (is_at e.0.name r) refl
            (λ q. absurd (false≢true (sym (m.marked.own place e c) ∙ names.symm name e.0.name ∙ named e.0.name q)))
            (λ none. of.held place e (was_clear (nameless name) mid new m place e c) none) none;
        unmarked = λ n t none u.
            let v = subst (λ (i : IndexedSets). IsUnmarked i (nameless n)) (sym m.new_is) u in
            let w = was_unmarked (nameless name) mid new m (nameless n) v in
            by_name n t (rrset (shared_sets old.entries) n t) (is_at n r) refl
            (λ e. absurd (other_key (nameless name) mid new m (nameless n) v (equal_keys name n (names.symm name n ∙ named n e))))
            (λ none. of.unmarked n t none (record { place = w.place; is = w.is; within = w.within; unmarked = w.unmarked })) none;
        servers = λ n none has. by_name n 2 (rrset (shared_sets old.entries) n 2) (is_at n r) refl (λ e. none_still n 2 e (ns has).1) (λ none. of.servers n none (ns has).0) none;
        outside = λ n t none out. by_name n t (rrset (shared_sets old.entries) n t) (is_at n r) refl (λ e. absurd (out (inside n e))) (λ none. of.outside n t none out) none;
      })

-- ---- cuts and glue of the zone as it is

module _ (origin : DomainName) (one other : Sets) (servers : (n : DomainName) → rrset other n 2 ≡ rrset one n 2) where
  cut_there : (n : DomainName) → IsCut (record { origin = origin; sets = one }) n → IsCut (record { origin = origin; sets = other }) n
  cut_there n cut = record { within = cut.within; below_apex = cut.below_apex; servers = subst (λ (o : Option Records). IsSome o) (sym (servers n)) cut.servers }

  cut_here : (n : DomainName) → IsCut (record { origin = origin; sets = other }) n → IsCut (record { origin = origin; sets = one }) n
  cut_here n cut = record { within = cut.within; below_apex = cut.below_apex; servers = subst (λ (o : Option Records). IsSome o) (servers n) cut.servers }

  pub cut_moves : (name : DomainName) (found : Option Records) → CutAbove (record { origin = origin; sets = one }) name found → CutAbove (record { origin = origin; sets = other }) name found
  cut_moves name None none = λ k some cut. none k some (cut_here (ancestor name k) cut)
  cut_moves name (Some rs) ends = record {
    off = ends.off;
    above = ends.above;
    delegates = record { cut = cut_there (ancestor name ends.off) ends.delegates.cut; highest = λ j less cut. ends.delegates.highest j less (cut_here (ancestor name j) cut) };
    servers = servers (ancestor name ends.off) ∙ ends.servers;
  }

module _ (index : IndexedSets) (origin : DomainName) (other : Sets) (of : IsIndexOf origin other index) where
  abbrev early : Zone
  early = record { origin = index.apex; sets = shared_sets index.entries }

  abbrev late : Zone
  late = record { origin = origin; sets = other }

  host_still : (n : DomainName) (place : Option ℕ) (t : ℕ) → IsPlaceOfHost index.apex index.entries n place → IsClearHost index.marks place → rrset other n t ≡ rrset (shared_sets index.entries) n t
  host_still n None t out clear = of.outside n t refl out
  host_still n (Some place) t at clear = of.unmarked n t refl (record { place = place; is = at.0; within = at.1; unmarked = clear })

  gains_move : (present : Records) (n : DomainName) (t : ℕ) (rs : Records) → rrset other n t ≡ rrset (shared_sets index.entries) n t → Gains source.Glue early present n t rs → Gains source.Glue late present n t rs
  gains_move present n t rs same (stands_already there) = stands_already there
  gains_move present n t rs same (is_added none had) = is_added none (had ∙ ap some_records (sym same))

  gains_for : (present : Records) (r : Record RData) (place : Option ℕ) (rs : Records) → IsHostPlace index.apex index.entries r place → IsClearHost index.marks place → GainsFor source.Glue early present r.rdata rs
      → GainsFor source.Glue late present r.rdata rs
  gains_for present r place rs at clear (no_host none) = no_host none
  gains_for present r place rs at clear (host {four = a} {six = b} {name = n} is first next) =
      let own : IsPlaceOfHost index.apex index.entries (lower_name n) place = subst (λ (o : Option DomainName). IfSome o (λ m. IsPlaceOfHost index.apex index.entries (lower_name m) place)) is at in
      host is (gains_move present (lower_name n) 1 a (host_still (lower_name n) place 1 own clear) first) (gains_move (present ++ a) (lower_name n) 28 b (host_still (lower_name n) place 28 own clear) next)

  glue_moves : (present naming gained : Records) (places : List (Option ℕ)) → AreEach (IsHostPlace index.apex index.entries) naming places → AllByRecursion (IsClearHost index.marks) places
      → AreAdditionals source.Glue early present naming gained → AreAdditionals source.Glue late present naming gained
  glue_moves present naming gained places at clear no_record = no_record
  glue_moves present naming gained [] at clear (record_by {gained = by_one} {rest = rest} {naming = others} {r = r} gains more) = absurd at
  glue_moves present naming gained (place ∷ places) at clear (record_by {gained = by_one} {rest = rest} {naming = others} {r = r} gains more) =
      record_by (gains_for present r place by_one at.0 clear.0 gains) (glue_moves (present ++ by_one) others rest places at.1 clear.1 more)

  -- the addresses of the servers of a cut, where none of their places has a mark
  pub glue_still : (cuts : List Entry) (hosts : List (Vec (Option ℕ) Global)) (all : List Section) (top : TopCut) (told : Option Records) → AreGlueOf early cuts all → AreHostsOf index.apex index.entries cuts hosts → IsAt cuts top
      → IfSome told (IsClearGlue index.marks hosts all top.place) → IfSome told (AreAdditionals source.Glue late [] top.servers.now)
  glue_still cuts hosts all top None glue places at clear = tt
  glue_still cuts hosts all top (Some rs) glue places at clear =
      let made : IsGlueOf early at.entry.1.value clear.section = each_at (λ (e : Entry) (section : Section). IsGlueOf early e.1.value section) cuts all top.place at.entry clear.section glue at.is clear.there in
      let hosted : AreEach (IsHostPlace index.apex index.entries) at.entry.1.value clear.places.items =
      each_at (λ (e : Entry) (ps : Vec (Option ℕ) Global). AreEach (IsHostPlace index.apex index.entries) e.1.value ps.items) cuts hosts top.place at.entry clear.places places at.is clear.hosts_there in
      subst (λ (servers : Records). AreAdditionals source.Glue late [] servers rs) at.servers
      (glue_moves [] at.entry.1.value rs clear.places.items hosted clear.clear (subst (AreAdditionals source.Glue early [] at.entry.1.value) (sym clear.records) made))
