-- Records of which each counts once: what the numbers tell, and that no two of those that are kept are the same.
use Rattle.std.proofs.Common.{◌≡◌, ◌∙◌, ap, sym, refl, ℕ, Bool, true, false, cond, not, ◌&&◌, ◌||◌, ◌++◌, [], ◌∷◌, List}
use Rattle.std.specs.Prelude.{◌↔◌, IsTrue, fold, nat_eq}
use Rattle.std.specs.Hash.DefaultHasher as sip
use Rattle.std.specs.List.{AllByRecursion, list_any}
use Rattle.std.proofs.lemmas.Bool.{eq-eqb}
use Rattle.std.proofs.lemmas.List.Folds.{list_any-append}
use Rattle.std.proofs.lemmas.List.Sums.{fold-append}
use Rattle.std.specs.HashSet.{HashSet, contains}
use Rattle.wire_names.specs.rr.domain.DomainName.{DomainName}
use Rattle.wire_names.specs.representation.NameHash.{name_hash_input}
use Rattle.wire_names.specs.rr.domain.NameOrder.{SameName, lower_name}
use Rattle.wire_messages.specs.rr.RecordSameness.{SameData, SameRecord, lower_data}
use Rattle.wire_messages.specs.declared.rr.rdata.RData.{RData}
use Rattle.wire_messages.specs.declared.rr.rdata.RData.TheVariants as rdata
use Rattle.wire_messages.specs.declared.rr.record.Record.{Record}
use Rattle.wire_names.proofs.lemmas.rr.domain.SameNames.{both_ways}
use Rattle.hickory_base.specs.zone_store.ZoneSets.{AreDistinct}
use Rattle.hickory_store.specs.representation.Digests.{data_writes, digest_of}
use Rattle.hickory_store.specs.file.FirstRecords.{Knows, digested, first_records, keep_first, same_digested}
use Rattle.hickory_store.specs.updates.Identity.{same_record}
use Rattle.hickory_store.specs.declared.file.digests.Digested.{Digested}
use Rattle.hickory_store.proofs.lemmas.updates.SameZones.{same_turned, same_via}

abbrev Resource : Type 0
Resource = Record RData

-- ---- records that are the same have one number

module _ (hashed : (a b : DomainName) → SameName a b → name_hash_input a ≡ name_hash_input b) (lowered : (a : DomainName) → SameName (lower_name a) a) where
  lower_writes : (d : RData) → data_writes (lower_data d) ≡ data_writes d
  lower_writes (rdata.A x) = refl
  lower_writes (rdata.AAAA x) = refl
  lower_writes (rdata.NS x) = hashed (lower_name x) x (lowered x)
  lower_writes (rdata.CNAME x) = hashed (lower_name x) x (lowered x)
  lower_writes (rdata.PTR x) = hashed (lower_name x) x (lowered x)
  lower_writes (rdata.MX x) = hashed (lower_name x.exchange) x.exchange (lowered x.exchange)
  lower_writes (rdata.SOA x) = refl
  lower_writes (rdata.TXT x) = refl
  lower_writes (rdata.OPT x) = refl
  lower_writes (rdata.TSIG x) = refl
  lower_writes (rdata.NULL x) = refl
  lower_writes (rdata.Update0 x) = refl
  lower_writes (rdata.Unknown x y) = refl

  same_writes : (a b : RData) → SameData a b → data_writes a ≡ data_writes b
  same_writes a b s = sym (lower_writes a) ∙ ap data_writes s ∙ lower_writes b

  pub same_digest : (a b : Resource) → SameRecord a b → digest_of a ≡ digest_of b
  same_digest a b s =
      ap (λ (ws : List (List ℕ)). sip.finish (fold sip.write sip.initial (ws ++ data_writes a.rdata))) (hashed a.name b.name s.name)
      ∙ ap (λ (ws : List (List ℕ)). sip.finish (fold sip.write sip.initial (name_hash_input b.name ++ ws))) (same_writes a.rdata b.rdata s.rdata)

  -- ---- the set finds the records that are the same as one that it has

  module _ (identity : (a b : Resource) → IsTrue (same_record a b) ↔ SameRecord a b) where
    told_by_number : (a b : Resource) (n : Bool) → same_record a b ≡ n → (nat_eq (digest_of a) (digest_of b) && n) ≡ n
    told_by_number a b true h = ap (λ (m : Bool). m && true) (eq-eqb (digest_of a) (digest_of b) (same_digest a b ((identity a b).0 h)))
    told_by_number a b false h = and_no (nat_eq (digest_of a) (digest_of b)) where
      and_no : (m : Bool) → (m && false) ≡ false
      and_no true = refl
      and_no false = refl

    same_numbered : (a b : Resource) → same_digested (digested a) (digested b) ≡ same_record a b
    same_numbered a b = told_by_number a b (same_record a b) refl

    turned : (a b : Resource) → same_record a b ≡ same_record b a
    turned a b = both_ways (same_record a b) (same_record b a) (same_turned identity a b) (same_turned identity b a)

    or_yes : (m n : Bool) → n ≡ true → (m || n) ≡ true
    or_yes true n h = refl
    or_yes false n h = h

    any_via : (a b : Resource) → same_record b a ≡ true → (kept : List Resource) → list_any (same_record a) kept ≡ true → list_any (same_record b) kept ≡ true
    any_via a b h [] k = k
    any_via a b h (x ∷ xs) k = by (same_record a x) refl (any_via a b h xs) k where
      by : (m : Bool) → same_record a x ≡ m → (list_any (same_record a) xs ≡ true → list_any (same_record b) xs ≡ true) → (m || list_any (same_record a) xs) ≡ true → (same_record b x || list_any (same_record b) xs) ≡ true
      by true e rest k = ap (λ (m : Bool). m || list_any (same_record b) xs) (same_via identity b a x h e)
      by false e rest k = or_yes (same_record b x) (list_any (same_record b) xs) (rest k)

    -- the record is met, or one more
    found : (kept : List Resource) (q r : Resource) (m b : Bool) → list_any (same_record q) kept ≡ m → same_record r q ≡ b
        → cond b true (list_any (same_record r) kept) ≡ list_any (same_record r) (cond m kept (kept ++ q ∷ []))
    found kept q r true true h s = sym (any_via q r s kept h)
    found kept q r true false h s = refl
    found kept q r false b h s = last (list_any (same_record r) kept) b ∙ ap (λ (n : Bool). list_any (same_record r) kept || (n || false)) (sym s) ∙ sym (list_any-append (same_record r) kept (q ∷ [])) where
      last : (x y : Bool) → cond y true x ≡ (x || (y || false))
      last true true = refl
      last true false = refl
      last false true = refl
      last false false = refl

    pub met_more : {S : Type 0} (kept : List Resource) (old new : HashSet (Digested Resource) S) (q : Resource) (added : Bool) → Knows kept old
        → added ≡ not (contains same_digested old (digested q))
        → ((x : Digested Resource) → contains same_digested new x ≡ cond (same_digested (digested q) x) true (contains same_digested old x))
        → (added ≡ not (list_any (same_record q) kept)) × Knows (keep_first kept q) new
    met_more kept old new q added knows told now = (
      told ∙ ap not (knows q),
      λ r. now (digested r)
          ∙ ap (λ (b : Bool). cond b true (contains same_digested old (digested r))) (same_numbered q r ∙ turned q r)
          ∙ ap (λ (x : Bool). cond (same_record r q) true x) (knows r)
          ∙ found kept q r (list_any (same_record q) kept) (same_record r q) refl refl,
    )

-- ---- no two of those that are kept are the same

module _ (identity : (a b : Resource) → IsTrue (same_record a b) ↔ SameRecord a b) where
  none_same : (q : Resource) (kept : List Resource) → list_any (same_record q) kept ≡ false → AllByRecursion (λ x. ¬ (SameRecord x q)) kept
  none_same q [] h = tt
  none_same q (x ∷ xs) h = by (same_record q x) refl (none_same q xs) h where
    by : (m : Bool) → same_record q x ≡ m → (list_any (same_record q) xs ≡ false → AllByRecursion (λ y. ¬ (SameRecord y q)) xs) → (m || list_any (same_record q) xs) ≡ false
        → (¬ (SameRecord x q)) × AllByRecursion (λ y. ¬ (SameRecord y q)) xs
    by true e rest k = absurd (cc)
    by false e rest k = (λ s. let t : same_record q x ≡ true = same_turned identity x q ((identity x q).1 s) in let f : false ≡ true = sym e ∙ t in cc, rest k)

  one_behind : (x q : Resource) (kept : List Resource) → ¬ (SameRecord x q) → AllByRecursion (λ y. ¬ (SameRecord x y)) kept → AllByRecursion (λ y. ¬ (SameRecord x y)) (kept ++ q ∷ [])
  one_behind x q [] n h = (n, tt)
  one_behind x q (y ∷ ys) n h = (h.0, one_behind x q ys n h.1)

  last_distinct : (q : Resource) (kept : List Resource) → AreDistinct kept → AllByRecursion (λ x. ¬ (SameRecord x q)) kept → AreDistinct (kept ++ q ∷ [])
  last_distinct q [] h n = (tt, tt)
  last_distinct q (x ∷ xs) h n = (one_behind x q xs n.0 h.0, last_distinct q xs h.1 n.1)

  next_distinct : (q : Resource) (kept : List Resource) (m : Bool) → list_any (same_record q) kept ≡ m → AreDistinct kept → AreDistinct (cond m kept (kept ++ q ∷ []))
  next_distinct q kept true h d = d
  next_distinct q kept false h d = last_distinct q kept d (none_same q kept h)

  kept_distinct : (kept rs : List Resource) → AreDistinct kept → AreDistinct (fold keep_first kept rs)
  kept_distinct kept [] d = d
  kept_distinct kept (r ∷ rs) d = kept_distinct (keep_first kept r) rs (next_distinct r kept (list_any (same_record r) kept) refl d)

  pub first_distinct : (rs : List Resource) → AreDistinct (first_records rs)
  first_distinct rs = kept_distinct [] rs tt

-- ---- what holds of all records holds of those that are kept

module _ (P : Resource → Type 0) where
  last_holds : (q : Resource) (kept : List Resource) → AllByRecursion P kept → P q → AllByRecursion P (kept ++ q ∷ [])
  last_holds q [] h p = (p, tt)
  last_holds q (x ∷ xs) h p = (h.0, last_holds q xs h.1 p)

  next_holds : (q : Resource) (kept : List Resource) (m : Bool) → AllByRecursion P kept → P q → AllByRecursion P (cond m kept (kept ++ q ∷ []))
  next_holds q kept true h p = h
  next_holds q kept false h p = last_holds q kept h p

  kept_hold : (kept rs : List Resource) → AllByRecursion P kept → AllByRecursion P rs → AllByRecursion P (fold keep_first kept rs)
  kept_hold kept [] h k = h
  kept_hold kept (r ∷ rs) h k = kept_hold (keep_first kept r) rs (next_holds r kept (list_any (same_record r) kept) h k.0) k.1

  pub first_hold : (rs : List Resource) → AllByRecursion P rs → AllByRecursion P (first_records rs)
  first_hold rs h = kept_hold [] rs tt h

-- ---- one record more

pub next_first : (front : List Resource) (q : Resource) → first_records (front ++ q ∷ []) ≡ keep_first (first_records front) q
next_first front q = fold-append keep_first [] front (q ∷ [])

first_is_kept : (kept : List Resource) (q : Resource) (m : Bool) → not m ≡ true → cond m kept (kept ++ q ∷ []) ≡ kept ++ q ∷ []
first_is_kept kept q true h = absurd (cc)
first_is_kept kept q false h = refl

other_is_left : (kept : List Resource) (q : Resource) (m : Bool) → not m ≡ false → cond m kept (kept ++ q ∷ []) ≡ kept
other_is_left kept q true h = refl
other_is_left kept q false h = absurd (cc)

pub kept_more : (kept : List Resource) (q : Resource) (first : Bool) → first ≡ not (list_any (same_record q) kept) → first ≡ true → keep_first kept q ≡ kept ++ q ∷ []
kept_more kept q first told is = first_is_kept kept q (list_any (same_record q) kept) (sym told ∙ is)

pub kept_as_before : (kept : List Resource) (q : Resource) (first : Bool) → first ≡ not (list_any (same_record q) kept) → first ≡ false → keep_first kept q ≡ kept
kept_as_before kept q first told is = other_is_left kept q (list_any (same_record q) kept) (sym told ∙ is)
