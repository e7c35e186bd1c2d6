-- Names that are the same may own the same records, and the names of sets those of their records.
use Rattle.std.proofs.Common.{◌≡◌, ◌∙◌, ap, sym, refl, subst, ℕ, ◌<◌, List, [], ◌∷◌, ◌++◌, length, arith}
use Rattle.std.specs.Char.{to_ascii_lowercase}
use Rattle.std.specs.List.{AllByRecursion}
use Rattle.std.specs.Map.{keys_of}
use Rattle.std.proofs.lemmas.List.{length-map}
use Rattle.std.proofs.lemmas.List.Elements.{All-from_recursion, recursion_from_All}
use Rattle.wire_names.specs.rr.domain.DomainName.{AreLabels, DomainName, IsLabel, name_len}
use Rattle.wire_names.specs.rr.domain.NameOrder.{SameName, lower_labels}
use Rattle.wire_messages.specs.rr.RecordData.{type_of}
use Rattle.wire_messages.specs.declared.rr.rdata.RData.{RData}
use Rattle.wire_messages.specs.declared.rr.record.Record.{Record}
use Rattle.wire_messages.specs.declared.rr.rr_key.RrKey.{RrKey}
use Rattle.hickory_base.specs.zone_store.ZoneSets.{IsUnder, IsZone, zone_records}
use Rattle.zone_answers.specs.Zones.{IsOwner, Sets}
use Rattle.zones.specs.Owners.{OwnersOfRecords}

abbrev pub Resource : Type 0
Resource = Record RData

abbrev pub Records : Type 0
Records = List Resource

pub both : {X : Type 0} (P : X → Type 0) (xs ys : List X) → AllByRecursion P xs → AllByRecursion P ys → AllByRecursion P (xs ++ ys)
both P [] ys h k = k
both P (x ∷ xs) ys h k = (h.0, both P xs ys h.1 k)

front_all : {X : Type 0} (P : X → Type 0) (xs ys : List X) → AllByRecursion P (xs ++ ys) → AllByRecursion P xs
front_all P [] ys h = tt
front_all P (x ∷ xs) ys h = (h.0, front_all P xs ys h.1)

back_all : {X : Type 0} (P : X → Type 0) (xs ys : List X) → AllByRecursion P (xs ++ ys) → AllByRecursion P ys
back_all P [] ys h = h
back_all P (x ∷ xs) ys h = back_all P xs ys h.1

-- ---- letter case does not count

pub lower_len : (ls : List (List ℕ)) → name_len (lower_labels ls) ≡ name_len ls
lower_len [] = refl
lower_len (l ∷ ls) = omega (arith, length-map l to_ascii_lowercase, lower_len ls)

lowered : (ls : List (List ℕ)) → AllByRecursion IsLabel ls → AllByRecursion IsLabel (lower_labels ls)
lowered [] h = tt
lowered (l ∷ ls) h = ((omega (arith, h.0.0, length-map l to_ascii_lowercase), omega (arith, h.0.1, length-map l to_ascii_lowercase)), lowered ls h.1)

raised : (ls : List (List ℕ)) → AllByRecursion IsLabel (lower_labels ls) → AllByRecursion IsLabel ls
raised [] h = tt
raised (l ∷ ls) h = ((omega (arith, h.0.0, length-map l to_ascii_lowercase), omega (arith, h.0.1, length-map l to_ascii_lowercase)), raised ls h.1)

pub same_labels : (ks ls : List (List ℕ)) → lower_labels ks ≡ lower_labels ls → AreLabels ls → AreLabels ks
same_labels ks ls e h = record {
  each = All-from_recursion IsLabel ks (raised ks (subst (AllByRecursion IsLabel) (sym e) (lowered ls (recursion_from_All IsLabel ls h.each))));
  short = omega (arith, h.short, lower_len ks, lower_len ls, ap name_len e);
}

pub same_owner : (origin a b : DomainName) (t u : ℕ) → SameName a b → IsOwner origin (record { name = b; record_type = u }) → IsOwner origin (record { name = a; record_type = t })
same_owner origin a b t u same h = record {
  qualified = same.marks ∙ h.qualified;
  labels = same_labels a.labels b.labels same.labels h.labels;
  within = record { front = h.within.front; ends = same.labels ∙ h.within.ends };
}

pub turned : (a b : DomainName) → SameName a b → SameName b a
turned a b s = record { labels = sym s.labels; marks = sym s.marks }

-- ---- the keys of a zone's sets

module _ (P : DomainName → ℕ → Type 0) (respects : (a b : DomainName) (t : ℕ) → SameName a b → P b t → P a t) where
  abbrev pub OfKey : RrKey → Type 0
  OfKey key = P key.name key.record_type

  abbrev pub OfRecord : Resource → Type 0
  OfRecord r = P r.name (type_of r.rdata)

  under_all : (key : RrKey) (rs : Records) → AllByRecursion (IsUnder key) rs → OfKey key → AllByRecursion OfRecord rs
  under_all key [] under h = tt
  under_all key (r ∷ rs) under h = (respects r.name key.name (type_of r.rdata) under.0.name (subst (P key.name) (sym under.0.record_type) h), under_all key rs under.1 h)

  key_above : (key : RrKey) (rs : Records) → 0 < length rs → AllByRecursion (IsUnder key) rs → AllByRecursion OfRecord rs → OfKey key
  key_above key [] some under h = absurd (omega (arith, some))
  key_above key (r ∷ rs) some under h = respects key.name r.name key.record_type (turned r.name key.name under.0.name) (subst (P r.name) under.0.record_type h.0)

  pub records_of_keys : (sets : Sets) → IsZone sets → AllByRecursion OfKey (keys_of sets) → AllByRecursion OfRecord (zone_records sets)
  records_of_keys [] zone h = tt
  records_of_keys (e ∷ es) zone h = both OfRecord e.1 (zone_records es) (under_all e.0 e.1 zone.0.under h.0) (records_of_keys es zone.1 h.1)

  pub keys_of_records : (sets : Sets) → IsZone sets → AllByRecursion OfRecord (zone_records sets) → AllByRecursion OfKey (keys_of sets)
  keys_of_records [] zone h = tt
  keys_of_records (e ∷ es) zone h =
      (key_above e.0 e.1 zone.0.filled zone.0.under (front_all OfRecord e.1 (zone_records es) h), keys_of_records es zone.1 (back_all OfRecord e.1 (zone_records es) h))

abbrev owner : DomainName → DomainName → ℕ → Type 0
owner origin n t = IsOwner origin (record { name = n; record_type = t })

respects_owner : (origin a b : DomainName) (t : ℕ) → SameName a b → owner origin b t → owner origin a t
respects_owner origin a b t same h = same_owner origin a b t t same h

pub owners_of_records : OwnersOfRecords
owners_of_records origin sets zone = (
  λ h. records_of_keys (owner origin) (respects_owner origin) sets zone (recursion_from_All (IsOwner origin) (keys_of sets) h),
  λ h. All-from_recursion (IsOwner origin) (keys_of sets) (keys_of_records (owner origin) (respects_owner origin) sets zone h),
)
