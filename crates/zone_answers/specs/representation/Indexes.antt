-- The sets of a zone in the order of their keys, with numbers by which they are searched.
use Rattle.std.specs.Prelude.{◌≡◌, ◌≤◌, ℕ, Bool, false, true, List, [], ◌∷◌, drop, length, slice_get, take, Some}
use Rattle.std.specs.BTreeMap.Range.{range_contains}
use Rattle.std.specs.List.{AllByRecursion, list_any}
use Rattle.std.specs.declared.ops.Bound.TheVariants.{Included, Unbounded}
use Rattle.std.specs.List.Sorted.{IsStrictlySortedBy}
use Rattle.std.specs.Map.{keys_of}
use Rattle.wire_names.specs.rr.domain.DomainName.{DomainName}
use Rattle.wire_names.specs.rr.domain.NameOrder.{Encloses, lower_labels, name_eq}
use Rattle.wire_names.specs.representation.OrderKey.{order_key, order_word}
use Rattle.wire_names.specs.serialize.layout.Bytes.{AreBytes}
use Rattle.wire_messages.specs.Numbers.{type_ns, type_soa}
use Rattle.wire_messages.specs.rr.RrKeys.{key_cmp}
use Rattle.wire_messages.specs.declared.rr.rr_key.RrKey.{RrKey}
use Rattle.hickory_base.specs.zone_store.ZoneRecords.{is_at}
use Rattle.hickory_base.specs.zone_store.ZoneSets.{has_name, shared_sets}
use Rattle.zone_answers.specs.declared.index.Before.{Before}
use Rattle.zone_answers.specs.representation.KeysBeside.{Entry}
use Rattle.zone_answers.specs.Zones.{Records, Sets, rrset}

-- Sets as a zone had them, and the name that all their owners are at or below. A mark is at the place of a name that
-- may have changed since, and at its sets. If no NS records have changed, the zone has these cuts.
pub record IndexedSets : Type 0 where
  pub apex : DomainName
  pub entries : List Entry
  pub marks : List Bool
  pub has_servers : Bool

-- The place stands behind the keys that are before this one.
pub record IsPlaceOf (first : RrKey) (entries : List Entry) (place : ℕ) : Type 0 where
  pub before : AllByRecursion (λ e. range_contains key_cmp (Included first) Unbounded e.0 ≡ false) (take place entries)
  pub behind : AllByRecursion (λ e. range_contains key_cmp (Included first) Unbounded e.0 ≡ true) (drop place entries)

-- There is no mark at the place of the key.
pub record IsUnmarked (index : IndexedSets) (first : RrKey) : Type 0 where
  pub place : ℕ
  pub is : IsPlaceOf first index.entries place
  pub within : place ≤ length index.entries
  pub unmarked : slice_get index.marks place ≡ Some false

-- The set is at the place, and no mark.
pub record IsClearAt (entries : List Entry) (marks : List Bool) (place : ℕ) (e : Entry) : Type 0 where
  pub there : slice_get entries place ≡ Some e
  pub clear : slice_get marks place ≡ Some false

-- The zone still has those of the sets that have no mark.
abbrev pub AreStill : Before → Sets → Type 0
AreStill before sets = (place : ℕ) (e : Entry) → IsClearAt before.sets.now before.marks.now place e → rrset sets e.0.name e.0.record_type ≡ Some e.1.value

-- The zone has this RRset as the index has it, or neither has one.
abbrev pub HasStill : Sets → IndexedSets → DomainName → ℕ → Type 0
HasStill sets index name t = rrset sets name t ≡ rrset (shared_sets index.entries) name t

-- It is an index of the zone of this origin, whatever it says of the owner names of these records.
pub record IsIndexBut (records : Records) (origin : DomainName) (sets : Sets) (index : IndexedSets) : Type 0 where
  pub apex : index.apex ≡ origin
  pub held : (place : ℕ) (e : Entry) → IsClearAt index.entries index.marks place e → list_any (is_at e.0.name) records ≡ false → rrset sets e.0.name e.0.record_type ≡ Some e.1.value
  pub unmarked : (name : DomainName) (t : ℕ) → list_any (is_at name) records ≡ false → IsUnmarked index (record { name = name; record_type = 0 }) → HasStill sets index name t
  pub servers : (name : DomainName) → list_any (is_at name) records ≡ false → index.has_servers ≡ true → HasStill sets index name type_ns
  pub outside : (name : DomainName) (t : ℕ) → list_any (is_at name) records ≡ false → ¬ (Encloses index.apex.labels name.labels) → HasStill sets index name t

abbrev pub IsIndexOf : DomainName → Sets → IndexedSets → Type 0
IsIndexOf origin sets index = IsIndexBut [] origin sets index

-- An update with these records may have left the zone so (RFC 2136 sections 3.4.2 and 3.6): it has the RRsets that it
-- had, except those of the records' owner names and the SOA at the apex.
abbrev pub KeepsOthers : Records → DomainName → Sets → Sets → Type 0
KeepsOthers records origin old new = (name : DomainName) (t : ℕ) → list_any (is_at name) records ≡ false → (t ≡ type_soa → name_eq name origin ≡ false) → rrset new name t ≡ rrset old name t

-- Marks are at the place and at the sets of the key's name, and where they were before.
pub record AreMarked (first : RrKey) (entries : List Entry) (place : ℕ) (old new : List Bool) : Type 0 where
  pub kept : (other : ℕ) → slice_get new other ≡ Some false → slice_get old other ≡ Some false
  pub place_too : slice_get new place ≡ Some false → ⊥
  pub own : (other : ℕ) (e : Entry) → IsClearAt entries new other e → has_name first.name e.0 ≡ false

-- At the place of the key and at the sets of its name are marks, and nothing else has changed.
pub record Marks (first : RrKey) (old new : IndexedSets) : Type 0 where
  pub place : ℕ
  pub is : IsPlaceOf first old.entries place
  pub within : place ≤ length old.entries
  pub marked : AreMarked first old.entries place old.marks new.marks
  pub new_is : new ≡ record old { marks = new.marks }

-- The number is that of the key's name, which is at the apex or below it: names with other numbers are in their order.
pub record IsWordOf (apex : DomainName) (key : RrKey) (word : ℕ) : Type 0 where
  pub top : lower_labels apex.labels ≡ apex.labels
  pub lower : lower_labels key.name.labels ≡ key.name.labels
  pub bytes : AreBytes (order_key key.name.labels)
  pub within : Encloses apex.labels key.name.labels
  pub is : word ≡ order_word apex.labels key.name.labels

-- the numbers of the keys, in their order
abbrev pub AreWordsOf : DomainName → List Entry → List ℕ → Type 0
AreWordsOf apex [] [] = Unit {0}
AreWordsOf apex (e ∷ es) (word ∷ words) = IsWordOf apex e.0 word × AreWordsOf apex es words
AreWordsOf apex es words = ⊥

-- The keys ascend, and these are their numbers.
pub record IsSearched (apex : DomainName) (entries : List Entry) (words : List ℕ) : Type 0 where
  pub ordered : IsStrictlySortedBy key_cmp (keys_of entries)
  pub numbered : AreWordsOf apex entries words
