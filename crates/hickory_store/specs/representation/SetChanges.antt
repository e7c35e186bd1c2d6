-- What changes of a zone's sets make of its map, read as a function of its keys.
use Rattle.std.specs.Prelude.{◌≡◌, ℕ, Bool, false, cond, ◌||◌, List, [], ◌∷◌, map, Option, Some, None, IsSome, is_some}
use Rattle.std.specs.List.{list_any}
use Rattle.std.specs.Map.{lookup, remove_entry}
use Rattle.std.specs.Option.{option_or}
use Rattle.std.specs.BTreeMap.{BTreeMap, get}
use Rattle.std.specs.Borrow.{Bor}
use Rattle.std.specs.Ordering.{is_eq}
use Rattle.std.specs.declared.alloc.Global.{Global}
use Rattle.std.specs.declared.rc.Rc.{Rc}
use Rattle.wire_names.specs.rr.domain.DomainName.{DomainName}
use Rattle.wire_messages.specs.declared.rr.rdata.RData.{RData}
use Rattle.wire_messages.specs.declared.rr.record.Record.{Record}
use Rattle.hickory_base.specs.zone_store.ZoneRecords.{existing, rrset}
use Rattle.hickory_base.specs.zone_store.ZoneSets.{is_key}
use Rattle.wire_messages.specs.rr.RrKeys.{key_cmp}
use Rattle.wire_messages.specs.declared.rr.rr_key.RrKey.{RrKey}
use Rattle.hickory_base.specs.declared.zone_store.record_set.RecordSet.{RecordSet}
use Rattle.hickory_store.specs.declared.updates.set_changes.Put.{Put}

abbrev pub SharedSet : Type 0
SharedSet = Rc RecordSet Global

abbrev pub SharedSets : Type 0
SharedSets = BTreeMap RrKey SharedSet

-- the keys are equal
abbrev pub equals : RrKey → RrKey → Bool
equals key other = is_eq (key_cmp key other)

-- what stands under a key
abbrev pub at : SharedSets → RrKey → Option SharedSet
at sets key = get key_cmp sets key

-- the sets are put under their keys, one after another
abbrev pub put_all : List Put → (RrKey → Option SharedSet) → RrKey → Option SharedSet
put_all [] under key = under key
put_all (put ∷ puts) under key = put_all puts (λ k. cond (equals put.key k) (Some put.set) (under k)) key

-- what stands under the keys is taken out, one after another
abbrev pub take_all : List RrKey → (RrKey → Option SharedSet) → RrKey → Option SharedSet
take_all [] under key = under key
take_all (gone ∷ keys) under key = take_all keys (λ k. cond (equals gone k) None (under k)) key

-- a set is put under the key
abbrev pub is_put : List Put → RrKey → Bool
is_put [] key = false
is_put (put ∷ puts) key = equals put.key key || is_put puts key

-- something stands under each key that a set is put under
abbrev pub AllPresent : List Put → SharedSets → Type 0
AllPresent [] sets = Unit {0}
AllPresent (put ∷ puts) sets = IsSome (at sets put.key) × AllPresent puts sets

-- where something stood, something stands
abbrev pub KeepsKeys : SharedSets → SharedSets → Type 0
KeepsKeys old new = (key : RrKey) → IsSome (at old key) → IsSome (at new key)

-- without the keys, which are taken out from the last to the first
abbrev pub undone : List (Bor RrKey) → List (RrKey × SharedSet) → List (RrKey × SharedSet)
undone [] entries = entries
undone (key ∷ keys) entries = remove_entry (equals key.now) (undone keys entries)

-- a set stands under the key
abbrev pub has_key : SharedSets → RrKey → Bool
has_key sets key = is_some (at sets key)

-- the sets that are put, as a zone holds sets
abbrev pub put_sets : List Put → List (RrKey × List (Record RData))
put_sets puts = map (λ put. (put.key, put.set.value)) puts

-- one of the keys has this name and type
abbrev pub is_among : DomainName → ℕ → List RrKey → Bool
is_among name record_type keys = list_any (is_key name record_type) keys

-- what stands under a name and type once the sets are put and the keys that are gone are taken out
abbrev pub changed : List (RrKey × List (Record RData)) → List RrKey → List (RrKey × List (Record RData)) → DomainName → ℕ → Option (List (Record RData))
changed puts gone sets name record_type =
    cond (is_among name record_type gone) None (option_or (lookup (is_key name record_type) puts) (lookup (is_key name record_type) sets))

-- These changes make the sets hold these records.
abbrev pub Makes : List (RrKey × List (Record RData)) → List RrKey → List (RrKey × List (Record RData)) → List (Record RData) → Type 0
Makes puts gone sets records = (name : DomainName) (record_type : ℕ) → changed puts gone sets name record_type ≡ existing (rrset records name record_type)
