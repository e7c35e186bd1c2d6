-- Records of which each counts once (RFC 2181 section 5).
use Rattle.std.specs.Prelude.{◌≡◌, ◌&&◌, Bool, nat_eq, cond, List, [], ◌∷◌, ◌++◌, fold}
use Rattle.std.specs.HashSet.{HashSet, contains}
use Rattle.std.specs.List.{list_any}
use Rattle.wire_messages.specs.declared.rr.rdata.RData.{RData}
use Rattle.wire_messages.specs.declared.rr.record.Record.{Record}
use Rattle.hickory_store.specs.representation.Digests.{digest_of}
use Rattle.hickory_store.specs.updates.Identity.{same_record}
use Rattle.hickory_store.specs.declared.file.digests.Digested.{Digested}

-- the records with one more, unless the same is among them
abbrev pub keep_first : List (Record RData) → Record RData → List (Record RData)
keep_first kept r = cond (list_any (same_record r) kept) kept (kept ++ r ∷ [])

-- the records in their order, of those that are the same the first
abbrev pub first_records : List (Record RData) → List (Record RData)
first_records records = fold keep_first [] records

-- the record beside its number
abbrev pub digested : Record RData → Digested (Record RData)
digested r = record { digest = digest_of r; value = r }

-- the same number and the same record
abbrev pub same_digested : Digested (Record RData) → Digested (Record RData) → Bool
same_digested x y = nat_eq x.digest y.digest && same_record x.value y.value

-- The set has, by their numbers, the records that are the same as one of these.
abbrev pub Knows : {S : Type 0} → List (Record RData) → HashSet (Digested (Record RData)) S → Type 0
Knows kept met = (r : Record RData) → contains same_digested met (digested r) ≡ list_any (same_record r) kept
