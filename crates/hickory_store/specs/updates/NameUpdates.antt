-- Updates name by name: each record of an update section concerns the records of its own owner name alone (RFC 2136
-- section 3.4.2).
use Rattle.std.specs.Prelude.{◌≡◌, Bool, cond, List, filter, Option, Some, None}
use Rattle.std.specs.BTreeMap.{BTreeMap, get}
use Rattle.wire_names.specs.rr.domain.DomainName.{DomainName}
use Rattle.wire_names.specs.rr.domain.NameOrder.{name_cmp, name_eq}
use Rattle.wire_messages.specs.declared.rr.rdata.RData.{RData}
use Rattle.wire_messages.specs.declared.rr.record.Record.{Record}
use Rattle.hickory_base.specs.zone_store.ZoneRecords.{is_at}
use Rattle.hickory_store.specs.updates.Changes.{after_updates}

-- the records of one name
abbrev pub of_name : DomainName → List (Record RData) → List (Record RData)
of_name name records = filter (is_at name) records

-- What the updates leave of a name is what those of this name make of its records.
abbrev pub UpdatesNameByName : Type 0
UpdatesNameByName =
    (by_rfc : Bool) (origin name : DomainName) (updates zone : List (Record RData))
    → of_name name (after_updates by_rfc origin zone updates) ≡ after_updates by_rfc origin (of_name name zone) (of_name name updates)

-- Records by owner name: of each name that is touched, all there are of it by now.
abbrev pub ByName : Type 0
ByName = BTreeMap DomainName (List (Record RData))

abbrev pub records_or : Option (List (Record RData)) → List (Record RData) → List (Record RData)
records_or None records = records
records_or (Some touched) records = touched

-- the records of a name: those of the touched name, or the zone's
abbrev pub records_now : List (Record RData) → ByName → DomainName → List (Record RData)
records_now zone touched name = records_or (get name_cmp touched name) (of_name name zone)

-- The touched names, and of all others what the zone has, make these records.
abbrev pub AreNow : List (Record RData) → ByName → List (Record RData) → Type 0
AreNow zone touched records = (name : DomainName) → records_now zone touched name ≡ of_name name records

-- What stands at the name is replaced.
abbrev pub PutsName : DomainName → Option (List (Record RData)) → ByName → ByName → Type 0
PutsName name records old new = (other : DomainName) → get name_cmp new other ≡ cond (name_eq name other) records (get name_cmp old other)
