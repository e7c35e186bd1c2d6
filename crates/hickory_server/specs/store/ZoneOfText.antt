-- The zone of a zone file, or why there is none (RFC 1035 section 5).
use Rattle.std.specs.Prelude.{All, List}
use Rattle.wire_names.specs.rr.domain.DomainName.{DomainName}
use Rattle.wire_messages.specs.declared.rr.rdata.RData.{RData}
use Rattle.wire_messages.specs.declared.rr.record.Record.{Record}
use Rattle.hickory_base.specs.zone_store.ZoneAnswers.{MemoryZone}
use Rattle.hickory_base.specs.declared.zone_store.handler.AxfrPolicy.{AxfrPolicy}
use Rattle.hickory_base.specs.declared.zone_store.handler.ZoneType.{ZoneType}
use Rattle.hickory_store.specs.file.RecordZones.{IsRecordsFault, IsZoneOf}
use Rattle.hickory_store.specs.declared.file.zones.RecordsError.{RecordsError}
use Rattle.hickory_store.specs.declared.file.zones.RecordsError.TheVariants as records_error
use Rattle.zone_text.specs.ZoneFiles.{IsZoneRecord}
use Rattle.zone_text.specs.declared.error.ZoneFileError.{ZoneFileError}
use Rattle.zone_text.specs.declared.error.ZoneFileError.TheVariants as text_error
use Rattle.hickory_server.specs.declared.store.file.ZoneError.{ZoneError}
use Rattle.hickory_server.specs.declared.store.file.ZoneError.TheVariants.{Memory, Records, Text}

-- It is the zone of records of zones.
abbrev pub IsZoneOfText : DomainName → ZoneType → AxfrPolicy → MemoryZone → Type 0
IsZoneOfText apex zone_type axfr_policy zone = (records : List (Record RData)) × All IsZoneRecord records × IsZoneOf apex zone_type axfr_policy records zone

-- the fault of a text that cannot be read
abbrev pub error_of_text : ZoneFileError → ZoneError
error_of_text text_error.Memory = Memory
error_of_text other = Text other

-- the fault of a text whose records make no zone
abbrev pub error_of_records : RecordsError → ZoneError
error_of_records records_error.Memory = Memory
error_of_records other = Records other

-- Where the records are told to make no zone, they are records of zones, and make none for this reason.
abbrev pub IsTextFault : DomainName → ZoneError → Type 0
IsTextFault apex (Records e) = (records : List (Record RData)) × All IsZoneRecord records × IsRecordsFault apex records e
IsTextFault apex other = Unit {0}
