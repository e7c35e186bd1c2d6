-- Lists of records, lent or owned.
use Rattle.std.specs.Prelude.{List}
use Rattle.wire_messages.specs.declared.rr.rdata.RData.{RData}
use Rattle.wire_messages.specs.declared.rr.record.Record.{Record}
use Rattle.hickory_base.specs.declared.zone_store.record_list.Kept.{Kept}
use Rattle.hickory_base.specs.declared.zone_store.record_list.Kept.TheVariants.{Lent, Owned}

-- the records, however they are kept
abbrev pub kept_records : Kept → List (Record RData)
kept_records (Lent records) = records.now
kept_records (Owned records) = records
