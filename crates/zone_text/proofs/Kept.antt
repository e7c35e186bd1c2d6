-- What the entries of a zone file leave are records of zones.
use Rattle.std.proofs.Common.{Bool, List, All}
use Rattle.std.proofs.lemmas.List.Elements.{All-append, All-push}
use Rattle.wire_messages.specs.declared.rr.rdata.RData.{RData}
use Rattle.wire_messages.specs.declared.rr.record.Record.{Record}
use Rattle.text_words.specs.declared.words.Word.{Word}
use Rattle.zone_text.specs.declared.zone_file.entry.Before.{Before}
use Rattle.zone_text.specs.declared.zone_file.entry.Entry.{Entry}
use Rattle.zone_text.specs.ZoneFiles.{IsEntry, IsRecordEntry, IsZoneRecord, after}
use Rattle.zone_text.specs.ZoneFiles.IsEntry.{blank, origin_of, default_ttl_of, generated_of, record_of}
use Rattle.zone_text.specs.ZoneFiles.IsRecordEntry.{repeated, named}
use Rattle.zone_text.proofs.GenerateOnce.{all_kept}

kept_record : (before : Before) (begins_blank : Bool) (words : List Word) (r : Record RData) → IsRecordEntry before begins_blank words r → IsZoneRecord r
kept_record before begins_blank words r (repeated owner behind) = behind.is.kept
kept_record before begins_blank words r (named plain owner behind) = behind.is.kept

pub kept_after : (before : Before) (begins_blank : Bool) (words : List Word) (e : Entry) → All IsZoneRecord before.records → IsEntry before begins_blank words e → All IsZoneRecord (after before e).records
kept_after before begins_blank words e all blank = all
kept_after before begins_blank words e all (origin_of k name) = all
kept_after before begins_blank words e all (default_ttl_of k ttl) = all
kept_after before begins_blank words e all (generated_of {records = rs} k is) = All-append IsZoneRecord before.records rs all (all_kept before is.lhs is.own is.type is.rhs is.range is.count rs is.each)
kept_after before begins_blank words e all (record_of {r = r} h) = All-push IsZoneRecord before.records r all (kept_record before begins_blank words r h)
