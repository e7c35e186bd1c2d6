-- A text without inclusions has the same records with files as without.
use Rattle.std.proofs.Common.{ℕ, List}
use Rattle.wire_messages.specs.declared.rr.rdata.RData.{RData}
use Rattle.wire_messages.specs.declared.rr.record.Record.{Record}
use Rattle.wire_names.specs.rr.domain.DomainName.{DomainName}
use Rattle.zone_text.specs.declared.zone_file.entry.Before.{Before}
use Rattle.zone_text.specs.Included.{AreIncluded, IsZoneWithFiles}
use Rattle.zone_text.specs.Included.AreIncluded.{none as none_included, more as more_included}
use Rattle.zone_text.specs.ZoneFiles.{AreEntries, IsZoneFile, first_entry, start_of}
use Rattle.zone_text.specs.ZoneFiles.AreEntries.{none, more}

pub without_files : (opened : List ℕ → List ℕ → Type 0) (levels : ℕ) (text : List ℕ) (first : ℕ) (start : Before) (place : ℕ) (before : Before) → AreEntries text first start place before → AreIncluded opened levels text first start place before
without_files opened levels text first start place before none = none_included
without_files opened levels text first start place before (more {place = middle} {before = earlier} entries within entry) = more_included (without_files opened levels text first start middle earlier entries) within entry

pub zone_without_files : (opened : List ℕ → List ℕ → Type 0) (origin : DomainName) (text : List ℕ) (records : List (Record RData)) → IsZoneFile origin text records → IsZoneWithFiles opened origin text records
zone_without_files opened origin text records is = record {
  end = is.end;
  last = is.last;
  entries = without_files opened 10 text (first_entry text) (start_of origin) is.end is.last is.entries;
  whole = is.whole;
  left = is.left;
}
