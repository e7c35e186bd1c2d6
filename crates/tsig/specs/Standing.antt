-- How the TSIG record stands in a message: as the last record of its additional section, and nowhere else (RFC 8945
-- section 5.1).
use Rattle.std.specs.Prelude.{◌≡◌, ◌<◌, ℕ, ◌+◌, List, false, length}
use Rattle.wire_messages.specs.serialize.layout.HeaderLayout.{HeaderAt}
use Rattle.wire_messages.specs.serialize.layout.MessageLayout.{ItemsAt, QuestionRead, is_tsig, tsig_record}
use Rattle.wire_messages.specs.serialize.layout.RecordLayout.{RecordAt}
use Rattle.wire_messages.specs.declared.op.header.Header.{Header}
use Rattle.wire_messages.specs.declared.op.header.HeaderCounts.{HeaderCounts}
use Rattle.wire_messages.specs.declared.op.query.Query.{Query}
use Rattle.wire_messages.specs.declared.rr.rdata.RData.{RData}
use Rattle.wire_messages.specs.declared.rr.record.Record.{Record}
use Rattle.wire_messages.specs.declared.rr.tsig.TSIG.{TSIG}

-- A record that is no TSIG stands at place.
pub record OtherAt (bytes : List ℕ) (place : ℕ) (r : Record RData) (next : ℕ) : Type 0 where
  pub stands : RecordAt bytes place r next
  pub other : is_tsig r ≡ false

-- The header has these counts, and the records begin at place, behind the questions.
pub record RecordsBegin (bytes : List ℕ) (counts : HeaderCounts) (place : ℕ) : Type 0 where
  pub header : Header
  pub stands : HeaderAt bytes header
  pub counted : header.counts ≡ counts
  pub queries : List Query
  pub questions : ItemsAt (QuestionRead bytes) 12 queries place
  pub query_count : length queries ≡ counts.queries

-- The bytes begin with a message whose records of all three sections stand one behind the other, and none is a TSIG. It
-- ends at stop.
pub record UnsignedAt (bytes : List ℕ) (stop : ℕ) : Type 0 where
  pub counts : HeaderCounts
  pub records_at : ℕ
  pub records : List (Record RData)
  pub begin : RecordsBegin bytes counts records_at
  pub stand : ItemsAt (OtherAt bytes) records_at records stop
  pub number : length records ≡ counts.answers + counts.authorities + counts.additionals

-- The bytes begin with a message whose last record, the last of so many additional ones, is a TSIG. It stands from
-- place to stop, where the message ends; none of the records before it is a TSIG.
pub record SignedAt (bytes : List ℕ) (additionals place : ℕ) (signature : Record TSIG) (stop : ℕ) : Type 0 where
  pub counts : HeaderCounts
  pub records_at : ℕ
  pub records : List (Record RData)
  pub begin : RecordsBegin bytes counts records_at
  pub last : counts.additionals ≡ additionals
  pub some : 0 < additionals
  pub stand : ItemsAt (OtherAt bytes) records_at records place
  pub number : length records + 1 ≡ counts.answers + counts.authorities + additionals
  pub stands : RecordAt bytes place (tsig_record signature) stop
