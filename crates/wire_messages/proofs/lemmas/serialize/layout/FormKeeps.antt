-- A record and a question stay where they are when bytes are put behind them, and when bytes below their floor change.
use Rattle.std.proofs.Common.{ℕ, ◌<◌, ◌≤◌, List, length, arith}
use Rattle.wire_names.specs.serialize.layout.Bytes.{KeepsFrom}
use Rattle.wire_messages.specs.serialize.layout.NameLayout.{LabelsAt}
use Rattle.wire_messages.specs.serialize.layout.NameLayout.LabelsAt.{at_end, at_label, at_pointer}
use Rattle.wire_messages.specs.serialize.layout.QuestionLayout.{QuestionAt}
use Rattle.wire_messages.specs.serialize.layout.RecordLayout.{OctetsAt, DataAt, FormAt}
use Rattle.wire_messages.specs.declared.op.query.Query.{Query}
use Rattle.wire_messages.specs.declared.rr.rdata.RData.{RData}
use Rattle.wire_messages.specs.declared.rr.rdata.RData.TheVariants as rdata
use Rattle.wire_messages.specs.declared.rr.record.Record.{Record}
use Rattle.wire_messages.proofs.lemmas.serialize.layout.Stable.{BytesAt-keeps, NameAt-keeps}

-- labels take at least a byte, lie in the bytes, and not below their floor
pub LabelsAt-longer : {floor : ℕ} {bytes : List ℕ} {start place next : ℕ} {labels : List (List ℕ)} → LabelsAt floor bytes start place labels next → (place < next) × (next ≤ length bytes) × (floor ≤ place)
LabelsAt-longer (at_end a s e) = (omega arith, omega (arith, s.fits), a)
LabelsAt-longer (at_label a l s e more) = let m = LabelsAt-longer more in (omega (arith, m.0), m.1, a)
LabelsAt-longer (at_pointer high low goal past a s e lt after more) = (omega arith, omega (arith, s.fits), a)

-- octets stay
pub OctetsAt-keeps : {floor lower : ℕ} {old new : List ℕ} {place next : ℕ} {octets : List ℕ} → KeepsFrom floor old new → lower ≤ floor → OctetsAt floor old place octets next → OctetsAt lower new place octets next
OctetsAt-keeps k f t = record { above = omega (arith, t.above); stands = BytesAt-keeps k t.above t.stands; after = t.after }

-- data stay, whatever their type
pub DataAt-keeps : {floor lower : ℕ} {old new : List ℕ} (place next : ℕ) → KeepsFrom floor old new → lower ≤ floor → (d : RData) → DataAt floor old place d next → DataAt lower new place d next
DataAt-keeps place next k f (rdata.A address) t = OctetsAt-keeps k f t
DataAt-keeps place next k f (rdata.AAAA address) t = OctetsAt-keeps k f t
DataAt-keeps place next k f (rdata.NS name) t = NameAt-keeps k f t
DataAt-keeps place next k f (rdata.CNAME name) t = NameAt-keeps k f t
DataAt-keeps place next k f (rdata.PTR name) t = NameAt-keeps k f t
DataAt-keeps place next k f (rdata.MX mx) t = record { middle = t.middle; preference = OctetsAt-keeps k f t.preference; exchange = NameAt-keeps k f t.exchange }
DataAt-keeps place next k f (rdata.SOA soa) t = record { one = t.one; two = t.two; mname = NameAt-keeps k f t.mname; rname = NameAt-keeps k f t.rname; numbers = OctetsAt-keeps k f t.numbers }
DataAt-keeps place next k f (rdata.TXT strings) t = OctetsAt-keeps k f t
DataAt-keeps place next k f (rdata.OPT options) t = OctetsAt-keeps k f t
DataAt-keeps place next k f (rdata.TSIG signature) t = record { middle = t.middle; algorithm = NameAt-keeps k f t.algorithm; fields = OctetsAt-keeps k f t.fields }
DataAt-keeps place next k f (rdata.NULL octets) t = OctetsAt-keeps k f t
DataAt-keeps place next k f (rdata.Update0 code) e = e
DataAt-keeps place next k f (rdata.Unknown code octets) t = OctetsAt-keeps k f t

-- a record stays
pub FormAt-keeps : {floor lower : ℕ} {old new : List ℕ} {place next : ℕ} {r : Record RData} → KeepsFrom floor old new → lower ≤ floor → FormAt floor old place r next → FormAt lower new place r next
FormAt-keeps {r = r} k f at = record {
  middle = at.middle;
  len = at.len;
  owner = NameAt-keeps k f at.owner;
  fixed = let l = LabelsAt-longer at.owner.labels in BytesAt-keeps k (omega arith) at.fixed;
  small = at.small;
  rdata = DataAt-keeps _ _ k f r.rdata at.rdata;
  counted = at.counted;
}

-- a question stays
pub QuestionAt-keeps : {floor lower : ℕ} {old new : List ℕ} {place next : ℕ} {q : Query} → KeepsFrom floor old new → lower ≤ floor → QuestionAt floor old place q next → QuestionAt lower new place q next
QuestionAt-keeps k f at = record {
  middle = at.middle;
  name = NameAt-keeps k f at.name;
  fields = let l = LabelsAt-longer at.name.labels in BytesAt-keeps k (omega arith) at.fields;
  after = at.after;
}
