-- The record that is written of its parts, where something else stands for it.
use Rattle.wire_messages.specs.declared.rr.rdata.RData.{RData}
use Rattle.wire_messages.specs.declared.rr.rdata.RData.TheVariants as rdata
use Rattle.wire_messages.specs.declared.rr.record.Proof.{Proof}
use Rattle.wire_messages.specs.declared.rr.record.Record.{Record}
use Rattle.wire_writing.specs.declared.serialize.writing.data_encoder.Data.{Data}
use Rattle.wire_writing.specs.declared.serialize.writing.data_encoder.Data.TheVariants as written
use Rattle.wire_writing.specs.declared.serialize.writing.record_encoder.Parts.{Parts}

-- the data of the record
abbrev pub rdata_of : Data → RData
rdata_of (written.Options options) = rdata.OPT options.now
rdata_of (written.Signature signature) = rdata.TSIG signature.now

-- the record, of which nothing is written of its proof
abbrev pub record_of : Parts → Proof → Record RData
record_of parts proof = record { name = parts.name.now; dns_class = parts.dns_class; ttl = parts.ttl; rdata = rdata_of parts.data; proof = proof }
