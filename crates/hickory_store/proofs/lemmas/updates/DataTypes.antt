-- Data that are the same are of one type.
use Rattle.std.proofs.Common.{◌∙◌, sym, ap}
use Rattle.std.specs.Prelude.{◌↔◌, IsTrue}
use Rattle.wire_messages.specs.rr.RecordData.{type_of}
use Rattle.wire_messages.specs.rr.RecordSameness.{SameData}
use Rattle.wire_messages.specs.declared.rr.rdata.RData.{RData}
use Rattle.hickory_store.specs.updates.Identity.{same_data}
use Rattle.hickory_store.proofs.lemmas.updates.ApexNs.{OfOneType}
use Rattle.hickory_store.proofs.lemmas.updates.RecordByRecord.{type-lower}

pub one_type : ((a b : RData) → IsTrue (same_data a b) ↔ SameData a b) → OfOneType
one_type same d e h = sym (type-lower d) ∙ ap type_of ((same d e).0 h) ∙ type-lower e
