-- What writing by notes of names leaves: data and records that stand behind any bytes of that length in which the notes
-- hold (RFC 1035 sections 4.1.3 and 4.1.4).
use Rattle.std.specs.Prelude.{◌≡◌, ℕ, ◌≤◌, List, ◌++◌, length}
use Rattle.wire_names.specs.rr.domain.DomainName.{wire_form}
use Rattle.wire_messages.specs.serialize.layout.FieldRanges.{IsRecordInRange}
use Rattle.wire_messages.specs.serialize.layout.RecordLayout.{DataAt, FormAt}
use Rattle.wire_messages.specs.serialize.writing.FullForm.{EndsInFull}
use Rattle.wire_writing.specs.representation.Noted.{Notes, AreNotes, KeepsNotes, Compresses}
use Rattle.wire_messages.specs.serialize.writing.RecordSize.{data_len, full_size}
use Rattle.wire_messages.specs.declared.rr.rdata.RData.{RData}
use Rattle.wire_messages.specs.declared.rr.record.Record.{Record}

-- Data are put behind old, in at most their length in full.
pub record WritesData (old new : List ℕ) (notes notes' : Notes) (d : RData) : Type 0 where
  pub more : List ℕ
  pub is : new ≡ old ++ more
  pub short : length more ≤ data_len d
  pub in_full : EndsInFull d more
  pub adds : KeepsNotes notes notes'
  pub stand : (base : List ℕ) → length base ≡ length old → AreNotes base (length old) notes →
      DataAt 12 (base ++ more) (length old) d (length new) × AreNotes (base ++ more) (length new) notes'

-- A record is put behind old, in at most its size in full.
pub record WritesRecord (old new : List ℕ) (notes notes' : Notes) (r : Record RData) : Type 0 where
  pub more : List ℕ
  pub is : new ≡ old ++ more
  pub short : length more ≤ full_size r
  pub in_full : EndsInFull r.rdata more
  pub in_range : IsRecordInRange r
  pub adds : KeepsNotes notes notes'
  pub stand : AreNotes old (length old) notes → FormAt 12 new (length old) r (length new) × AreNotes new (length new) notes'
  pub compresses : Compresses old new notes notes' (wire_form r.name.labels)
