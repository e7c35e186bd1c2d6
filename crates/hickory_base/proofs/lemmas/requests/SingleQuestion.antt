-- A single question is read as a list of one.
use Rattle.std.proofs.Common.{◌≡◌, ℕ, [], ◌∷◌, Ok, refl}
use Rattle.wire_messages.specs.declared.op.query.Query.{Query}
use Rattle.wire_messages.specs.serialize.reading.Cursor.{Cursor}
use Rattle.wire_messages.specs.serialize.reading.RecordReading.{question}
use Rattle.wire_messages.specs.serialize.reading.SectionReading.{items}

module _ (count : ℕ) (c : Cursor) (single : count ≡ 1) where
  pub single_is_read : (q : Query) (next : Cursor) → question c ≡ Ok (q, next) → items question count [] c ≡ Ok (q ∷ [], next)
  unfolding items
  single_is_read q next h = rw (single, h) refl
