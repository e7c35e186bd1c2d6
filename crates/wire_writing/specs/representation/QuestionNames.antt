-- Names in the bytes of questions that are repeated.
use Rattle.std.specs.Prelude.{◌≡◌, ℕ, ◌+◌, List, [], ◌∷◌, length}
use Rattle.wire_names.specs.rr.domain.DomainName.{AreLabels, wire_form}
use Rattle.wire_names.specs.serialize.layout.Bytes.{BytesAt}
use Rattle.wire_messages.specs.serialize.writing.FullForm.{name_octets}
use Rattle.wire_writing.specs.representation.Noted.{Notes}

-- So many labels, in this wire form, stand in full at the front, and their end byte behind them (RFC 1035 section 3.1).
pub record StandsInFull (bytes wire : List ℕ) (count : ℕ) : Type 0 where
  pub labels : List (List ℕ)
  pub are : AreLabels labels
  pub stands : BytesAt bytes 0 (name_octets labels)
  pub is : wire ≡ wire_form labels
  pub counted : count ≡ length labels

-- the ends of a name that stands in full from a place on, the whole name first, each with the place where it begins
abbrev pub ends_from : ℕ → List (List ℕ) → Notes
ends_from place [] = []
ends_from place (l ∷ ls) = (wire_form (l ∷ ls), place) ∷ ends_from (place + (1 + length l)) ls
