-- What the field of a relay is.
use Rattle.std.proofs.Common.{◌≡◌, ◌∙◌, ℕ, Some, ap}
use Rattle.record_text.specs.declared.data.field.Field.{Field}
use Rattle.record_text.specs.RecordText.{relay_field}

pub relay_told : (n m : ℕ) (f g : Field) → n ≡ m → relay_field n ≡ Some f → relay_field m ≡ Some g → f ≡ g
relay_told n m f g same one two =
    let moved : relay_field n ≡ Some g = ap relay_field same ∙ two in
    cc
