-- A message without the TSIG record that was found in it.
use Rattle.std.proofs.Common.{◌≡◌, ℕ, List, Some, None, Ok, Err, refl}
use Rattle.wire_names.specs.serialize.layout.Bytes.{AreBytes}
use Rattle.wire_names.specs.declared.error.DecodeError.{DecodeError}
use Rattle.wire_reading.specs.serialize.reading.MessageReading.{front_of}
use Rattle.tsig.specs.Reading.{signature_of}
use Rattle.tsig.specs.Stripping.{IsStripped, signed, other, without_last}
use Rattle.tsig.specs.declared.reading.PlacedSignature.{PlacedSignature}
use Rattle.tsig.proofs.Signatures.{signature_found, signed_found}

pub stripped_signed : (bytes : List ℕ) (p : PlacedSignature) → AreBytes bytes → signature_of (front_of bytes) ≡ Ok (Some p) → IsStripped bytes (without_last bytes p.additionals p.place)
stripped_signed bytes p a e = let u = signature_found bytes (Some p) a e in signed p.additionals p.place u.0 p.signature u.1 refl

pub stripped_none : (bytes : List ℕ) → AreBytes bytes → signature_of (front_of bytes) ≡ Ok None → IsStripped bytes bytes
stripped_none bytes a e = other (λ n place stop s at. let f = signed_found bytes n place s stop a at in absurd cc) refl

pub stripped_fault : (bytes : List ℕ) (d : DecodeError) → AreBytes bytes → signature_of (front_of bytes) ≡ Err d → IsStripped bytes bytes
stripped_fault bytes d a e = other (λ n place stop s at. let f = signed_found bytes n place s stop a at in absurd cc) refl
