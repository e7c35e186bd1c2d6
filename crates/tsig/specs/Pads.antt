-- What is kept of a key for its HMACs: hashers behind its pads, as RFC 2104 section 4 has it.
use Rattle.std.specs.Prelude.{ℕ, List}
use Rattle.sha1.specs.Sha1.{Holds}
use Rattle.sha2.specs.Hashers.{Holds256, Holds384, Holds512}
use Rattle.tsig.specs.Hmac.{block_key, flipped}
use Rattle.tsig.specs.declared.algorithm.HashFunction.{HashFunction}
use Rattle.tsig.specs.declared.algorithm.HashFunction.TheVariants.{Sha1, Sha256, Sha384, Sha512}
use Rattle.tsig.specs.declared.pads.Pads.{Pads}
use Rattle.tsig.specs.declared.pads.Pads.TheVariants.{By1, By256, By384, By512}

abbrev pub function_of : Pads → HashFunction
function_of (By1 inner outer) = Sha1
function_of (By256 inner outer) = Sha256
function_of (By384 inner outer) = Sha384
function_of (By512 inner outer) = Sha512

-- The hashers hold these texts.
abbrev pub Hold : Pads → List ℕ → List ℕ → Type 0
Hold (By1 inner outer) first second = Holds inner first × Holds outer second
Hold (By256 inner outer) first second = Holds256 inner first × Holds256 outer second
Hold (By384 inner outer) first second = Holds384 inner first × Holds384 outer second
Hold (By512 inner outer) first second = Holds512 inner first × Holds512 outer second

-- They hold the inner pad, K XOR ipad, and the outer one, K XOR opad, of the key (RFC 2104 section 2).
abbrev pub ArePads : List ℕ → Pads → Type 0
ArePads key pads = Hold pads (flipped 0x36 (block_key (function_of pads) key)) (flipped 0x5c (block_key (function_of pads) key))
