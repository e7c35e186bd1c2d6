-- A text is one port at most.
use Rattle.std.proofs.Common.{◌≡◌, ◌∙◌, ◌<◌, ℕ, zero, suc, Bool, true, List, [], ◌∷◌, length, get_or, sym, ap, subst, refl, arith}
use Rattle.std.proofs.lemmas.Bool.{and_parts, eqb-true}
use Rattle.std.specs.Char.{to_ascii_lowercase}
use Rattle.std.specs.Prelude.{◌==◌, ◌&&◌, if◌then◌else◌, bytes_eq, map}
use Rattle.record_text.specs.declared.data.field.Names.TheVariants as names
use Rattle.record_text.specs.Mnemonics.{NamedNumber, services}
use Rattle.record_text.specs.RecordText.{IsNamed, SpellsPort}
use Rattle.record_text.specs.RecordText.SpellsPort.{named, numbered}

abbrev low : List ℕ → List ℕ
low text = map to_ascii_lowercase text

-- the number of the first mnemonic with these letters, or one that none has
abbrev number_in : List NamedNumber → List ℕ → ℕ
number_in [] letters = 65536
number_in (m ∷ others) letters = if bytes_eq (low m.letters) letters then m.number else number_in others letters

abbrev is_found : NamedNumber → Bool
is_found m = number_in services (low m.letters) == m.number

abbrev all_found : List NamedNumber → Bool
all_found [] = true
all_found (m ∷ others) = is_found m && all_found others

found_at : (some : List NamedNumber) → all_found some ≡ true → (k : ℕ) (m : NamedNumber) → k < length some → get_or some k m ≡ m → is_found m ≡ true
found_at [] all k m below at = absurd (omega arith)
found_at (first ∷ others) all zero m below at = subst (λ (r : NamedNumber). is_found r ≡ true) at (and_parts (is_found first) (all_found others) all).0
found_at (first ∷ others) all (suc k) m below at = found_at others (and_parts (is_found first) (all_found others) all).1 k m (omega arith) at

services_found : all_found services ≡ true
services_found = refl

by_letters : (text : List ℕ) (n : ℕ) → IsNamed names.Services text n → number_in services (low text) ≡ n
by_letters text n (k, m, below, at, is) =
    let found : is_found m ≡ true = found_at services services_found k m below at in
    ap (λ (t : List ℕ). number_in services t) (sym is.1) ∙ eqb-true (number_in services (low m.letters)) m.number found ∙ is.0

pub port_once : (text : List ℕ) (n m : ℕ) → SpellsPort text n → SpellsPort text m → n ≡ m
port_once text n m (named a) (named b) = sym (by_letters text n a) ∙ by_letters text m b
port_once text n m (named a) (numbered none b small) = absurd (none n a)
port_once text n m (numbered none a small) (named b) = absurd (none m b)
port_once text n m (numbered none a small) (numbered none' b small') = sym a.value ∙ b.value
