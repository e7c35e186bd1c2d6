-- The NSEC3 records of a signed zone (RFC 5155 section 7.1).
use Rattle.std.specs.Prelude.{◌≡◌, ◌∷◌, ◌++◌, ℕ, List, []}
use Rattle.std.specs.List.{AllByRecursion, Contains}
use Rattle.wire_names.specs.rr.domain.DomainName.{DomainName}
use Rattle.zone_denials.specs.Nsec3.{Hashing, IsBelow, Nsec3, hash_of}

-- the hash of the first of these records, or else this one
abbrev pub next_hash : List ℕ → List Nsec3 → List ℕ
next_hash first [] = first
next_hash first (n ∷ ns) = n.hash

-- Each record has the hash of the one after it, and the last one this.
abbrev pub AreLinked3 : List ℕ → List Nsec3 → Type 0
AreLinked3 first [] = Unit {0}
AreLinked3 first (n ∷ ns) = (n.next ≡ next_hash first ns) × AreLinked3 first ns

-- Each hash is before those after it.
abbrev pub AreAscending3 : List Nsec3 → Type 0
AreAscending3 [] = Unit {0}
AreAscending3 (n ∷ ns) = AllByRecursion (λ m. IsBelow n.hash m.hash) ns × AreAscending3 ns

-- The records are a chain: in the order of their hashes, each with the next one, and the last with the first again.
pub record IsChain3 (chain : List Nsec3) : Type 0 where
  pub ascending : AreAscending3 chain
  pub linked : AreLinked3 (next_hash [] chain) chain

-- A record of the chain has the hash of the name.
pub record IsHashed (by : Hashing) (chain : List Nsec3) (name : DomainName) : Type 0 where
  pub at : Nsec3
  pub held : Contains chain at
  pub is : at.hash ≡ hash_of by name

-- The record is the last one before a hash, or the last one of all if none is before it.
pub data IsLastBelow (chain : List Nsec3) (hash : List ℕ) (n : Nsec3) : Type 0 where
  below : (front rest : List Nsec3) → chain ≡ front ++ n ∷ rest → IsBelow n.hash hash → AllByRecursion (λ m. ¬ (IsBelow m.hash hash)) rest → IsLastBelow chain hash n
  around : (front : List Nsec3) → chain ≡ front ++ n ∷ [] → AllByRecursion (λ m. ¬ (IsBelow m.hash hash)) chain → IsLastBelow chain hash n
