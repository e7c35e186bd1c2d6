-- The NSEC records of a signed zone (RFC 4034 section 4, RFC 4035 section 2.3).
use Rattle.std.specs.Prelude.{◌≡◌, ◌∷◌, ◌++◌, ℕ, List, [], true}
use Rattle.std.specs.List.{All, AllByRecursion, Contains}
use Rattle.wire_names.specs.rr.domain.DomainName.{DomainName}
use Rattle.wire_names.specs.rr.domain.NameOrder.{Encloses, SameName}
use Rattle.zone_denials.specs.Nsec.{IsBefore, Nsec, IsOpen}

-- the owner of the first of these records, or else the apex
abbrev pub next_owner : DomainName → List Nsec → DomainName
next_owner apex [] = apex
next_owner apex (n ∷ ns) = n.owner

-- Each record names the owner of the one after it, and the last one the apex.
abbrev pub AreLinked : DomainName → List Nsec → Type 0
AreLinked apex [] = Unit {0}
AreLinked apex (n ∷ ns) = SameName n.next (next_owner apex ns) × AreLinked apex ns

-- Each owner is before those after it.
abbrev pub AreAscending : List Nsec → Type 0
AreAscending [] = Unit {0}
AreAscending (n ∷ ns) = AllByRecursion (λ m. IsBefore n.owner m.owner) ns × AreAscending ns

-- The records are a chain: from the apex on in canonical order of their owners, each with the next one, and the last
-- with the apex again.
pub record IsChain (apex : DomainName) (chain : List Nsec) : Type 0 where
  pub qualified : All (λ n. n.owner.is_fqdn ≡ true) chain
  pub ascending : AreAscending chain
  pub linked : AreLinked apex chain
  pub top : SameName (next_owner apex chain) apex

-- The labels are those of an owner or of a name above one.
pub record IsNamed (chain : List Nsec) (labels : List (List ℕ)) : Type 0 where
  pub at : Nsec
  pub held : Contains chain at
  pub at_or_below : Encloses labels at.owner.labels

-- No record of the chain at the name or above it is at a cut or a DNAME: the zone itself answers for the name.
abbrev pub AreOpenAbove : List Nsec → DomainName → Type 0
AreOpenAbove chain name = (m : Nsec) → Contains chain m → Encloses m.owner.labels name.labels → IsOpen m

-- The record is the last one whose owner is before the name.
pub record IsLastBefore (chain : List Nsec) (name : DomainName) (n : Nsec) : Type 0 where
  pub front : List Nsec
  pub rest : List Nsec
  pub is : chain ≡ front ++ n ∷ rest
  pub before : IsBefore n.owner name
  pub after : AllByRecursion (λ m. ¬ (IsBefore m.owner name)) rest
