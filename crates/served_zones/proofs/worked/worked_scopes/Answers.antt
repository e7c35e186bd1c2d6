use Rattle.std.proofs.Common.{◌≡◌, ◌<◌, ℕ, List, [], ap, arith, get_or, refl, rules}
use Rattle.update_policy.specs.RuleTexts.{below, one, own, unnamed, zone}
use Rattle.served_zones.proofs.worked.worked_scopes.Goals as goal

-- the first byte of the first word
abbrev first_byte : List (List ℕ) → ℕ
first_byte words = get_or (get_or words 0 []) 0 0

below_is_other : (a b : ℕ) → a < b → a ≡ b → ⊥
below_is_other a b less same = omega arith

pub returns-clause-own : goal.returns-clause-own
returns-clause-own c = own refl refl

pub returns-clause-only_own : goal.returns-clause-only_own
returns-clause-only_own c types is =
    elim is [
      | zone words _ ↦ below_is_other 115 122 (omega arith) (ap first_byte words)
      | own _ scope ↦ absurd cc
      | below _ _ scope ↦ absurd cc
      | one _ _ scope ↦ absurd cc
      | unnamed none _ _ ↦ none (1, omega arith, refl)
    ]

pub returns-clause-whole : goal.returns-clause-whole
returns-clause-whole c = unnamed (λ is. absurd (search rules)) refl refl
