-- The text of a rule, `KEY [zone|subdomain NAME|name NAME|self] [TYPE..]`: the name of a key, a scope, and types.
use Rattle.std.specs.Prelude.{◌≡◌, ◌<◌, ◌++◌, ℕ, Contains, List, [], ◌∷◌, codes, length, true}
use Rattle.std.specs.Char.{is_not_whitespace, is_whitespace}
use Rattle.std.specs.List.{AllZip}
use Rattle.std.specs.Str.{EmptyOrStartsWithPassing, NoCharPasses}
use Rattle.record_text.specs.RecordText.{SpellsType}
use Rattle.wire_names.specs.rr.domain.DomainName.{DomainName}
use Rattle.wire_names.specs.rr.domain.NameText.{IsNameText}
use Rattle.update_policy.specs.declared.policy.Rule.{Rule}
use Rattle.update_policy.specs.declared.policy.Scope.{Scope}
use Rattle.update_policy.specs.declared.policy.Scope.TheVariants.{Zone, Subdomain, OneName, OwnName}

-- The word spells the name, which is fully qualified, with or without a dot at its end.
abbrev pub IsNameWord : List ℕ → DomainName → Type 0
IsNameWord word name = (named : DomainName) × IsNameText word named × (name ≡ record named { is_fqdn = true })

-- The word names a scope.
abbrev pub IsScopeWord : List ℕ → Type 0
IsScopeWord word = Contains (codes "zone" ∷ codes "self" ∷ codes "subdomain" ∷ codes "name" ∷ []) word

-- The first word names a scope.
abbrev pub BeginsWithScope : List (List ℕ) → Type 0
BeginsWithScope [] = ⊥
BeginsWithScope (word ∷ words) = IsScopeWord word

-- The words after the name of a key begin with a scope, and the words after it are types. If the first word names no
-- scope, all words are types, and the scope is the zone.
pub data IsScope (words : List (List ℕ)) (scope : Scope) (types : List (List ℕ)) : Type 0 where
  zone : words ≡ codes "zone" ∷ types → scope ≡ Zone → IsScope words scope types
  own : words ≡ codes "self" ∷ types → scope ≡ OwnName → IsScope words scope types
  below : {word : List ℕ} {name : DomainName} → words ≡ codes "subdomain" ∷ word ∷ types → IsNameWord word name → scope ≡ Subdomain name → IsScope words scope types
  one : {word : List ℕ} {name : DomainName} → words ≡ codes "name" ∷ word ∷ types → IsNameWord word name → scope ≡ OneName name → IsScope words scope types
  unnamed : ¬ (BeginsWithScope words) → types ≡ words → scope ≡ Zone → IsScope words scope types

-- The words are the rule: the name of its key, its scope, and a word for each of its types, a mnemonic or `TYPE` and
-- its number (RFC 3597 section 5).
pub record IsRule (words : List (List ℕ)) (rule : Rule) : Type 0 where
  pub key : List ℕ
  pub rest : List (List ℕ)
  pub types : List (List ℕ)
  pub are : words ≡ key ∷ rest
  pub key_is : IsNameWord key rule.key
  pub scope_is : IsScope rest rule.scope types
  pub types_are : AllZip SpellsType types rule.types

-- The text is these words, with white space (Unicode's `White_Space`) before, between and after them.
abbrev pub AreWords : List ℕ → List (List ℕ) → Type 0
AreWords text [] = NoCharPasses is_not_whitespace text
AreWords text (word ∷ words) = (gap : List ℕ) × (rest : List ℕ) × (text ≡ gap ++ (word ++ rest)) × (0 < length word) × NoCharPasses is_not_whitespace gap
    × NoCharPasses is_whitespace word × ((more : List ℕ) × EmptyOrStartsWithPassing is_whitespace rest more) × AreWords rest words

-- The text spells the rule.
abbrev pub IsRuleText : List ℕ → Rule → Type 0
IsRuleText text rule = (words : List (List ℕ)) × AreWords text words × IsRule words rule
