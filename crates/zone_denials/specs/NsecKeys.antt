-- The chain among the keys of a zone, which are in canonical order.
use Rattle.std.specs.Prelude.{◌≡◌, ◌==◌, ◌∷◌, ◌++◌, List, [], true, false, cond}
use Rattle.std.specs.List.{AllByRecursion}
use Rattle.std.specs.declared.cmp.Ordering.TheVariants.{Less}
use Rattle.wire_messages.specs.Numbers.{type_nsec}
use Rattle.wire_messages.specs.rr.RrKeys.{key_cmp}
use Rattle.wire_messages.specs.declared.rr.rr_key.RrKey.{RrKey}
use Rattle.zone_denials.specs.Nsec.{Nsec}
use Rattle.zone_denials.specs.NsecChain.{IsLastBefore}

abbrev pub is_nsec : RrKey → Type 0
is_nsec key = (key.record_type == type_nsec) ≡ true

abbrev pub is_other : RrKey → Type 0
is_other key = (key.record_type == type_nsec) ≡ false

-- the NSEC records under the keys of that type, in their order, if each key has this record
abbrev pub chain_of : (RrKey → Nsec) → List RrKey → List Nsec
chain_of under [] = []
chain_of under (k ∷ ks) = cond (k.record_type == type_nsec) (under k ∷ chain_of under ks) (chain_of under ks)

-- The key is the last of type NSEC among these.
pub record IsLastNsec (keys : List RrKey) (key : RrKey) : Type 0 where
  pub front : List RrKey
  pub rest : List RrKey
  pub is : keys ≡ front ++ key ∷ rest
  pub nsec : is_nsec key
  pub others : AllByRecursion is_other rest

-- Among the keys before the first of a name, the last of type NSEC has the record that is the last before the name. No
-- type is below that of the first.
abbrev pub LastNsecIsLast : Type 0
LastNsecIsLast = (under : RrKey → Nsec) (before from : List RrKey) (first key : RrKey) → ((k : RrKey) → (under k).owner ≡ k.name) → first.record_type ≡ 0
    → AllByRecursion (λ k. key_cmp k first ≡ Less) before → AllByRecursion (λ k. ¬ (key_cmp k first ≡ Less)) from → IsLastNsec before key → IsLastBefore (chain_of under (before ++ from)) first.name (under key)
