-- Under a name that is the same in any letter case a zone has the same set.
use Rattle.std.proofs.Common.{◌≡◌, ℕ, true, cond, List, [], ◌∷◌, Option, None, Some, refl, sym, ap, ◌∙◌, Bor}
use Rattle.std.specs.Cmp.{nat_cmp_total, tied_itself}
use Rattle.std.specs.Map.{lookup}
use Rattle.std.specs.Option.{IfSome, option_copied}
use Rattle.std.specs.Ordering.{is_eq, ordering_then}
use Rattle.std.specs.declared.cmp.Ordering.{Ordering}
use Rattle.std.specs.declared.cmp.Ordering.TheVariants.{Less, Equal, Greater}
use Rattle.wire_names.specs.rr.domain.DomainName.{DomainName}
use Rattle.wire_names.specs.rr.domain.NameOrder.{name_cmp_total, name_eq}
use Rattle.wire_messages.specs.declared.rr.rdata.RData.{RData}
use Rattle.wire_messages.specs.declared.rr.record.Record.{Record}
use Rattle.wire_messages.specs.declared.rr.rr_key.RrKey.{RrKey}
use Rattle.wire_messages.specs.rr.RrKeys.{key_cmp}
use Rattle.hickory_base.proofs.lemmas.zone_store.ZoneByName.{key_total}
use Rattle.hickory_base.specs.zone_store.ZoneAnswers.{found, is_in_use, set_or_denial, zone_answer}
use Rattle.hickory_base.specs.zone_store.ZoneSets.{is_key}

equal_is : (o : Ordering) → is_eq o ≡ true → o ≡ Equal
equal_is Less e = absurd (cc)
equal_is Equal e = refl
equal_is Greater e = absurd (cc)

both_equal : (o p : Ordering) → is_eq o ≡ true → p ≡ Equal → ordering_then o p ≡ Equal
both_equal Less p e f = absurd (cc)
both_equal Equal p e f = f
both_equal Greater p e f = absurd (cc)

module _ (name origin : DomainName) (t : ℕ) (same : name_eq name origin ≡ true) where
  -- keys of the two names and one type are equal
  tied : key_cmp (record { name = name; record_type = t }) (record { name = origin; record_type = t }) ≡ Equal
  tied = both_equal _ _ same (tied_itself nat_cmp_total t)

  key_alike : (key : RrKey) → is_key name t key ≡ is_key origin t key
  key_alike key = ap is_eq (key_total.congr (record { name = name; record_type = t }) (record { name = origin; record_type = t }) key tied)

  pub lookup_alike : (es : List (RrKey × List (Record RData))) → lookup (is_key name t) es ≡ lookup (is_key origin t) es
  lookup_alike [] = refl
  lookup_alike (e ∷ es) = rw (key_alike e.0) (ap (λ rest. cond (is_key origin t e.0) (Some e.1) rest) (lookup_alike es))

-- a name is the same as itself
pub name_itself : (name : DomainName) → name_eq name name ≡ true
name_itself name = ap is_eq (tied_itself name_cmp_total name)

-- so it answers for the one name with the set of the other
pub found_alike : (name origin : DomainName) (t : ℕ) (es : List (RrKey × List (Record RData))) (set : Option (List (Record RData))) → t ≡ 6 → name_eq name origin ≡ true
    → set ≡ lookup (is_key origin 6) es → IfSome set (λ records. zone_answer es name t ≡ found records)
found_alike name origin t es None e same is = tt
found_alike name origin t es (Some records) e same is =
    let there : lookup (is_key name 6) es ≡ Some records = lookup_alike name origin 6 same es ∙ sym is in
    rw e (ap (λ set. set_or_denial set (is_in_use name es)) there)

-- what holds of the list that a slice lends
pub of_lent : (o : Option (Bor (List (Record RData)))) (P : List (Record RData) → Type 0) → IfSome (option_copied o) P → IfSome o (λ records. P records.now)
of_lent None P h = h
of_lent (Some records) P h = h
