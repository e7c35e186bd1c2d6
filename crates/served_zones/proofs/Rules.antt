-- The rules of a zone, one grant after the other.
use Rattle.std.proofs.Common.{◌≡◌, ◌<◌, ◌+◌, ◌++◌, ◌∷◌, [], ℕ, List, length, get_or, take, map, ap, ◌∙◌}
use Rattle.std.proofs.lemmas.List.{map-append, take_more}
use Rattle.std.proofs.lemmas.List.Elements.{filter-append}
use Rattle.std.specs.List.{filter}
use Rattle.wire_names.specs.rr.domain.DomainName.{DomainName}
use Rattle.wire_names.specs.rr.domain.NameOrder.{name_eq}
use Rattle.served_zones.specs.Grants.{rules_for}
use Rattle.served_zones.specs.declared.grants.Grant.{Grant}

joined : (grants more : List Grant) (apex : DomainName) → rules_for (grants ++ more) apex ≡ rules_for grants apex ++ rules_for more apex
joined grants more apex =
    ap (map (λ (g : Grant). g.rule)) (filter-append (λ (g : Grant). name_eq g.apex apex) grants more)
    ∙ map-append (λ (g : Grant). g.rule) (filter (λ (g : Grant). name_eq g.apex apex) grants) (filter (λ (g : Grant). name_eq g.apex apex) more)

-- one grant more
pub rules_more : (grants : List Grant) (i : ℕ) (d : Grant) (apex : DomainName) → i < length grants
    → rules_for (take (i + 1) grants) apex ≡ rules_for (take i grants) apex ++ rules_for (get_or grants i d ∷ []) apex
rules_more grants i d apex inside =
    ap (λ (l : List Grant). rules_for l apex) (take_more grants i d inside) ∙ joined (take i grants) (get_or grants i d ∷ []) apex
