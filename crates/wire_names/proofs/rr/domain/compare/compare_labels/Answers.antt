use Rattle.std.proofs.Common.{◌≡◌, ◌∙◌, ℕ, List, ap, refl, sym, rules, tests}
use Rattle.std.specs.Char.{to_ascii_lowercase}
use Rattle.std.specs.Ordering.{nat_cmp}
use Rattle.std.specs.Iterator.Adapters.{map_source, map_callee}
use Rattle.std.proofs.lemmas.Iterator.{YieldsList-from_slice, YieldsList-from_map}
use Rattle.std.proofs.lemmas.Iterator.Search.{cmp_from_yields_List}
use Rattle.std.proofs.lemmas.Iterator.Consumers.{YieldsList-at}
use Rattle.std.specs.Cmp.Lexicographic.{nat_list_cmp_total}
use Rattle.wire_names.specs.rr.domain.NameOrder.{label_cmp, lower_label}
use Rattle.wire_names.proofs.lemmas.rr.domain.SameNames.{eq_is, same_cmp}
use Rattle.wire_names.proofs.rr.domain.compare.compare_labels.Goals as goal

pub returns : goal.returns
returns c = cmp_from_yields_List (λ x y. y ≡ x) _ nat_cmp c.cmp.result c.cmp.ensures.ran
    (YieldsList-from_map _ to_ascii_lowercase (YieldsList-at c.map.ensures.source (YieldsList-from_slice c.args.a.now cc)) c.map.ensures.closure (λ x r q k. search (rules, tests)))
    (λ it e. YieldsList-from_map _ to_ascii_lowercase (YieldsList-at (ap map_source e ∙ c.map-2.ensures.source) (YieldsList-from_slice c.args.b.now cc)) (ap map_callee e ∙ c.map-2.ensures.closure) (λ x r q k. search (rules, tests)))
    (λ x y. refl)

pub returns-then-eq : goal.returns-then-eq
returns-then-eq c =
    let a : List ℕ = c.args.a.now in
    let same : a ≡ c.args.b.now = eq_is a c.args.b.now (sym c.eq.ensures ∙ c.if-eq.true) in
    sym (same_cmp nat_list_cmp_total (lower_label a)) ∙ ap (label_cmp a) same
