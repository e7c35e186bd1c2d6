use Rattle.wire_names.proofs.lemmas.rr.domain.SameNames.{eq_from_same, eq_from_order, order_from_eq, same_order, lower_same, lower_exact}
use Rattle.wire_names.specs.representation.NameHash.{name_hash_alike, same_from_eq}
use Rattle.wire_names.proofs.rr.domain.name_sameness.name_comparisons.Goals as goal

pub returns-clause-equal : goal.returns-clause-equal
returns-clause-equal c = λ a b. (same_from_eq a b, eq_from_same a b)

pub returns-clause-tied : goal.returns-clause-tied
returns-clause-tied c = λ a b. (λ h. same_from_eq a b (eq_from_order a b h), λ s. order_from_eq a b (eq_from_same a b s))

pub returns-clause-ordered : goal.returns-clause-ordered
returns-clause-ordered c = same_order

pub returns-clause-hashed : goal.returns-clause-hashed
returns-clause-hashed c = λ a b s. name_hash_alike a b (eq_from_same a b s)

pub returns-clause-case : goal.returns-clause-case
returns-clause-case c = lower_same

pub returns-clause-lower : goal.returns-clause-lower
returns-clause-lower c = lower_exact
