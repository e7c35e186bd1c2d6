use Rattle.std.proofs.Common.{[], ◌∷◌, refl, arith}
use Rattle.std.specs.Prelude.{codes}
use Rattle.hickory_wire.specs.worked.Worked.{named}
use Rattle.zone_answers.proofs.lemmas.zones.Written.{direct_by, redirects_by}
use Rattle.zone_answers.specs.WorkedRedirections.{one_dname}
use Rattle.zone_replies.proofs.worked.worked_substitutions.Goals as goal

pub returns-clause-above : goal.returns-clause-above
returns-clause-above c = direct_by (one_dname (named (codes "example" ∷ codes "com" ∷ []))) (named (codes "com" ∷ [])) refl

pub returns-clause-at_owner : goal.returns-clause-at_owner
returns-clause-at_owner c = direct_by (one_dname (named (codes "example" ∷ codes "com" ∷ []))) (named (codes "example" ∷ codes "com" ∷ [])) refl

pub returns-clause-part_of_a_label : goal.returns-clause-part_of_a_label
returns-clause-part_of_a_label c = direct_by (one_dname (named (codes "b" ∷ codes "example" ∷ codes "com" ∷ []))) (named (codes "ab" ∷ codes "example" ∷ codes "com" ∷ [])) refl

pub returns-clause-one_label : goal.returns-clause-one_label
returns-clause-one_label c = record { kept = 1; redirects = redirects_by (one_dname (named (codes "example" ∷ codes "com" ∷ []))) (named (codes "a" ∷ codes "example" ∷ codes "com" ∷ [])) 1 (omega arith) (omega arith) refl refl refl refl; makes = refl }

pub returns-clause-two_labels : goal.returns-clause-two_labels
returns-clause-two_labels c = record { kept = 2; redirects = redirects_by (one_dname (named (codes "example" ∷ codes "com" ∷ []))) (named (codes "a" ∷ codes "b" ∷ codes "example" ∷ codes "com" ∷ [])) 2 (omega arith) (omega arith) refl refl refl refl; makes = refl }

pub returns-clause-other_label : goal.returns-clause-other_label
returns-clause-other_label c = record { kept = 1; redirects = redirects_by (one_dname (named (codes "example" ∷ codes "com" ∷ []))) (named (codes "foo" ∷ codes "example" ∷ codes "com" ∷ [])) 1 (omega arith) (omega arith) refl refl refl refl; makes = refl }

pub returns-clause-longer_owner : goal.returns-clause-longer_owner
returns-clause-longer_owner c = record { kept = 1; redirects = redirects_by (one_dname (named (codes "x" ∷ codes "example" ∷ codes "com" ∷ []))) (named (codes "a" ∷ codes "x" ∷ codes "example" ∷ codes "com" ∷ [])) 1 (omega arith) (omega arith) refl refl refl refl; makes = refl }

pub returns-clause-longer_target : goal.returns-clause-longer_target
returns-clause-longer_target c = record { kept = 1; redirects = redirects_by (one_dname (named (codes "example" ∷ codes "com" ∷ []))) (named (codes "a" ∷ codes "example" ∷ codes "com" ∷ [])) 1 (omega arith) (omega arith) refl refl refl refl; makes = refl }

pub returns-clause-to_itself : goal.returns-clause-to_itself
returns-clause-to_itself c = record { kept = 1; redirects = redirects_by (one_dname (named (codes "example" ∷ codes "com" ∷ []))) (named (codes "cyc" ∷ codes "example" ∷ codes "com" ∷ [])) 1 (omega arith) (omega arith) refl refl refl refl; makes = refl }

pub returns-clause-below_itself : goal.returns-clause-below_itself
returns-clause-below_itself c = record { kept = 1; redirects = redirects_by (one_dname (named (codes "example" ∷ codes "com" ∷ []))) (named (codes "cyc" ∷ codes "example" ∷ codes "com" ∷ [])) 1 (omega arith) (omega arith) refl refl refl refl; makes = refl }

pub returns-clause-to_root : goal.returns-clause-to_root
returns-clause-to_root c = record { kept = 2; redirects = redirects_by (one_dname (named (codes "x" ∷ []))) (named (codes "shortloop" ∷ codes "x" ∷ codes "x" ∷ [])) 2 (omega arith) (omega arith) refl refl refl refl; makes = refl }

pub returns-clause-to_root_again : goal.returns-clause-to_root_again
returns-clause-to_root_again c = record { kept = 1; redirects = redirects_by (one_dname (named (codes "x" ∷ []))) (named (codes "shortloop" ∷ codes "x" ∷ [])) 1 (omega arith) (omega arith) refl refl refl refl; makes = refl }
