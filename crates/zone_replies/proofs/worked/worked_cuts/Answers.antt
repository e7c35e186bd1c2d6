use Rattle.std.proofs.Common.{refl, arith}
use Rattle.std.proofs.Common.{[], ◌∷◌}
use Rattle.wire_messages.specs.Numbers.{type_a, type_any, type_ds, type_ns}
use Rattle.wire_messages.specs.declared.rr.rdata.RData.TheVariants as rdata
use Rattle.zone_answers.proofs.lemmas.zones.Written.{as_at_cut, as_matched, as_referred}
use Rattle.zone_answers.specs.WorkedZones.{child, cuts, deep, example, grandchild, ns_child, owned}
use Rattle.zone_replies.proofs.worked.worked_cuts.Goals as goal

pub returns-clause-at_cut : goal.returns-clause-at_cut
returns-clause-at_cut c = as_referred cuts child type_a refl 0 (owned child (rdata.NS ns_child) ∷ []) refl refl refl (λ e ds. absurd (omega arith)) refl

pub returns-clause-servers_at_cut : goal.returns-clause-servers_at_cut
returns-clause-servers_at_cut c = as_referred cuts child type_ns refl 0 (owned child (rdata.NS ns_child) ∷ []) refl refl refl (λ e ds. absurd (omega arith)) refl

pub returns-clause-any_at_cut : goal.returns-clause-any_at_cut
returns-clause-any_at_cut c = as_referred cuts child type_any refl 0 (owned child (rdata.NS ns_child) ∷ []) refl refl refl (λ e ds. absurd (omega arith)) refl

pub returns-clause-ds_at_cut : goal.returns-clause-ds_at_cut
returns-clause-ds_at_cut c = as_at_cut cuts child type_ds refl refl refl refl refl

pub returns-clause-glue : goal.returns-clause-glue
returns-clause-glue c = as_referred cuts ns_child type_a refl 1 (owned child (rdata.NS ns_child) ∷ []) refl refl refl (λ e ds. absurd (omega arith)) refl

pub returns-clause-lower_cut : goal.returns-clause-lower_cut
returns-clause-lower_cut c = as_referred cuts grandchild type_ns refl 1 (owned child (rdata.NS ns_child) ∷ []) refl refl refl (λ e ds. absurd (omega arith)) refl

pub returns-clause-ds_at_lower_cut : goal.returns-clause-ds_at_lower_cut
returns-clause-ds_at_lower_cut c = as_referred cuts grandchild type_ds refl 1 (owned child (rdata.NS ns_child) ∷ []) refl refl refl (λ e ds. absurd (omega arith)) refl

pub returns-clause-below_both : goal.returns-clause-below_both
returns-clause-below_both c = as_referred cuts deep type_a refl 2 (owned child (rdata.NS ns_child) ∷ []) refl refl refl (λ e ds. absurd (omega arith)) refl

pub returns-clause-servers_at_apex : goal.returns-clause-servers_at_apex
returns-clause-servers_at_apex c = as_matched cuts example type_ns refl refl refl

pub returns-clause-ds_at_apex : goal.returns-clause-ds_at_apex
returns-clause-ds_at_apex c = as_matched cuts example type_ds refl refl refl
