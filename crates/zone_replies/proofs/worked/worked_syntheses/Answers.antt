use Rattle.std.proofs.Common.{refl}
use Rattle.wire_messages.specs.Numbers.{type_a, type_any, type_mx, type_txt}
use Rattle.zone_answers.proofs.lemmas.zones.Written.{as_wild}
use Rattle.zone_answers.specs.WorkedZones.{foo_bar, host3, wildcards}
use Rattle.zone_replies.proofs.worked.worked_syntheses.Goals as goal

pub returns-clause-host3_mx : goal.returns-clause-host3_mx
returns-clause-host3_mx c = as_wild wildcards host3 type_mx refl refl 0 refl refl refl refl refl

pub returns-clause-host3_a : goal.returns-clause-host3_a
returns-clause-host3_a c = as_wild wildcards host3 type_a refl refl 0 refl refl refl refl refl

pub returns-clause-foo_bar_txt : goal.returns-clause-foo_bar_txt
returns-clause-foo_bar_txt c = as_wild wildcards foo_bar type_txt refl refl 1 refl refl refl refl refl

pub returns-clause-host3_any : goal.returns-clause-host3_any
returns-clause-host3_any c = as_wild wildcards host3 type_any refl refl 0 refl refl refl refl refl
