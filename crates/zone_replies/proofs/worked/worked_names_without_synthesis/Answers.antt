use Rattle.std.proofs.Common.{refl, arith}
use Rattle.wire_messages.specs.Numbers.{type_a, type_any, type_mx, type_srv}
use Rattle.wire_messages.specs.declared.rr.rdata.RData.TheVariants as rdata
use Rattle.zone_answers.proofs.lemmas.zones.Written.{as_denied, as_matched, as_referred}
use Rattle.zone_answers.specs.WorkedZones.{any_name, ghost_any, host1, host_subdel, owned, server, sub_any, subdel, tcp_host1, telnet_host1, wildcards}
use Rattle.std.proofs.Common.{[], ◌∷◌}
use Rattle.zone_replies.proofs.worked.worked_names_without_synthesis.Goals as goal

pub returns-clause-host1_mx : goal.returns-clause-host1_mx
returns-clause-host1_mx c = as_matched wildcards host1 type_mx refl refl refl

pub returns-clause-sub_any_mx : goal.returns-clause-sub_any_mx
returns-clause-sub_any_mx c = as_matched wildcards sub_any type_mx refl refl refl

pub returns-clause-telnet_host1_srv : goal.returns-clause-telnet_host1_srv
returns-clause-telnet_host1_srv c = as_denied wildcards telnet_host1 type_srv refl refl 0 refl refl refl refl refl

pub returns-clause-host_subdel_a : goal.returns-clause-host_subdel_a
returns-clause-host_subdel_a c = as_referred wildcards host_subdel type_a refl 1 (owned subdel (rdata.NS server) ∷ []) refl refl refl (λ e ds. absurd (omega arith)) refl

pub returns-clause-ghost_any_mx : goal.returns-clause-ghost_any_mx
returns-clause-ghost_any_mx c = as_denied wildcards ghost_any type_mx refl refl 0 refl refl refl refl refl

pub returns-clause-tcp_host1_srv : goal.returns-clause-tcp_host1_srv
returns-clause-tcp_host1_srv c = as_matched wildcards tcp_host1 type_srv refl refl refl

pub returns-clause-tcp_host1_any : goal.returns-clause-tcp_host1_any
returns-clause-tcp_host1_any c = as_matched wildcards tcp_host1 type_any refl refl refl

pub returns-clause-any_name_mx : goal.returns-clause-any_name_mx
returns-clause-any_name_mx c = as_matched wildcards any_name type_mx refl refl refl
