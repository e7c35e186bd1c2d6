-- What is retained is of other zones.
use Rattle.std.proofs.Common.{not, rules, tests}
use Rattle.std.proofs.lemmas.Fn.{filter_same}
use Rattle.wire_names.specs.rr.domain.NameOrder.{name_eq}
use Rattle.notices.proofs.notices.take_out.Goals as goal

pub returns-clause-left : goal.returns-clause-left
returns-clause-left c = filter_same _ (λ n. not (name_eq n.zone c.args.zone.now)) _ (λ x b q k. search (rules, tests)) _ _ c.retain.ensures.filtered
