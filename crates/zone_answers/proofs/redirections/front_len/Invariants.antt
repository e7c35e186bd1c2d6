-- The place lies behind the labels counted so far.
use Rattle.std.proofs.Common.{◌≡◌}
use Rattle.wire_names.specs.rr.domain.DomainName.{label_offset}
use Rattle.zone_answers.proofs.redirections.front_len.Given as goal

abbrev pub invariant-loop : goal.invariant-loop
invariant-loop l = l.place ≡ label_offset l.name.labels l.counter
