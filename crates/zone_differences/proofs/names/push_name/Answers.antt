-- The name is there in lower case.
use Rattle.std.proofs.Common.{◌∙◌, List, ap, sym}
use Rattle.wire_names.specs.rr.domain.DomainName.{DomainName}
use Rattle.wire_names.specs.rr.domain.NameOrder.{lower_name, name_eq}
use Rattle.zone_differences.specs.Standing.{are_among}
use Rattle.zone_differences.specs.declared.names.NameRecords.{NameRecords}
use Rattle.zone_differences.proofs.Naming.{among_equal, among_last, lowered}
use Rattle.zone_differences.proofs.names.push_name.Goals as goal

pub returns-then-are_among-clause-there : goal.returns-then-are_among-clause-there
returns-then-are_among-clause-there c =
    let n : DomainName = c.args.name.now in
    sym (among_equal (lower_name n) n (lowered n) c.args.names.now.items)
    ∙ ap (λ (es : List NameRecords). are_among es (lower_name n)) (sym c.deref.ensures.value)
    ∙ ap (λ (m : DomainName). are_among c.deref.result.now m) (sym c.in_ok-name.ensures)
    ∙ sym c.are_among.ensures
    ∙ c.if-are_among.true

pub returns-clause-there : goal.returns-clause-there
returns-clause-there c =
    let n : DomainName = c.args.name.now in
    ap (λ (es : List NameRecords). are_among es n) c.in_ok-push.ensures.items
    ∙ among_last c.args.names.now.items _ n (ap (λ (m : DomainName). name_eq m n) c.in_ok-name.ensures ∙ lowered n)
