-- When two options, and what two OPT records say, are the same: in each field.
use Rattle.std.specs.Prelude.{nat_eq, Bool}
use Rattle.std.specs.Bool.{beq}
use Rattle.std.specs.Cmp.{IsEquivalence, and_equiv, bool_eq_equiv, nat_eq_equiv, on_equiv}
use Rattle.std.specs.Cmp.Lexicographic.{lists_equiv, nat_list_eq_equiv, pointwise}
use Rattle.std.specs.Ordering.{eq_of_both, on}
use Rattle.wire_messages.specs.op.EdnsFields.{EdnsFields}
use Rattle.wire_messages.specs.declared.op.edns.EdnsOption.{EdnsOption}

abbrev pub option_eq : EdnsOption → EdnsOption → Bool
option_eq = eq_of_both (on (λ o. o.code) nat_eq) (on (λ o. o.bytes) (pointwise nat_eq))

abbrev pub edns_eq : EdnsFields → EdnsFields → Bool
edns_eq = eq_of_both (on (λ e. e.max_payload) nat_eq) (eq_of_both (on (λ e. e.rcode_high) nat_eq) (eq_of_both (on (λ e. e.version) nat_eq)
    (eq_of_both (on (λ e. e.dnssec_ok) beq) (eq_of_both (on (λ e. e.reserved_flags) nat_eq) (on (λ e. e.options) (pointwise option_eq))))))

pub option_eq_equiv : IsEquivalence option_eq
option_eq_equiv = and_equiv (on_equiv (λ o. o.code) nat_eq_equiv) (on_equiv (λ o. o.bytes) nat_list_eq_equiv)

pub edns_eq_equiv : IsEquivalence edns_eq
edns_eq_equiv = and_equiv (on_equiv (λ e. e.max_payload) nat_eq_equiv) (and_equiv (on_equiv (λ e. e.rcode_high) nat_eq_equiv) (and_equiv (on_equiv (λ e. e.version) nat_eq_equiv)
    (and_equiv (on_equiv (λ e. e.dnssec_ok) bool_eq_equiv) (and_equiv (on_equiv (λ e. e.reserved_flags) nat_eq_equiv) (on_equiv (λ e. e.options) (lists_equiv option_eq_equiv))))))
