use Rattle.std.proofs.Common.{◌≡◌, true, ◌&&◌, nat_eq, ap}
use Rattle.std.specs.Bool.{beq}
use Rattle.std.specs.Cmp.Lexicographic.{pointwise}
use Rattle.wire_messages.specs.op.EdnsFields.{EdnsFields}
use Rattle.wire_messages.specs.op.EdnsSameness.{option_eq}
use Rattle.wire_messages.proofs.lemmas.rr.RecordComparing.{both_hold, hold_both, number_from_eq, number_equal, flag_from_eq, flag_equal, options_from_eq, options_equal}
use Rattle.wire_messages.proofs.op.comparison_laws.edns_comparisons.Goals as goal

-- the same fields
abbrev remade : EdnsFields → EdnsFields
remade f = record { max_payload = f.max_payload; rcode_high = f.rcode_high; version = f.version; dnssec_ok = f.dnssec_ok; reserved_flags = f.reserved_flags; options = f.options }

pub returns-clause-edns : goal.returns-clause-edns
returns-clause-edns c = λ a b. (
  λ h.
      let b0 : (nat_eq a.max_payload b.max_payload ≡ true) × ((nat_eq a.rcode_high b.rcode_high && (nat_eq a.version b.version && (beq a.dnssec_ok b.dnssec_ok && (nat_eq a.reserved_flags b.reserved_flags && pointwise option_eq a.options b.options)))) ≡ true) = both_hold _ _ h in
      let b1 : (nat_eq a.rcode_high b.rcode_high ≡ true) × ((nat_eq a.version b.version && (beq a.dnssec_ok b.dnssec_ok && (nat_eq a.reserved_flags b.reserved_flags && pointwise option_eq a.options b.options))) ≡ true) = both_hold _ _ b0.1 in
      let b2 : (nat_eq a.version b.version ≡ true) × ((beq a.dnssec_ok b.dnssec_ok && (nat_eq a.reserved_flags b.reserved_flags && pointwise option_eq a.options b.options)) ≡ true) = both_hold _ _ b1.1 in
      let b3 : (beq a.dnssec_ok b.dnssec_ok ≡ true) × ((nat_eq a.reserved_flags b.reserved_flags && pointwise option_eq a.options b.options) ≡ true) = both_hold _ _ b2.1 in
      let b4 : (nat_eq a.reserved_flags b.reserved_flags ≡ true) × (pointwise option_eq a.options b.options ≡ true) = both_hold _ _ b3.1 in
      let p0 : a.max_payload ≡ b.max_payload = number_from_eq _ _ b0.0 in
      let p1 : a.rcode_high ≡ b.rcode_high = number_from_eq _ _ b1.0 in
      let p2 : a.version ≡ b.version = number_from_eq _ _ b2.0 in
      let p3 : a.dnssec_ok ≡ b.dnssec_ok = flag_from_eq _ _ b3.0 in
      let p4 : a.reserved_flags ≡ b.reserved_flags = number_from_eq _ _ b4.0 in
      let p5 : a.options ≡ b.options = options_from_eq _ _ b4.1 in
      let all : remade a ≡ remade b = cc in all,
  λ e.
      hold_both _ _ (number_equal _ _ (ap (λ (f : EdnsFields). f.max_payload) e)) (hold_both _ _ (number_equal _ _ (ap (λ (f : EdnsFields). f.rcode_high) e))
      (hold_both _ _ (number_equal _ _ (ap (λ (f : EdnsFields). f.version) e)) (hold_both _ _ (flag_equal _ _ (ap (λ (f : EdnsFields). f.dnssec_ok) e))
      (hold_both _ _ (number_equal _ _ (ap (λ (f : EdnsFields). f.reserved_flags) e)) (rw (← (ap (λ (f : EdnsFields). f.options) e)) (options_equal a.options)))))),
)
