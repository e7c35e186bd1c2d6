-- That headers which compare as equal are one, and the other way round.
use Rattle.std.proofs.Common.{◌≡◌, Bool, true, ◌&&◌, nat_eq, rules, ap, ◌∙◌}
use Rattle.std.specs.Bool.{beq}
use denote.Enum.Bare.{sameb, same_true, true_same}
use Rattle.wire_messages.specs.contracts.op.header.MessageType.{the_type}
use Rattle.wire_messages.specs.declared.op.header.Header.{Header}
use Rattle.wire_messages.specs.declared.op.header.HeaderCounts.{HeaderCounts}
use Rattle.wire_messages.specs.declared.op.header.Metadata.{Metadata}
use Rattle.wire_messages.proofs.lemmas.rr.RecordComparing.{both_hold, hold_both, number_from_eq, number_equal, flag_from_eq, flag_equal}

-- how the derived comparisons go over the fields
abbrev pub metadata_eq : Metadata → Metadata → Bool
metadata_eq a b = nat_eq a.id b.id && (sameb the_type a.message_type b.message_type && (nat_eq a.op_code b.op_code && (beq a.authoritative b.authoritative && (beq a.truncation b.truncation && (beq a.recursion_desired b.recursion_desired && (beq a.recursion_available b.recursion_available && (beq a.authentic_data b.authentic_data && (beq a.checking_disabled b.checking_disabled && nat_eq a.response_code b.response_code))))))))

abbrev pub counts_eq : HeaderCounts → HeaderCounts → Bool
counts_eq a b = nat_eq a.queries b.queries && (nat_eq a.answers b.answers && (nat_eq a.authorities b.authorities && nat_eq a.additionals b.additionals))

-- the header of the same fields
abbrev remade : Metadata → Metadata
remade m = record { id = m.id; message_type = m.message_type; op_code = m.op_code; authoritative = m.authoritative; truncation = m.truncation; recursion_desired = m.recursion_desired; recursion_available = m.recursion_available; authentic_data = m.authentic_data; checking_disabled = m.checking_disabled; response_code = m.response_code }

pub metadata_from_eq : (a b : Metadata) → metadata_eq a b ≡ true → a ≡ b
metadata_from_eq a b h =
    let b0 : (nat_eq a.id b.id ≡ true) × ((sameb the_type a.message_type b.message_type && (nat_eq a.op_code b.op_code && (beq a.authoritative b.authoritative && (beq a.truncation b.truncation && (beq a.recursion_desired b.recursion_desired && (beq a.recursion_available b.recursion_available && (beq a.authentic_data b.authentic_data && (beq a.checking_disabled b.checking_disabled && nat_eq a.response_code b.response_code)))))))) ≡ true) = both_hold _ _ h in
    let b1 : (sameb the_type a.message_type b.message_type ≡ true) × ((nat_eq a.op_code b.op_code && (beq a.authoritative b.authoritative && (beq a.truncation b.truncation && (beq a.recursion_desired b.recursion_desired && (beq a.recursion_available b.recursion_available && (beq a.authentic_data b.authentic_data && (beq a.checking_disabled b.checking_disabled && nat_eq a.response_code b.response_code))))))) ≡ true) = both_hold _ _ b0.1 in
    let b2 : (nat_eq a.op_code b.op_code ≡ true) × ((beq a.authoritative b.authoritative && (beq a.truncation b.truncation && (beq a.recursion_desired b.recursion_desired && (beq a.recursion_available b.recursion_available && (beq a.authentic_data b.authentic_data && (beq a.checking_disabled b.checking_disabled && nat_eq a.response_code b.response_code)))))) ≡ true) = both_hold _ _ b1.1 in
    let b3 : (beq a.authoritative b.authoritative ≡ true) × ((beq a.truncation b.truncation && (beq a.recursion_desired b.recursion_desired && (beq a.recursion_available b.recursion_available && (beq a.authentic_data b.authentic_data && (beq a.checking_disabled b.checking_disabled && nat_eq a.response_code b.response_code))))) ≡ true) = both_hold _ _ b2.1 in
    let b4 : (beq a.truncation b.truncation ≡ true) × ((beq a.recursion_desired b.recursion_desired && (beq a.recursion_available b.recursion_available && (beq a.authentic_data b.authentic_data && (beq a.checking_disabled b.checking_disabled && nat_eq a.response_code b.response_code)))) ≡ true) = both_hold _ _ b3.1 in
    let b5 : (beq a.recursion_desired b.recursion_desired ≡ true) × ((beq a.recursion_available b.recursion_available && (beq a.authentic_data b.authentic_data && (beq a.checking_disabled b.checking_disabled && nat_eq a.response_code b.response_code))) ≡ true) = both_hold _ _ b4.1 in
    let b6 : (beq a.recursion_available b.recursion_available ≡ true) × ((beq a.authentic_data b.authentic_data && (beq a.checking_disabled b.checking_disabled && nat_eq a.response_code b.response_code)) ≡ true) = both_hold _ _ b5.1 in
    let b7 : (beq a.authentic_data b.authentic_data ≡ true) × ((beq a.checking_disabled b.checking_disabled && nat_eq a.response_code b.response_code) ≡ true) = both_hold _ _ b6.1 in
    let b8 : (beq a.checking_disabled b.checking_disabled ≡ true) × ((nat_eq a.response_code b.response_code) ≡ true) = both_hold _ _ b7.1 in
    let p0 : a.id ≡ b.id = number_from_eq _ _ b0.0 in
    let p1 : a.message_type ≡ b.message_type = same_true the_type (search rules) _ _ b1.0 in
    let p2 : a.op_code ≡ b.op_code = number_from_eq _ _ b2.0 in
    let p3 : a.authoritative ≡ b.authoritative = flag_from_eq _ _ b3.0 in
    let p4 : a.truncation ≡ b.truncation = flag_from_eq _ _ b4.0 in
    let p5 : a.recursion_desired ≡ b.recursion_desired = flag_from_eq _ _ b5.0 in
    let p6 : a.recursion_available ≡ b.recursion_available = flag_from_eq _ _ b6.0 in
    let p7 : a.authentic_data ≡ b.authentic_data = flag_from_eq _ _ b7.0 in
    let p8 : a.checking_disabled ≡ b.checking_disabled = flag_from_eq _ _ b8.0 in
    let p9 : a.response_code ≡ b.response_code = number_from_eq _ _ b8.1 in
    let all : remade a ≡ remade b = cc in all

pub metadata_equal : (a b : Metadata) → a ≡ b → metadata_eq a b ≡ true
metadata_equal a b e =
    hold_both _ _ (number_equal _ _ (ap (λ (m : Metadata). m.id) e))
    (hold_both _ _ (true_same the_type _ _ (ap (λ (m : Metadata). m.message_type) e))
    (hold_both _ _ (number_equal _ _ (ap (λ (m : Metadata). m.op_code) e))
    (hold_both _ _ (flag_equal _ _ (ap (λ (m : Metadata). m.authoritative) e))
    (hold_both _ _ (flag_equal _ _ (ap (λ (m : Metadata). m.truncation) e))
    (hold_both _ _ (flag_equal _ _ (ap (λ (m : Metadata). m.recursion_desired) e))
    (hold_both _ _ (flag_equal _ _ (ap (λ (m : Metadata). m.recursion_available) e))
    (hold_both _ _ (flag_equal _ _ (ap (λ (m : Metadata). m.authentic_data) e))
    (hold_both _ _ (flag_equal _ _ (ap (λ (m : Metadata). m.checking_disabled) e))
    (number_equal _ _ (ap (λ (m : Metadata). m.response_code) e))))))))))

abbrev recounted : HeaderCounts → HeaderCounts
recounted c = record { queries = c.queries; answers = c.answers; authorities = c.authorities; additionals = c.additionals }

pub counts_from_eq : (a b : HeaderCounts) → counts_eq a b ≡ true → a ≡ b
counts_from_eq a b h =
    let b0 : (nat_eq a.queries b.queries ≡ true) × ((nat_eq a.answers b.answers && (nat_eq a.authorities b.authorities && nat_eq a.additionals b.additionals)) ≡ true) = both_hold _ _ h in
    let b1 : (nat_eq a.answers b.answers ≡ true) × ((nat_eq a.authorities b.authorities && nat_eq a.additionals b.additionals) ≡ true) = both_hold _ _ b0.1 in
    let b2 : (nat_eq a.authorities b.authorities ≡ true) × ((nat_eq a.additionals b.additionals) ≡ true) = both_hold _ _ b1.1 in
    let p0 : a.queries ≡ b.queries = number_from_eq _ _ b0.0 in
    let p1 : a.answers ≡ b.answers = number_from_eq _ _ b1.0 in
    let p2 : a.authorities ≡ b.authorities = number_from_eq _ _ b2.0 in
    let p3 : a.additionals ≡ b.additionals = number_from_eq _ _ b2.1 in
    let all : recounted a ≡ recounted b = cc in all

pub counts_equal : (a b : HeaderCounts) → a ≡ b → counts_eq a b ≡ true
counts_equal a b e =
    hold_both _ _ (number_equal _ _ (ap (λ (c : HeaderCounts). c.queries) e))
    (hold_both _ _ (number_equal _ _ (ap (λ (c : HeaderCounts). c.answers) e))
    (hold_both _ _ (number_equal _ _ (ap (λ (c : HeaderCounts). c.authorities) e))
    (number_equal _ _ (ap (λ (c : HeaderCounts). c.additionals) e))))

-- headers of the same parts are one
pub header_from_parts : (a b : Header) → a.metadata ≡ b.metadata → a.counts ≡ b.counts → a ≡ b
header_from_parts a b p q =
    ap (λ (m : Metadata). let h : Header = record { metadata = m; counts = a.counts } in h) p
    ∙ ap (λ (c : HeaderCounts). let h : Header = record { metadata = b.metadata; counts = c } in h) q
