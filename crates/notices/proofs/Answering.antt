-- Which messages answer a notice, part by part.
use Rattle.std.proofs.Common.{◌≡◌, ◌&&◌, ◌==◌, ◌↔◌, ℕ, Bool, true, IsTrue, List, [], ◌∷◌, Some, nat_lt, refl, subst, sym}
use Rattle.std.proofs.lemmas.Bool.{and_from, and_parts, eq-eqb, eqb-true, lt-ltb, ltb-true}
use Rattle.std.proofs.lemmas.List.Quantifiers.{position-Some}
use Rattle.std.proofs.lemmas.Option.{get_or_from_slice_get}
use Rattle.wire_names.specs.rr.domain.DomainName.{DomainName}
use Rattle.wire_names.specs.rr.domain.NameOrder.{SameName, name_eq}
use Rattle.wire_messages.specs.Numbers.{class_in, opcode_notify, type_soa}
use Rattle.wire_messages.specs.serialize.layout.HeaderLayout.{is_response}
use Rattle.wire_messages.specs.declared.op.header.MessageType.{MessageType}
use Rattle.wire_messages.specs.declared.op.header.MessageType.TheVariants.{Query as query, Response}
use Rattle.wire_messages.specs.declared.op.query.Query.{Query}
use Rattle.wire_reading.specs.declared.op.message.Message.{Message}
use Rattle.notices.specs.Messages.{AsksOf, IsAnswer, asks_of, is_answered, same_target}
use Rattle.notices.specs.Schedule.{TakesOut}
use Rattle.notices.specs.declared.notice.Notice.{Notice}
use Rattle.notices.specs.declared.notice.Target.{Target}

abbrev Names : Type 0
Names = (a b : DomainName) → IsTrue (name_eq a b) ↔ SameName a b

asked : Names → (zone : DomainName) (code : ℕ) (qs : List Query) → asks_of zone code qs ≡ true → AsksOf zone code qs
asked names zone code [] h = ltb-true 0 code h
asked names zone code (q ∷ []) h =
    let b : ((name_eq q.name zone && (q.query_type == type_soa)) ≡ true) × ((q.query_class == class_in) ≡ true) = and_parts (name_eq q.name zone && (q.query_type == type_soa)) (q.query_class == class_in) h in
    let a : (name_eq q.name zone ≡ true) × ((q.query_type == type_soa) ≡ true) = and_parts (name_eq q.name zone) (q.query_type == type_soa) b.0 in
    let one = names q.name zone in
    (one.0 a.0, eqb-true q.query_type type_soa a.1, eqb-true q.query_class class_in b.1)
asked names zone code (q ∷ r ∷ rest) h = absurd (cc)

asks_back : Names → (zone : DomainName) (code : ℕ) (qs : List Query) → AsksOf zone code qs → asks_of zone code qs ≡ true
asks_back names zone code [] h = lt-ltb 0 code h
asks_back names zone code (q ∷ []) h =
    let one = names q.name zone in
    and_from (name_eq q.name zone && (q.query_type == type_soa)) (q.query_class == class_in)
    (and_from (name_eq q.name zone) (q.query_type == type_soa) (one.1 h.0) (eq-eqb q.query_type type_soa h.1)) (eq-eqb q.query_class class_in h.2)
asks_back names zone code (q ∷ r ∷ rest) h = absurd h

responds : (t : MessageType) → is_response t ≡ true → t ≡ Response
responds Response h = refl
responds query h = absurd (cc)

response : (t : MessageType) → t ≡ Response → is_response t ≡ true
response t e = subst (λ (x : MessageType). is_response x ≡ true) (sym e) refl

-- six tests hold together
six : (a b c d e f : Bool) → (a && b && c && d && e && f) ≡ true → (a ≡ true) × (b ≡ true) × (c ≡ true) × (d ≡ true) × (e ≡ true) × (f ≡ true)
six a b c d e f h =
    let h5 : ((a && b && c && d && e) ≡ true) × (f ≡ true) = and_parts (a && b && c && d && e) f h in
    let h4 : ((a && b && c && d) ≡ true) × (e ≡ true) = and_parts (a && b && c && d) e h5.0 in
    let h3 : ((a && b && c) ≡ true) × (d ≡ true) = and_parts (a && b && c) d h4.0 in
    let h2 : ((a && b) ≡ true) × (c ≡ true) = and_parts (a && b) c h3.0 in
    let h1 : (a ≡ true) × (b ≡ true) = and_parts a b h2.0 in
    (h1.0, h1.1, h2.1, h3.1, h4.1, h5.1)

six_back : (a b c d e f : Bool) → a ≡ true → b ≡ true → c ≡ true → d ≡ true → e ≡ true → f ≡ true → (a && b && c && d && e && f) ≡ true
six_back a b c d e f h1 h2 h3 h4 h5 h6 =
    and_from (a && b && c && d && e) f (and_from (a && b && c && d) e (and_from (a && b && c) d (and_from (a && b) c (and_from a b h1 h2) h3) h4) h5) h6

answers : Names → (from : Target) (m : Message) (n : Notice) → is_answered from m n ≡ true → IsAnswer from m n
answers names from m n h =
    let parts = six (nat_lt 0 n.sent) (same_target n.target from) (m.metadata.id == n.id) (is_response m.metadata.message_type) (m.metadata.op_code == opcode_notify) (asks_of n.zone m.metadata.response_code m.queries) h in
    record {
      sent = ltb-true 0 n.sent parts.0;
      target = parts.1;
      id = eqb-true m.metadata.id n.id parts.2;
      response = responds m.metadata.message_type parts.3;
      kind = eqb-true m.metadata.op_code opcode_notify parts.4;
      question = asked names n.zone m.metadata.response_code m.queries parts.5;
    }

answered : Names → (from : Target) (m : Message) (n : Notice) → IsAnswer from m n → is_answered from m n ≡ true
answered names from m n a =
    six_back (nat_lt 0 n.sent) (same_target n.target from) (m.metadata.id == n.id) (is_response m.metadata.message_type) (m.metadata.op_code == opcode_notify) (asks_of n.zone m.metadata.response_code m.queries)
    (lt-ltb 0 n.sent a.sent) a.target (eq-eqb m.metadata.id n.id a.id) (response m.metadata.message_type a.response) (eq-eqb m.metadata.op_code opcode_notify a.kind)
    (asks_back names n.zone m.metadata.response_code m.queries a.question)

pub is_answer : Names → (from : Target) (m : Message) (n : Notice) → IsTrue (is_answered from m n) ↔ IsAnswer from m n
is_answer names from m n = (answers names from m n, answered names from m n)

-- a notice that is taken out passes the test
pub passes : (test : Notice → Bool) (old new : List Notice) (n : Notice) → TakesOut test old new (Some n) → test n ≡ true
passes test old new n taken =
    let found = position-Some test old taken.0 n taken.1 in
    subst (λ (x : Notice). test x ≡ true) (get_or_from_slice_get old taken.0 n n taken.2) found.1

pub answer_ends : Names → (from : Target) (m : Message) (old new : List Notice) (n : Notice) → TakesOut (is_answered from m) old new (Some n) → IsAnswer from m n
answer_ends names from m old new n taken = answers names from m n (passes (is_answered from m) old new n taken)
