-- What is known of the first notice that is due, and of one that is ended.
use Rattle.std.proofs.Common.{◌≡◌, ◌<◌, ◌==◌, ℕ, zero, suc, Bool, true, false, List, Some, arith, cond, get_or, length, nat_le, nat_lt, position, refl, subst, sym, ◌∙◌}
use Rattle.std.specs.Prelude.{slice_get}
use Rattle.std.proofs.lemmas.Bool.{and_parts, eqb-true, ltb-true}
use Rattle.std.proofs.lemmas.List.Quantifiers.{position-Some}
use Rattle.std.proofs.lemmas.Option.{get_or_from_slice_get, slice_get_read}
use Rattle.wire_reading.specs.declared.op.message.Message.{Message}
use Rattle.notices.specs.Messages.{is_answered}
use Rattle.notices.specs.Schedule.{HearsMessage, TakesOut, is_due, most_sent}
use Rattle.notices.specs.declared.notice.Notice.{Notice}
use Rattle.notices.specs.declared.notice.Target.{Target}
use Rattle.notices.specs.declared.notices.Heard.{Heard}
use Rattle.notices.specs.declared.notices.Heard.TheVariants.{Answered, Refused}

pub due_low : (now : ℕ) (old : List Notice) (place : ℕ) (n : Notice) → position (is_due now) old ≡ Some place → n ≡ get_or old place n → n.sent < 6
due_low now old place n found is =
    let at = position-Some (is_due now) old place n found in
    let due : is_due now n ≡ true = subst (λ (x : Notice). is_due now x ≡ true) (sym is) at.1 in
    ltb-true n.sent most_sent (and_parts (nat_lt n.sent most_sent) (nat_le n.next now) due).0

pub stands_at : (test : Notice → Bool) (old : List Notice) (place : ℕ) (n : Notice) → position test old ≡ Some place → n ≡ get_or old place n → slice_get old place ≡ Some n
stands_at test old place n found is =
    let at = position-Some test old place n found in
    slice_get_read old (length old) place n refl at.0 is

pub same_at : (test : Notice → Bool) (old : List Notice) (place : ℕ) (m n : Notice) → position test old ≡ Some place → m ≡ get_or old place m → n ≡ get_or old place n → m ≡ n
same_at test old place m n found is_m is_n = is_m ∙ get_or_from_slice_get old place n m (stands_at test old place n found is_n)

positive : (code : ℕ) → (code == 0) ≡ false → 0 < code
positive zero e = absurd (cc)
positive (suc n) e = omega arith

by_code : (from : Target) (m : Message) (old new : List Notice) (n : Notice) → TakesOut (is_answered from m) old new (Some n) → (b : Bool) → (m.metadata.response_code == 0) ≡ b
    → HearsMessage from m old new (cond b (Answered n) (Refused n m.metadata.response_code))
by_code from m old new n taken true e = (eqb-true m.metadata.response_code 0 e, taken)
by_code from m old new n taken false e = (refl, positive m.metadata.response_code e, taken)

pub hears : (from : Target) (m : Message) (old new : List Notice) (n : Notice) → TakesOut (is_answered from m) old new (Some n)
    → (heard : Heard) → heard ≡ cond (m.metadata.response_code == 0) (Answered n) (Refused n m.metadata.response_code) → HearsMessage from m old new heard
hears from m old new n taken heard is = subst (λ (h : Heard). HearsMessage from m old new h) (sym is) (by_code from m old new n taken (m.metadata.response_code == 0) refl)
