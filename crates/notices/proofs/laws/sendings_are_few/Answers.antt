-- How often it was sent is counted, and it is not sent a seventh time.
use Rattle.std.proofs.Common.{◌≡◌, ◌<◌, ◌≤◌, ℕ, arith, nat_le, nat_lt}
use Rattle.std.proofs.lemmas.Bool.{and_parts, ltb-true}
use Rattle.notices.specs.Schedule.{Sendings, most_sent}
use Rattle.notices.specs.Schedule.Sendings.{more, none}
use Rattle.notices.specs.declared.notice.Notice.{Notice}
use Rattle.notices.proofs.laws.sendings_are_few.Goals as goal

counted : (n : Notice) → n.sent ≡ 0 → (count : ℕ) (m : Notice) → Sendings n count m → (m.sent ≡ count) × (count ≤ most_sent)
counted n start _ _ none = (start, omega arith)
counted n start _ _ (more {count = count} {m = m} now id before due) =
    let h = counted n start count m before in
    let low : m.sent < most_sent = ltb-true m.sent most_sent (and_parts (nat_lt m.sent most_sent) (nat_le m.next now) due).0 in
    (omega (arith, h.0), omega (arith, h.0, low))

pub returns : goal.returns
returns c = λ zone ttl soa now target count m sendings. (counted _ (omega arith) count m sendings).1
