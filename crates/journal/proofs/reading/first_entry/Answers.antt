-- The frame is whole.
use Rattle.std.proofs.Common.{◌≡◌, ◌+◌, ◌-◌, ◌≤◌, ℕ, length, get_or, take, drop, ap, arith, length-drop}
use Rattle.std.proofs.lemmas.List.{take_all}
use Rattle.journal.proofs.Recovery.{whole_frame}
use Rattle.journal.proofs.reading.first_entry.Goals as goal

pub returns-clause-some : goal.returns-clause-some
returns-clause-some c =
    let bytes = c.args.bytes.now in
    let len = c.len_at-len.result in
    let long : 5 + c.len_at-len.result ≤ length c.args.bytes.now = grind arith in
    let gate : get_or c.args.bytes.now 0 0 ≡ 1 = grind arith in
    let e : take (5 + c.len_at-len.result - 5) (drop 5 c.args.bytes.now) ≡ take c.len_at-len.result (drop 5 c.args.bytes.now) = ap (λ (k : ℕ). take k (drop 5 c.args.bytes.now)) (omega arith) in
    let b : take (length c.args.bytes.now - (5 + c.len_at-len.result)) (drop (5 + c.len_at-len.result) c.args.bytes.now) ≡ drop (5 + c.len_at-len.result) c.args.bytes.now =
    take_all _ _ (omega (arith, length-drop (5 + c.len_at-len.result) c.args.bytes.now)) in
    let whole = whole_frame c.args.bytes.now _ _ c.len_at-len.result long gate c.len_at-len.ensures.value (λ i. (c.type_inv.bytes i).fits) e b in
    (omega (arith, whole.0, c.len_at-len.ensures.range), whole.1)
