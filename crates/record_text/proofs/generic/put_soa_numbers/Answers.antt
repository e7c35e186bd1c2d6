use Rattle.std.proofs.Common.{◌≡◌, ℕ, List, ◌++◌, append_assoc}
use Rattle.std.specs.Int.{w32, to_be_bytes}
use Rattle.wire_messages.specs.declared.rr.rdata.SOA.{SOA}
use Rattle.record_text.proofs.generic.put_soa_numbers.Goals as goal

five : (old p q r s t a b c d e : List ℕ) → p ≡ old ++ a → q ≡ p ++ b → r ≡ q ++ c → s ≡ r ++ d → t ≡ s ++ e → t ≡ old ++ ((((a ++ b) ++ c) ++ d) ++ e)
five old p q r s t a b c d e one two three four last = rw (last, four, three, two, one) (simp append_assoc)

pub returns : goal.returns
returns c =
    let soa : SOA = c.args.soa.now in
    five c.args.bytes.now.items c.put_u32.new.bytes.items c.put_u32-2.new.bytes.items c.put_u32-3.new.bytes.items c.put_u32-4.new.bytes.items c.put_u32-5.new.bytes.items (to_be_bytes w32 soa.serial) (to_be_bytes w32 soa.refresh)
    (to_be_bytes w32 soa.retry) (to_be_bytes w32 soa.expire) (to_be_bytes w32 soa.minimum) c.in_ok-put_u32.ensures c.in_ok-put_u32-2.ensures c.in_ok-put_u32-3.ensures c.in_ok-put_u32-4.ensures c.in_ok-put_u32-5.ensures
