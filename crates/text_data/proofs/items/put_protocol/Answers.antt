use Rattle.std.proofs.Common.{◌≡◌, ℕ, List, [], ◌∷◌, ◌++◌, length, append_assoc, arith}
use Rattle.wire_messages.specs.rr.RecordData.{character_string}
use Rattle.text_data.specs.ServiceText.IsItem.{protocol}
use Rattle.text_data.proofs.items.put_protocol.Goals as goal

joined : (old bytes after all : List ℕ) (len : ℕ) → all ≡ after ++ bytes → after ≡ old ++ len ∷ [] → len ≡ length bytes → all ≡ old ++ (length bytes ∷ bytes)
joined old bytes after all len e f g = rw (e, f, g, append_assoc old (length bytes ∷ []) bytes)

pub returns-clause-put : goal.returns-clause-put
returns-clause-put c = (
  character_string c.in_ok-bytes.bytes.items,
  joined c.args.octets.now.items c.in_ok-bytes.bytes.items c.push.new.self.items c.extend_from_slice.new.self.items c.len-len.result (rw c.as_slice.ensures.value at c.in_ok-extend_from_slice.ensures.items) c.in_ok-push.ensures.items
      (omega (arith, c.len-len.ensures, c.in_ok-bytes.bytes.ok.0)),
  protocol c.in_ok-bytes.ensures.bytes (omega (arith, c.if-len-eq0.false, c.len-len.ensures, c.in_ok-bytes.bytes.ok.0)) (omega (arith, c.if-len-gt255.false, c.len-len.ensures, c.in_ok-bytes.bytes.ok.0)),
)
