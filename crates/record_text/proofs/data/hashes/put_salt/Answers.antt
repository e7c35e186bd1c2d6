use Rattle.std.proofs.Common.{◌≡◌, ◌∙◌, ℕ, List, [], ◌∷◌, ◌++◌, length, sym, append_assoc, arith}
use Rattle.wire_messages.specs.rr.RecordData.{character_string}
use Rattle.record_text.specs.RecordText.IsField.{in_digits}
use Rattle.record_text.specs.RecordText.SpellsOctets.{no_salt, salt}
use Rattle.text_words.proofs.SameBytes.{same, different}
use Rattle.record_text.proofs.data.hashes.put_salt.Goals as goal

joined : (old bytes after all : List ℕ) (len : ℕ) → all ≡ after ++ bytes → after ≡ old ++ len ∷ [] → len ≡ length bytes → all ≡ old ++ (length bytes ∷ bytes)
joined old bytes after all len e f g = rw (e, f, g, append_assoc old (length bytes ∷ []) bytes)

pub returns-then-eq-clause-put : goal.returns-then-eq-clause-put
returns-then-eq-clause-put c = λ origin. (0 ∷ [], c.in_ok-push.ensures.items, in_digits c.if-word.false (no_salt (same c.args.word.now.bytes.now c.as_slice.result.now c.if-eq.ensures ∙ c.as_slice.ensures)))

pub returns-clause-put : goal.returns-clause-put
returns-clause-put c = λ origin. (
  character_string c.in-Ok.salt.items,
  joined c.args.data.now.items c.in-Ok.salt.items c.push-2.new.self.items c.extend_from_slice.new.self.items c.len-2.result (rw c.as_slice-2.ensures.value at c.in_ok-extend_from_slice.ensures.items) c.in_ok-push-2.ensures.items
      (omega (arith, c.len-2.ensures, c.in-Ok.salt.ok.0)),
  in_digits c.if-word.false (salt (λ e. different c.args.word.now.bytes.now c.as_slice.result.now c.if-eq.ensures (e ∙ sym c.as_slice.ensures)) c.in-Ok.ensures.ok (omega (arith, c.if-len-gt255.false, c.len.ensures, c.in-Ok.salt.ok.0))),
)
