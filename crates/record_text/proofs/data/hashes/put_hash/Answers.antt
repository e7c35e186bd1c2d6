use Rattle.std.proofs.Common.{◌≡◌, ◌≤◌, Option, ℕ, List, [], ◌∷◌, ◌++◌, length, append_assoc, arith}
use Rattle.std.proofs.lemmas.Result.{err_from_is_err_and}
use Rattle.wire_messages.specs.rr.RecordData.{character_string}
use Rattle.record_text.specs.RecordText.IsField.{in_digits}
use Rattle.record_text.specs.RecordText.SpellsOctets.{hash}
use Rattle.wire_names.specs.rr.domain.DomainName.{DomainName}
use Rattle.text_words.specs.declared.words.Word.{Word}
use Rattle.record_text.specs.declared.data.field.Field.TheVariants as field
use Rattle.record_text.specs.Groups.{SpellsBase32}
use Rattle.record_text.specs.RecordText.{HasNone, IsField}
use Rattle.record_text.proofs.Digits.{base32_len}
use Rattle.record_text.proofs.NoField.{no_hash}
use Rattle.record_text.proofs.data.hashes.put_hash.Goals as goal

joined : (old bytes after all : List ℕ) (len : ℕ) → all ≡ after ++ bytes → after ≡ old ++ len ∷ [] → len ≡ length bytes → all ≡ old ++ (length bytes ∷ bytes)
joined old bytes after all len e f g = rw (e, f, g, append_assoc old (length bytes ∷ []) bytes)

pub returns-clause-put : goal.returns-clause-put
returns-clause-put c = λ origin. (
  character_string c.in_ok-hash.hash.items,
  joined c.args.data.now.items c.in_ok-hash.hash.items c.push.new.self.items c.extend_from_slice.new.self.items c.len-2.result (rw c.as_slice.ensures.value at c.in_ok-extend_from_slice.ensures.items) c.in_ok-push.ensures.items
      (omega (arith, c.len-2.ensures, c.in_ok-hash.hash.ok.0)),
  in_digits c.if-word.false (hash c.in_ok-hash.ensures.spelled (omega (arith, c.if-len-gt255.false, c.len.ensures, c.in_ok-hash.hash.ok.0))),
)

pub returns-in_err-hash-clause-refused : goal.returns-in_err-hash-clause-refused
returns-in_err-hash-clause-refused c =
    let p = err_from_is_err_and c.from_residual.result c.from_residual.ensures.1 in
    rw (p.1, p.2) (λ other. no_hash c.args.word.now (λ own is. c.in_err-hash.ensures.refused other own is.1))

-- octets that are too many for their length
too_long : (word : Word) (octets : List ℕ) → SpellsBase32 word.bytes.now octets → 256 ≤ length octets → (origin : Option DomainName) → HasNone (IsField origin field.Hash word)
too_long word octets is long = no_hash word (λ others other. absurd (omega (arith, base32_len is, base32_len other.1, long, other.2)))

pub returns-then-len-gt255-clause-refused : goal.returns-then-len-gt255-clause-refused
returns-then-len-gt255-clause-refused c = λ other. too_long c.args.word.now c.in_ok-hash.hash.items c.in_ok-hash.ensures.spelled (omega (arith, c.if-len-gt255.true, c.len.ensures, c.in_ok-hash.hash.ok.0))
