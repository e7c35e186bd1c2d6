use Rattle.std.proofs.Common.{◌≡◌, ℕ, List, [], ◌∷◌, ◌++◌, take, sym, ap, arith, append_assoc}
use Rattle.text_words.proofs.escapes.put_string.Goals as goal

joined : (old bytes after all : List ℕ) (len : ℕ) → all ≡ after ++ bytes → after ≡ old ++ len ∷ [] → all ≡ old ++ (len ∷ bytes)
joined old bytes after all len e f = rw (e, f, append_assoc old (len ∷ []) bytes)

pub returns-clause-put : goal.returns-clause-put
returns-clause-put c =
    let bytes : List ℕ = take c.in_ok-len.len c.read_string.new.string in (
      c.in_ok-len.len ∷ bytes,
      joined c.args.bytes.now.items bytes c.push.new.self.items c.extend_from_slice.new.self.items c.in_ok-len.len c.in_ok-extend_from_slice.ensures.items c.in_ok-push.ensures.items,
      record {
        bytes = bytes;
        spelled = c.in_ok-len.ensures.spelled;
        short = omega (arith, c.in_ok-len.ensures.sized, c.in_ok-len.ensures.short);
        counted = ap (λ (n : ℕ). n ∷ bytes) (sym c.in_ok-len.ensures.sized);
      },
    )
