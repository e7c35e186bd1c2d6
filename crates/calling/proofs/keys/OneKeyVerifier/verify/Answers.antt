use Rattle.std.proofs.Common.{rules, ◌≡◌, ◌∙◌, ◌+◌, ap, sym, length, nat_lt, cond, Bool, true, false, Some, None, ℕ}
use Rattle.std.specs.declared.ops.Range.{Range}
use Rattle.calling.specs.Signatures.{fields, is_signed, record_len, times_of}
use Rattle.calling.proofs.keys.OneKeyVerifier.verify.Goals as goal

pub returns-in-Ok-true-clause-good : goal.returns-in-Ok-true-clause-good
returns-in-Ok-true-clause-good c =
    let key = c.args.self.now in
    let message = c.args.message.now in
    let good : is_signed key.name key.algorithm key.block message ≡ true = search rules in
    let long : nat_lt (length message) (record_len key.name key.algorithm + 12) ≡ false = search rules in
    let times : times_of (fields message) ≡ c.times_of.result = sym c.times_of.ensures in
    ap (λ (short : Bool). cond short None (cond (is_signed key.name key.algorithm key.block message) (Some (times_of (fields message))) None)) long
    ∙ ap (λ (good : Bool). cond good (Some (times_of (fields message))) None) good
    ∙ ap (λ (times : Range ℕ). Some times) times
