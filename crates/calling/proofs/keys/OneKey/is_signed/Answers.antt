use Rattle.std.proofs.Common.{◌≡◌, ◌∙◌, List, ℕ, ap, nat_eq, slice_range}
use Rattle.calling.specs.Hmac.{differences, hmac}
use Rattle.calling.specs.Signatures.{fields, request_text}
use Rattle.calling.proofs.keys.OneKey.is_signed.Goals as goal

pub returns : goal.returns
returns c =
    let key = c.args.self.now in
    let message = c.args.message.now in
    let text : c.deref.result.now ≡ request_text key.name key.algorithm message = c.deref.ensures.value ∙ c.in_ok-request_text.ensures in
    let own : c.hmac-own.result ≡ hmac key.block (request_text key.name key.algorithm message) = c.hmac-own.ensures ∙ ap (λ (text : List ℕ). hmac key.block text) text in
    let bits : c.differences.result ≡ differences c.hmac-own.result (slice_range (fields message) 10 42) 32 = c.differences.ensures in
    let same = ap (λ (own : List ℕ). differences own (slice_range (fields message) 10 42) 32) own in
    ap (λ (bits : ℕ). nat_eq bits 0) (bits ∙ same)
