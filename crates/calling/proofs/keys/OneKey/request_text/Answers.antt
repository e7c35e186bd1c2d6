use Rattle.std.proofs.Common.{◌-◌, ◌++◌, length, slice_range, ap, ◌∙◌, List, ℕ}
use Rattle.calling.specs.Signatures.{fields, unsigned, variables}
use Rattle.calling.proofs.keys.OneKey.request_text.Goals as goal

pub returns : goal.returns
returns c =
    let message = c.args.message.now in
    let tail = variables c.args.self.now.name c.args.self.now.algorithm (slice_range (fields message) 0 8) (slice_range (fields message) 44 48) in
    let place = ap (λ (len : ℕ). unsigned message (length message - len)) c.record_len.ensures.len in
    c.in_ok-put_variables.ensures ∙ ap (λ (front : List ℕ). front ++ tail) (c.in_ok-text.ensures ∙ place)
