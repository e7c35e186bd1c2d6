use Rattle.std.proofs.Common.{◌≡◌, ◌+◌, ◌-◌, ◌++◌, List, ℕ, length, take, drop, ap, ◌∙◌, subst}
use Rattle.std.specs.String.{string_bytes}
use Rattle.std.proofs.lemmas.List.{take_rest}
use Rattle.name_lists.specs.Counts.{TakesLeft}
use Rattle.name_lists.proofs.Taking.{takes_left}
use Rattle.name_lists.proofs.adapter.PlainLines.take.Goals as goal

pub returns : goal.returns
returns c =
    let bytes = string_bytes c.self.inside.text in
    let read = c.self.inside.read in
    let n = c.min-len.result in
    let left : List ℕ = take (length c.as_bytes.result.now - read) (drop read c.as_bytes.result.now) in
    let is : left ≡ drop read bytes = take_rest c.as_bytes.result.now read ∙ ap (drop read) c.as_bytes.ensures.value in
    let taken = takes_left bytes read n left c.copy_from_slice.new.self c.args.buffer.now is c.min-len.ensures c.copy_from_slice.ensures.after in
    subst (λ (old : List ℕ). TakesLeft old (drop (read + n) bytes) n c.args.buffer.now (c.copy_from_slice.new.self ++ drop n c.args.buffer.now)) c.self.view_is taken
