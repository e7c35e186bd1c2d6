use Rattle.std.proofs.Common.{◌≡◌, ◌-◌, ◌++◌, ◌∙◌, ℕ, List, ap, arith, drop, get_or, length, length-drop, take}
use Rattle.std.proofs.lemmas.List.{take_all}
use Rattle.server_limits.specs.Truncating.{header, with_truncation}
use Rattle.server_limits.proofs.truncating.truncated.Goals as goal

pub returns : goal.returns
returns c =
    let reply : List ℕ = c.args.reply.now in
    let body : List ℕ = take (length reply - 12) (drop 12 reply) in
    let all : body ≡ drop 12 reply = take_all _ (drop 12 reply) (omega (arith, length-drop {A = ℕ})) in
    let first : ℕ → List ℕ = λ flags. header (get_or reply 0 0) (get_or reply 1 0) flags (get_or reply 3 0) 1 in (
      c.in-len12-up.len_at_least,
      c.in-Some.len,
      rw all at c.in-Some.ensures.question,
      c.in_ok-extend_from_slice-2.ensures.items
          ∙ ap (λ (xs : List ℕ). xs ++ take c.in-Some.len body) (c.in_ok-extend_from_slice.ensures.items ∙ ap (λ (xs : List ℕ). xs ++ first c.with_truncation.result) c.new-bytes.ensures.items)
          ∙ ap (λ (flags : ℕ). first flags ++ take c.in-Some.len body) c.with_truncation.ensures
          ∙ ap (λ (xs : List ℕ). first (with_truncation (get_or reply 2 0)) ++ take c.in-Some.len xs) all,
    )
