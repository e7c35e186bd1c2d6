-- One difference more.
use Rattle.std.proofs.Common.{◌≡◌, ◌∙◌, ◌∷◌, ◌++◌, ◌+◌, List, arith, ap, sym, drop, append_assoc}
use Rattle.std.specs.List.{flat_map}
use Rattle.std.proofs.lemmas.List.{append-nil, drop_all, drop_more}
use Rattle.zone_differences.specs.Sequences.{sequence}
use Rattle.zone_differences.specs.declared.difference.Difference.{Difference}
use Rattle.zone_differences.proofs.difference.push_sequences.Goals as goal

pub loop-difference-preserved : goal.loop-difference-preserved
loop-difference-preserved c =
    let ds = c.args.differences.now in
    let i = c.loop-difference.difference-index in
    let d = c.difference-item.result in
    let all = c.loop-difference.all.items in
    let left : drop i ds ≡ d ∷ drop (i + 1) ds = drop_more ds i d (omega arith) ∙ ap (λ (x : Difference). x ∷ drop (i + 1) ds) (sym c.difference-item.is) in
    ap (λ l. l ++ flat_map sequence (drop (i + 1) ds)) c.in_ok-push_sequence.ensures
    ∙ append_assoc all (sequence d) (flat_map sequence (drop (i + 1) ds))
    ∙ sym (ap (λ (us : List Difference). all ++ flat_map sequence us) left)
    ∙ c.loop-difference.invariant

pub returns : goal.returns
returns c =
    let all = c.loop-difference.all.items in
    sym (append-nil all)
    ∙ sym (ap (λ (us : List Difference). all ++ flat_map sequence us) (drop_all c.loop-difference.difference-index c.args.differences.now (omega arith)))
    ∙ c.loop-difference.invariant
