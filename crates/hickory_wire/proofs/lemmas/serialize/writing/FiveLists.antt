-- The five lists of a reply, written one behind the other.
use Rattle.std.proofs.Common.{◌≡◌, ℕ, List, [], ◌∷◌, ◌++◌, map, Bool, false, Option, None, refl, sym, ap, ◌∙◌}
use Rattle.std.proofs.lemmas.List.{map-append}
use Rattle.std.specs.Prelude.{◌||◌}
use Rattle.std.specs.Borrow.{Bor}
use Rattle.std.specs.Iterator.Runs.{SomeRun, EachRunFrom, IsChainRun}
use Rattle.std.specs.Iterator.Adapters.{chain_steps}
use Rattle.std.specs.declared.iter.Chain.{Chain}
use Rattle.wire_writing.specs.representation.Endings.{Front, GivesRecords, ListFollows, seen_front}
use Rattle.wire_writing.specs.serialize.writing.Writing.{ListsWritten}
use Rattle.wire_writing.specs.serialize.writing.Writing.ListsWritten.{none_left}
use Rattle.wire_messages.specs.declared.rr.rdata.RData.{RData}
use Rattle.wire_messages.specs.declared.rr.record.Record.{Record}
use Rattle.wire_writing.proofs.lemmas.serialize.writing.Chained.{chained}

-- five lists that follow one another
pub five_lists : (limit : ℕ) (b0 b1 b2 b3 b4 b5 : List ℕ) (l1 l2 l3 l4 l5 : List (Record RData)) (f1 f2 f3 f4 f5 : Front) → ListFollows limit None b0 l1 b1 f1 → ListFollows limit f1.fault b1 l2 b2 f2 → ListFollows limit f2.fault b2 l3 b3 f3 → ListFollows limit f3.fault b3 l4 b4 f4 → ListFollows limit f4.fault b4 l5 b5 f5
    → ListsWritten limit (l1 ∷ l2 ∷ l3 ∷ l4 ∷ l5 ∷ []) b0 b5 (seen_front f1 ∷ seen_front f2 ∷ seen_front f3 ∷ seen_front f4 ∷ seen_front f5 ∷ []) f5.fault
five_lists limit b0 b1 b2 b3 b4 b5 l1 l2 l3 l4 l5 f1 f2 f3 f4 f5 w1 w2 w3 w4 w5 =
    let s1 = w1 [] b0 [] none_left in
    let s2 = w2 (l1 ∷ []) b0 (seen_front f1 ∷ []) s1 in
    let s3 = w3 (l1 ∷ l2 ∷ []) b0 (seen_front f1 ∷ seen_front f2 ∷ []) s2 in
    let s4 = w4 (l1 ∷ l2 ∷ l3 ∷ []) b0 (seen_front f1 ∷ seen_front f2 ∷ seen_front f3 ∷ []) s3 in
    w5 (l1 ∷ l2 ∷ l3 ∷ l4 ∷ []) b0 (seen_front f1 ∷ seen_front f2 ∷ seen_front f3 ∷ seen_front f4 ∷ []) s4

-- what is remembered of five lists, one behind the other
pub five_cuts : (a b c d e s1 s2 s3 s4 s5 : Bool) → s1 ≡ (false || a) → s2 ≡ (s1 || b) → s3 ≡ (s2 || c) → s4 ≡ (s3 || d) → s5 ≡ (s4 || e) → s5 ≡ (a || b || c || d || e)
five_cuts a b c d e s1 s2 s3 s4 s5 e1 e2 e3 e4 e5 = e5 ∙ ap (λ s. s || e) (e4 ∙ ap (λ s. s || d) (e3 ∙ ap (λ s. s || c) (e2 ∙ ap (λ s. s || b) e1)))

module _ {S T : Type 0} (steps : S → Option (Bor (Record RData)) → S → Type 0) (others : T → Option (Bor (Record RData)) → T → Type 0) where
  -- chained iterators give the lists of both
  pub chain_gives : (z : Chain S T) (a : S) (b : T) (all : List (Record RData)) → EachRunFrom (chain_steps steps others) z (λ p. SomeRun steps a (λ u. SomeRun others b (λ v. IsChainRun p u v))) → GivesRecords (chain_steps steps others) z all
      → (xs ys : List (Record RData)) × GivesRecords steps a xs × GivesRecords others b ys × (all ≡ xs ++ ys)
  chain_gives z a b all runs h =
      let w = chained steps others z a b h.0 runs h.1 in
      let now : Bor (Record RData) → Record RData = λ x. x.now in
      (map now w.0, map now w.1, (w.0, w.2, refl), (w.1, w.3, refl), sym h.2 ∙ ap (map now) w.4 ∙ map-append now w.0 w.1)
