use Rattle.std.proofs.Common.{◌≡◌, ◌+◌, ◌++◌, ◌∷◌, List, [], drop, length, refl, sym, subst, ap, ◌∙◌}
use Rattle.std.specs.Prelude.{Some, slice_get}
use Rattle.std.proofs.lemmas.Option.{slice_get_read}
use Rattle.hickory_base.specs.zone_store.ZoneSets.{shared_sets}
use Rattle.zone_answers.specs.representation.Indexes.{AreWordsOf, IsWordOf}
use Rattle.zone_answers.specs.representation.KeysBeside.{Entry}
use Rattle.zone_answers.specs.representation.TopCuts.{IsPassedOver, IsPut}
use Rattle.zone_answers.specs.Zones.{Zone}
use Rattle.zone_answers.proofs.lemmas.zones.Indexed.{in_turn, one_more}
use Rattle.zone_answers.proofs.lemmas.zones.TopCutsMade.{AreTopSoFar, own_set, owner_at, passed_over, pushed}
use Rattle.zone_answers.proofs.cuts.Cuts.new.Goals as goal
use Rattle.zone_answers.proofs.cuts.Cuts.new.Goals.{then-is_top_cut+in_ok-push+in_ok-clone+in_ok-clone-2+in_ok-push-2, else-is_top_cut}

pub word_of-requires : goal.word_of-requires
word_of-requires c =
    let sets = c.args.sets.now in
    let e : Entry = c.loop-key-item.result in
    (owner_at c.args.origin.now sets c.loop-key.key-index e c.requires.owners (slice_get_read sets (length sets) c.loop-key.key-index e refl c.loop-key-test.true c.loop-key-item.is)).within

pub loop-key-preserved : goal.loop-key-preserved
loop-key-preserved c =
    let origin = c.args.origin.now in
    let sets = c.args.sets.now in
    let zone : Zone = record { origin = origin; sets = shared_sets sets } in
    let cuts = c.loop-key.entries.items in
    let words = c.loop-key.words.items in
    let i = c.loop-key.key-index in
    let e : Entry = c.loop-key-item.result in
    let rest = drop (i + 1) sets in
    let at : slice_get sets i ≡ Some e = slice_get_read sets (length sets) i e refl c.loop-key-test.true c.loop-key-item.is in
    let turn : drop i sets ≡ e ∷ rest = in_turn sets i e c.loop-key-test.true c.loop-key-item.is in
    let so_far : AreTopSoFar zone cuts (e ∷ rest) = subst (AreTopSoFar zone cuts) turn c.loop-key.invariant.tops in
    elim c.if-is_top_cut.branch [
      | then-is_top_cut+in_ok-push+in_ok-clone+in_ok-clone-2+in_ok-push-2 w ↦
          let kept : Entry = (w.in_ok-clone.field-0, w.in_ok-clone-2.field-0) in
          let key : kept.0 ≡ e.0 = w.in_ok-clone.ensures.cases in
          let value : kept.1.value ≡ e.1.value = w.in_ok-clone-2.ensures.cases in
          let put : IsPut origin cuts e.0 = subst (λ (es : List Entry). IsPut origin es e.0) c.as_slice.ensures.value (c.is_top_cut.ensures.cut w.if-is_top_cut.true) in
          let entries : c.if-is_top_cut.entries.items ≡ cuts ++ kept ∷ [] = ap (λ v. v.items) w.entries-is ∙ w.in_ok-push-2.ensures.items in
          let numbers : c.if-is_top_cut.words.items ≡ words ++ w.word_of.result ∷ [] = ap (λ v. v.items) w.words-is ∙ w.in_ok-push.ensures.items in
          let word : IsWordOf origin kept.0 w.word_of.result = subst (λ k. IsWordOf origin k w.word_of.result) (sym key) w.word_of.ensures in
          record {
            tops = subst (λ (es : List Entry). AreTopSoFar zone es rest) (sym entries)
                (pushed zone cuts rest e kept key value (owner_at origin sets i e c.requires.owners at) (own_set sets i e c.requires.ordered at) put so_far);
            numbered = subst (λ (es : List Entry). AreWordsOf origin es c.if-is_top_cut.words.items) (sym entries)
                (subst (AreWordsOf origin (cuts ++ kept ∷ [])) (sym numbers) (one_more origin cuts words kept w.word_of.result c.loop-key.invariant.numbered word));
          }
      | else-is_top_cut w ↦
          let over : IsPassedOver origin cuts e.0 = subst (λ (es : List Entry). IsPassedOver origin es e.0) c.as_slice.ensures.value (c.is_top_cut.ensures.other w.if-is_top_cut.false) in
          let entries : c.if-is_top_cut.entries.items ≡ cuts = ap (λ v. v.items) w.entries-is in
          let numbers : c.if-is_top_cut.words.items ≡ words = ap (λ v. v.items) w.words-is in
          record {
            tops = subst (λ (es : List Entry). AreTopSoFar zone es rest) (sym entries) (passed_over zone cuts rest e over so_far);
            numbered = subst (λ (es : List Entry). AreWordsOf origin es c.if-is_top_cut.words.items) (sym entries) (subst (AreWordsOf origin cuts) (sym numbers) c.loop-key.invariant.numbered);
          }
    ]
