use Rattle.std.proofs.Common.{◌≡◌, List, take, false, length, Some, ap, subst, arith}
use Rattle.std.specs.Prelude.{slice_get}
use Rattle.zone_answers.proofs.lemmas.zones.Kept.{clear_at, taken}
use Rattle.zone_answers.specs.representation.Indexes.{IndexedSets, IsClearAt, IsPlaceOf, IsUnmarked}
use Rattle.zone_answers.specs.representation.KeysBeside.{Entry}
use Rattle.zone_answers.proofs.index.Index.beside_key.Goals as goal

pub returns-clause-before : goal.returns-clause-before
returns-clause-before c = λ place e clear.
    let entries = c.self.inside.entries.items in
    let there : slice_get (take c.place_of-place.result entries) place ≡ Some e = subst (λ (es : List Entry). slice_get (take c.place_of-place.result es) place ≡ Some e) c.as_slice-entries.ensures.value clear.there in
    subst (λ (x : IndexedSets). IsClearAt x.entries x.marks place e) c.self.view_is (record {
      there = taken entries c.place_of-place.result place e there;
      clear = subst (λ ms. slice_get ms place ≡ Some false) c.as_slice-marks.ensures.value clear.clear;
    })

pub returns-clause-unmarked : goal.returns-clause-unmarked
returns-clause-unmarked c = λ clear.
    let entries = c.self.inside.entries.items in
    let marks = c.self.inside.marks.items in
    let place = c.place_of-place.result in
    let is = c.as_slice-entries.ensures.value in
    let marks_are = c.as_slice-marks.ensures.value in
    subst (λ (x : IndexedSets). IsUnmarked x c.args.first.now) c.self.view_is (record {
      place = place;
      is = subst (λ (es : List Entry). IsPlaceOf c.args.first.now es place) is c.place_of-place.ensures.place;
      within = omega (arith, c.place_of-place.ensures.within, ap length is);
      unmarked = subst (λ ms. slice_get ms place ≡ Some false) marks_are (clear_at c.as_slice-marks.result.now place (omega (arith, c.self.invariant.4, ap length marks_are, ap length is, c.place_of-place.ensures.within)) clear);
    })
