use Rattle.std.proofs.Common.{◌≡◌, ◌-◌, false, List, length, refl, ◌∙◌, sym, subst, arith}
use Rattle.std.specs.Prelude.{Some, slice_get}
use Rattle.std.proofs.lemmas.Bool.{false≢true}
use Rattle.std.proofs.lemmas.Option.{slice_get_read}
use Rattle.zone_answers.specs.representation.FoundRecords.{CutAbove}
use Rattle.zone_answers.specs.representation.Indexes.{IsPlaceOf}
use Rattle.zone_answers.specs.representation.KeysBeside.{Entry}
use Rattle.zone_answers.proofs.lemmas.zones.Indexed.{word_there}
use Rattle.zone_answers.proofs.lemmas.zones.TopCuts.{ends_there, none_above, none_before}
use Rattle.zone_answers.proofs.cuts.Cuts.last_above.Goals as goal

pub returns-then-place-eq0-clause-cut : goal.returns-then-place-eq0-clause-cut
returns-then-place-eq0-clause-cut c =
    λ zone are.
    let cuts = c.args.self.now.entries.items in
    let parts : IsPlaceOf c.args.first.now cuts c.place_of-place.result = subst (λ (es : List Entry). IsPlaceOf c.args.first.now es c.place_of-place.result) c.as_slice-entries.ensures.value c.place_of-place.ensures.place in
    none_before zone c.args.first.now cuts c.place_of-place.result c.requires.least c.requires.qualified are.tops c.requires.searched.ordered parts c.if-place-eq0.true

pub returns-then-zone_of-clause-cut : goal.returns-then-zone_of-clause-cut
returns-then-zone_of-clause-cut c =
    λ zone are.
    let cuts = c.args.self.now.entries.items in
    let place = c.place_of-place.result in
    let e : Entry = c.index-entries-place.result in
    let parts : IsPlaceOf c.args.first.now cuts place = subst (λ (es : List Entry). IsPlaceOf c.args.first.now es place) c.as_slice-entries.ensures.value c.place_of-place.ensures.place in
    let at : slice_get cuts (place - 1) ≡ Some e = subst (λ (es : List Entry). slice_get es (place - 1) ≡ Some e) c.as_slice-entries.ensures.value
    (slice_get_read c.as_slice-entries.result.now (length c.as_slice-entries.result.now) (place - 1) e refl (omega arith) c.index-entries-place.is) in
    let lower = word_there c.args.origin.now cuts c.args.self.now.words.items (place - 1) e c.requires.searched.numbered at in
    subst (λ rs. CutAbove zone c.args.first.now.name (Some rs)) (sym (c.records.ensures.value ∙ c.deref.ensures))
    (ends_there zone c.args.first.now cuts place c.requires.least c.requires.qualified are.tops c.requires.searched.ordered parts e at (omega arith) (c.as_name.ensures.lower) lower.lower (c.zone_of.ensures.0 c.if-zone_of.true))

pub returns-else-zone_of-clause-cut : goal.returns-else-zone_of-clause-cut
returns-else-zone_of-clause-cut c =
    λ zone are.
    let cuts = c.args.self.now.entries.items in
    let place = c.place_of-place.result in
    let e : Entry = c.index-entries-place.result in
    let parts : IsPlaceOf c.args.first.now cuts place = subst (λ (es : List Entry). IsPlaceOf c.args.first.now es place) c.as_slice-entries.ensures.value c.place_of-place.ensures.place in
    let at : slice_get cuts (place - 1) ≡ Some e = subst (λ (es : List Entry). slice_get es (place - 1) ≡ Some e) c.as_slice-entries.ensures.value
    (slice_get_read c.as_slice-entries.result.now (length c.as_slice-entries.result.now) (place - 1) e refl (omega arith) c.index-entries-place.is) in
    let other : c.zone_of.result ≡ false = c.if-zone_of.false in
    none_above zone c.args.first.now cuts place c.requires.least c.requires.qualified are.tops c.requires.searched.ordered parts e at (omega arith) (λ h. false≢true (sym other ∙ c.zone_of.ensures.1 h))

pub returns-then-zone_of-clause-at : goal.returns-then-zone_of-clause-at
returns-then-zone_of-clause-at c =
    let place = c.place_of-place.result in
    let e : Entry = c.index-entries-place.result in
    record {
      entry = e;
      is = subst (λ (es : List Entry). slice_get es (place - 1) ≡ Some e) c.as_slice-entries.ensures.value
          (slice_get_read c.as_slice-entries.result.now (length c.as_slice-entries.result.now) (place - 1) e refl (omega arith) c.index-entries-place.is);
      servers = sym (c.records.ensures.value ∙ c.deref.ensures);
    }
