use Rattle.std.proofs.Common.{◌≡◌, ◌+◌, ◌<◌, ◌≤◌, ◌∙◌, ℕ, List, ap, arith, length, rules, subst}
use Rattle.std.specs.Option.{option_copied}
use Rattle.hickory_base.specs.zone_store.ZoneSets.{sets_of}
use Rattle.wire_names.specs.rr.domain.DomainName.{AreLabels, wire_form}
use Rattle.wire_names.proofs.lemmas.rr.domain.WireForm.{offset-size, wire_short}
use Rattle.zone_answers.proofs.lemmas.zones.CutsAbove.{Climbs, climb, climbs, in_the_end, rest_name, rest_wire}
use Rattle.zone_answers.specs.Zones.{Zone}
use Rattle.zone_answers.proofs.find.climb_to_cut.Goals as goal

pub slice_bounds-servers_or-count : goal.slice_bounds-servers_or-count
slice_bounds-servers_or-count c =
    let below : c.loop-place.place < length c.as_wire-wire.result.now = omega arith in
    let bytes : c.as_wire-wire.result.now ≡ wire_form c.args.name.now.labels = c.as_wire-wire.ensures.labels ∙ ap (λ d. wire_form d.labels) c.as_name.ensures.name in
    (climbs c.args.name.now.labels c.as_wire-wire.result.now c.loop-place.invariant.0 c.loop-place.place c.from.result bytes c.loop-place.invariant.1 below c.from.ensures).fits

pub slice_bounds-servers_or-start : goal.slice_bounds-servers_or-start
slice_bounds-servers_or-start c =
    let below : c.loop-place.place < length c.as_wire-wire.result.now = omega arith in
    let bytes : c.as_wire-wire.result.now ≡ wire_form c.args.name.now.labels = c.as_wire-wire.ensures.labels ∙ ap (λ d. wire_form d.labels) c.as_name.ensures.name in
    let fits : c.loop-place.place + (1 + c.from.result) ≤ length c.as_wire-wire.result.now =
    (climbs c.args.name.now.labels c.as_wire-wire.result.now c.loop-place.invariant.0 c.loop-place.place c.from.result bytes c.loop-place.invariant.1 below c.from.ensures).fits in
    search rules

pub servers_or-requires : goal.servers_or-requires
servers_or-requires c =
    let below : c.loop-place.place < length c.as_wire-wire.result.now = omega arith in
    let ls : List (List ℕ) = c.args.name.now.labels in
    let bytes : c.as_wire-wire.result.now ≡ wire_form ls = c.as_wire-wire.ensures.labels ∙ ap (λ d. wire_form d.labels) c.as_name.ensures.name in
    let s = climbs ls c.as_wire-wire.result.now c.loop-place.invariant.0 c.loop-place.place c.from.result bytes c.loop-place.invariant.1 below c.from.ensures in
    rest_wire ls (c.loop-place.invariant.0 + 1) _ s.rest (subst (λ d. AreLabels d.labels) c.as_name.ensures.name c.as_wire-wire.ensures.bounds)

pub loop-place-preserved : goal.loop-place-preserved
loop-place-preserved c =
    let below : c.loop-place.place < length c.as_wire-wire.result.now = omega arith in
    let i = c.loop-place.invariant in
    let name = c.args.name.now in
    let zone : Zone = record { origin = c.args.zone.origin.now; sets = sets_of c.args.zone.sets.now } in
    let bytes : c.as_wire-wire.result.now ≡ wire_form name.labels = c.as_wire-wire.ensures.labels ∙ ap (λ d. wire_form d.labels) c.as_name.ensures.name in
    let top : c.as_wire-apex.result.now ≡ wire_form zone.origin.labels = c.as_wire-apex.ensures.labels ∙ ap (λ d. wire_form d.labels) c.as_name-2.ensures.name in
    let s : Climbs name.labels c.as_wire-wire.result.now i.0 c.loop-place.place c.from.result = climbs name.labels c.as_wire-wire.result.now i.0 c.loop-place.place c.from.result bytes i.1 below c.from.ensures in (
      i.0 + 1,
      s.next,
      climb zone name c.args.zone.has c.requires.features c.requires.within (subst (λ d. AreLabels d.labels) c.as_name.ensures.name c.as_wire-wire.ensures.bounds) i.0 (length c.as_wire-apex.result.now) _ _ (option_copied c.loop-place.highest)
          (option_copied c.in_ok-highest.highest) (ap length top) s.rest (rest_name name (i.0 + 1) _ s.rest c.as_name.ensures.lower c.requires.qualified) c.in_ok-highest.ensures i.2,
    )

pub returns : goal.returns
returns c =
    let i = c.loop-place.invariant in
    let name = c.args.name.now in
    let zone : Zone = record { origin = c.args.zone.origin.now; sets = sets_of c.args.zone.sets.now } in
    let bytes : c.as_wire-wire.result.now ≡ wire_form name.labels = c.as_wire-wire.ensures.labels ∙ ap (λ d. wire_form d.labels) c.as_name.ensures.name in
    let top : c.as_wire-apex.result.now ≡ wire_form zone.origin.labels = c.as_wire-apex.ensures.labels ∙ ap (λ d. wire_form d.labels) c.as_name-2.ensures.name in
    in_the_end zone name i.0 (option_copied c.loop-place.highest) (omega (arith, ap length bytes, ap length top, i.1, offset-size name.labels i.0, c.loop-place-test.false)) i.2

pub overflow_add-place : goal.overflow_add-place
overflow_add-place c =
    let ls : List (List ℕ) = c.args.name.now.labels in
    let os : List (List ℕ) = c.args.zone.origin.now.labels in
    let top : c.as_wire-apex.result.now ≡ wire_form os = c.as_wire-apex.ensures.labels ∙ ap (λ d. wire_form d.labels) c.as_name-2.ensures.name in
    omega (
      arith,
      ap length top,
      c.loop-place.invariant.1,
      offset-size ls c.loop-place.invariant.0,
      wire_short ls (subst (λ d. AreLabels d.labels) c.as_name.ensures.name c.as_wire-wire.ensures.bounds),
      wire_short os (subst (λ d. AreLabels d.labels) c.as_name-2.ensures.name c.as_wire-apex.ensures.bounds),
    )
