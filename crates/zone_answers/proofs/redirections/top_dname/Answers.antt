use Rattle.std.proofs.Common.{◌≡◌, ◌+◌, ◌≤◌, ◌<◌, ◌∙◌, false, true, drop, length, sym, ap, subst, arith, length-drop}
use Rattle.std.proofs.lemmas.Bool.{false≢true}
use Rattle.std.specs.Option.{option_copied}
use Rattle.hickory_base.specs.zone_store.ZoneSets.{sets_of}
use Rattle.wire_names.specs.rr.domain.NameOrder.{Encloses}
use Rattle.zone_answers.specs.representation.FoundRecords.{TopDname, higher}
use Rattle.zone_answers.specs.Zones.{Zone, ancestor, rrset}
use Rattle.zone_answers.proofs.lemmas.names.Enclosers.{ancestor-ancestor}
use Rattle.zone_answers.proofs.lemmas.zones.Cuts.{not_empty, parent_within}
use Rattle.zone_answers.proofs.lemmas.zones.Redirected.{TopSoFar, arrive, climb}
use Rattle.zone_answers.proofs.redirections.top_dname.Goals as goal

pub loop-key-smaller : goal.loop-key-smaller
loop-key-smaller c =
    let e : c.zone_of.result ≡ false = c.loop-key-test.true in
    let apart : ¬ (Encloses c.loop-key.key.name.labels c.args.zone.origin.now.labels) = λ x. false≢true (sym e ∙ c.zone_of.ensures.1 x) in
    let filled : 0 < length c.loop-key.key.name.labels = not_empty c.loop-key.key.name.labels c.args.zone.origin.now.labels apart in
    let size : length c.remove_first_label.new.self.labels ≡ length (drop 1 c.loop-key.key.name.labels) = ap (λ d. length d.labels) c.remove_first_label.ensures in
    let less : length c.remove_first_label.new.self.labels < length c.loop-key.key.name.labels = omega (arith, filled, size, length-drop 1 c.loop-key.key.name.labels) in
    less

pub loop-key-preserved : goal.loop-key-preserved
loop-key-preserved c =
    let i = c.loop-key.invariant in
    let zone : Zone = record { origin = c.args.zone.origin.now; sets = sets_of c.args.zone.sets.now } in
    let here = c.loop-key.key.name in
    let e : c.zone_of.result ≡ false = c.loop-key-test.true in
    let apart : ¬ (Encloses here.labels zone.origin.labels) = λ x. false≢true (sym e ∙ c.zone_of.ensures.1 x) in
    let filled : 0 < length here.labels = not_empty here.labels zone.origin.labels apart in
    let off : c.remove_first_label.new.self ≡ ancestor c.args.name (i.0 + 1) = c.remove_first_label.ensures ∙ ap (λ d. ancestor d 1) i.1 ∙ ancestor-ancestor c.args.name 1 i.0 in
    let real : i.0 + 1 ≤ length c.args.name.labels = omega (arith, filled, ap (λ d. length d.labels) i.1, length-drop i.0 c.args.name.labels) in
    let inside : Encloses zone.origin.labels c.remove_first_label.new.self.labels = subst (λ d. Encloses zone.origin.labels d.labels) (sym c.remove_first_label.ensures) (parent_within zone.origin.labels here.labels i.3 apart) in
    let next : TopSoFar zone c.args.name (i.0 + 1) (higher (length here.labels) c.is_some-is_cut.result c.set_under-in-loop-key.result c.loop-key.highest) =
    climb zone c.args.name i.0 here c.set_under.result c.set_under-in-loop-key.result c.is_some-is_cut.result c.loop-key.highest i.1 i.3 apart c.is_some-is_cut.ensures c.set_under.ensures
    (subst (λ t. option_copied c.set_under-in-loop-key.result ≡ rrset zone.sets here t) c.new-key-in-loop-key.ensures c.set_under-in-loop-key.ensures) i.4 in
    (i.0 + 1, off, real, inside, subst (TopSoFar zone c.args.name (i.0 + 1)) (sym c.higher-highest.ensures) next)

pub returns : goal.returns
returns c =
    let i = c.loop-key.invariant in
    let zone : Zone = record { origin = c.args.zone.origin.now; sets = sets_of c.args.zone.sets.now } in
    let e : c.zone_of.result ≡ true = c.loop-key-test.false in
    subst (TopDname zone c.args.name) (sym c.higher.ensures) (arrive zone c.args.name i.0 c.loop-key.key.name c.set_under-2.result c.loop-key.highest i.1 i.2 i.3 (c.zone_of.ensures.0 e)
    (subst (λ t. option_copied c.set_under-2.result ≡ rrset zone.sets c.loop-key.key.name t) c.new-key-2.ensures c.set_under-2.ensures) i.4)
