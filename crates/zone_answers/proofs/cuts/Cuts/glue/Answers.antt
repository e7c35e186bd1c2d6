use Rattle.std.proofs.Common.{◌≡◌, ◌+◌, List, subst, sym, take, ◌∙◌}
use Rattle.std.proofs.lemmas.List.{take_all}
use Rattle.hickory_base.specs.zone_store.ZoneSets.{sets_of}
use Rattle.zone_answers.proofs.lemmas.zones.Glue.{IsGlueOf, Section, walks_on}
use Rattle.zone_answers.specs.representation.KeysBeside.{Entry}
use Rattle.zone_answers.specs.representation.TopCuts.{AreGlueOf}
use Rattle.zone_answers.specs.Zones.{Records, Zone}
use Rattle.zone_answers.proofs.cuts.Cuts.glue.Goals as goal

pub loop-servers-preserved : goal.loop-servers-preserved
loop-servers-preserved c =
    let zone : Zone = record { origin = c.args.zone.origin.now; sets = sets_of c.args.zone.sets.now } in
    let cuts = c.as_slice-servers-items.result.now in
    let i = c.loop-servers.servers-index in
    let e : Entry = c.loop-servers-item.result in
    let glue : Section = c.in_ok-additionals.field-0 in
    let servers : e.1.value ≡ c.records-servers.result.now = sym (c.records-servers.ensures.value ∙ c.deref.ensures) in
    let own : IsGlueOf zone e.1.value glue = subst (λ (rs : Records). IsGlueOf zone rs glue) (sym servers) c.in_ok-additionals.ensures in
    subst (AreGlueOf zone (take (i + 1) cuts)) (sym c.in_ok-push.ensures.items) (walks_on (λ (x : Entry) (section : Section). IsGlueOf zone x.1.value section) cuts i e c.loop-servers.glue.items glue c.loop-servers-test.true c.loop-servers-item.is c.loop-servers.invariant own)

pub returns : goal.returns
returns c =
    let zone : Zone = record { origin = c.args.zone.origin.now; sets = sets_of c.args.zone.sets.now } in
    let cuts = c.as_slice-servers-items.result.now in
    let i = c.loop-servers.servers-index in
    subst (λ (es : List Entry). AreGlueOf zone es c.loop-servers.glue.items) (take_all i cuts c.loop-servers-test.false ∙ c.as_slice-servers-items.ensures.value) c.loop-servers.invariant
