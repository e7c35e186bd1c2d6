use Rattle.std.proofs.Common.{◌≡◌, ◌+◌, ℕ, List, Option, subst, sym, take, ◌∙◌}
use Rattle.std.specs.declared.alloc.Global.{Global}
use Rattle.std.specs.declared.vec.Vec.{Vec}
use Rattle.std.proofs.lemmas.List.{take_all}
use Rattle.zone_answers.proofs.lemmas.zones.Glue.{walks_on}
use Rattle.zone_answers.specs.representation.KeysBeside.{Entry}
use Rattle.zone_answers.specs.representation.TopCuts.{AreEach, AreHostsOf, IsHostPlace}
use Rattle.zone_answers.specs.Zones.{Records}
use Rattle.zone_answers.proofs.cuts.Cuts.hosts.Goals as goal

pub loop-servers-preserved : goal.loop-servers-preserved
loop-servers-preserved c =
    let apex = c.args.origin.now in
    let sets = c.args.sets.now in
    let cuts = c.as_slice-servers-items.result.now in
    let i = c.loop-servers.servers-index in
    let e : Entry = c.loop-servers-item.result in
    let places : Vec (Option ℕ) Global = c.in_ok-host_places.field-0 in
    let servers : e.1.value ≡ c.records.result.now = sym (c.records.ensures.value ∙ c.deref.ensures) in
    let own : AreEach (IsHostPlace apex sets) e.1.value places.items = subst (λ (rs : Records). AreEach (IsHostPlace apex sets) rs places.items) (sym servers) c.in_ok-host_places.ensures in
    subst (AreHostsOf apex sets (take (i + 1) cuts)) (sym c.in_ok-push.ensures.items)
    (walks_on (λ (x : Entry) (ps : Vec (Option ℕ) Global). AreEach (IsHostPlace apex sets) x.1.value ps.items) cuts i e c.loop-servers.hosts.items places c.loop-servers-test.true c.loop-servers-item.is c.loop-servers.invariant own)

pub returns : goal.returns
returns c =
    let cuts = c.as_slice-servers-items.result.now in
    let i = c.loop-servers.servers-index in
    subst (λ (es : List Entry). AreHostsOf c.args.origin.now c.args.sets.now es c.loop-servers.hosts.items) (take_all i cuts c.loop-servers-test.false ∙ c.as_slice-servers-items.ensures.value) c.loop-servers.invariant
