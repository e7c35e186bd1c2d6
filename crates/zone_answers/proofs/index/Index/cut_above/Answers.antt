use Rattle.std.proofs.Common.{ℕ, Bool, List, None, Option, subst, sym}
use Rattle.std.specs.Prelude.{IfSome}
use Rattle.std.specs.Option.{option_copied, option_map}
use Rattle.std.specs.declared.alloc.Global.{Global}
use Rattle.std.specs.declared.vec.Vec.{Vec}
use Rattle.hickory_base.specs.zone_store.ZoneSets.{shared_sets}
use Rattle.zone_answers.proofs.lemmas.zones.Glue.{Section}
use Rattle.zone_answers.proofs.lemmas.zones.Marked.{glue_still}
use Rattle.zone_answers.specs.representation.FoundRecords.{CutAbove}
use Rattle.zone_answers.specs.representation.Indexes.{IndexedSets, IsIndexOf}
use Rattle.zone_answers.specs.representation.TopCuts.{IsClearGlue}
use Rattle.zone_answers.proofs.index.Index.cut_above.Goals as goal

pub returns-in_default-clause-cut : goal.returns-in_default-clause-cut
returns-in_default-clause-cut c =
    subst (λ (x : IndexedSets). CutAbove (record { origin = x.apex; sets = shared_sets x.entries }) c.args.first.now.name None) c.self.view_is
    (subst (λ o. CutAbove (record { origin = c.self.inside.apex; sets = shared_sets c.self.inside.entries.items }) c.args.first.now.name (option_map (λ top. top.servers.now) o)) c.in_default.is
    (c.above.ensures.cut (record { origin = c.self.inside.apex; sets = shared_sets c.self.inside.entries.items }) c.self.invariant.1))

pub returns-clause-glue : goal.returns-clause-glue
returns-clause-glue c = λ origin sets of.
    let place = c.in-Some.top.place in
    let told = option_copied c.clear_glue-glue.result in
    let marks = c.as_slice.ensures.value in
    let hosts = c.as_slice-2.ensures.value in
    let glue = c.as_slice-3.ensures.value in
    let clear : IfSome told (IsClearGlue c.self.inside.marks.items c.self.inside.hosts.items c.self.inside.glue.items place) =
    subst (λ (gs : List Section). IfSome told (IsClearGlue c.self.inside.marks.items c.self.inside.hosts.items gs place)) glue
    (subst (λ (hs : List (Vec (Option ℕ) Global)). IfSome told (IsClearGlue c.self.inside.marks.items hs c.as_slice-3.result.now place)) hosts
    (subst (λ (ms : List Bool). IfSome told (IsClearGlue ms c.as_slice-2.result.now c.as_slice-3.result.now place)) marks c.clear_glue-glue.ensures)) in
    glue_still (record {
      apex = c.self.inside.apex;
      entries = c.self.inside.entries.items;
      marks = c.self.inside.marks.items;
      has_servers = c.self.inside.has_servers;
    }) origin sets (subst (IsIndexOf origin sets) (sym c.self.view_is) of) c.self.inside.cuts.entries.items c.self.inside.hosts.items c.self.inside.glue.items c.in-Some.top told c.self.invariant.2 c.self.invariant.3
    c.in-Some.ensures.at clear
