use Rattle.std.proofs.Common.{◌≡◌, ◌∷◌, ◌+◌, ◌∙◌, ap, drop, refl, subst}
use Rattle.std.proofs.lemmas.List.{drop_all}
use Rattle.hickory_base.specs.zone_store.ZoneSets.{sets_of}
use Rattle.wire_messages.specs.declared.rr.rr_key.RrKey.{RrKey}
use Rattle.zone_answers.proofs.lemmas.zones.Indexed.{in_turn}
use Rattle.zone_answers.proofs.lemmas.zones.Kept.{nameless}
use Rattle.zone_answers.proofs.lemmas.zones.Marked.{begun}
use Rattle.zone_answers.specs.representation.Indexes.{IndexedSets, IsIndexBut, Marks}
use Rattle.zone_answers.specs.Zones.{Records}
use Rattle.zone_answers.proofs.index.Index.after.Goals as goal

pub loop-r-init : goal.loop-r-init
loop-r-init c = λ origin old of kept.
    let apex = ap nameless (c.in-Ok.ensures.cases ∙ ap (λ (x : IndexedSets). x.apex) c.index.view_is) in
    let first : c.new-2.result ≡ nameless c.args.self.apex = c.new-2.ensures ∙ ap (λ n. record { name = c.in-Ok.apex; record_type = n }) c.new.ensures ∙ apex in
    begun c.args.updates.now origin old (sets_of c.args.sets.now) c.args.self c.mark.new.self (subst (λ (k : RrKey). Marks k c.args.self c.mark.new.self) first c.mark.ensures) of kept

pub loop-r-preserved : goal.loop-r-preserved
loop-r-preserved c = λ origin old of kept.
    let sets = sets_of c.args.sets.now in
    let i = c.loop-r.r-index in
    let r = c.r-item.result in
    let turn : drop i c.args.updates.now ≡ r ∷ drop (i + 1) c.args.updates.now = in_turn c.args.updates.now i r c.loop-r-test.true c.r-item.is in
    c.if-not-mark_owner.ensures refl origin (drop (i + 1) c.args.updates.now)
    (subst (λ (rs : Records). IsIndexBut rs origin sets c.loop-r.index) turn (c.loop-r.invariant origin old of kept))

pub returns : goal.returns
returns c = λ origin old of kept.
    subst (λ (rs : Records). IsIndexBut rs origin (sets_of c.args.sets.now) c.loop-r.index) (drop_all c.loop-r.r-index c.args.updates.now c.loop-r-test.false) (c.loop-r.invariant origin old of kept)
