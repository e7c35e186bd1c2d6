use Rattle.std.proofs.Common.{◌∙◌, refl, subst, sym}
use Rattle.std.specs.Prelude.{IfSome}
use Rattle.std.specs.Option.{option_copied}
use Rattle.hickory_base.specs.zone_store.ZoneSets.{sets_of, shared_sets}
use Rattle.zone_answers.proofs.lemmas.zones.Marked.{cut_moves}
use Rattle.zone_answers.specs.representation.Indexes.{IsIndexOf}
use Rattle.zone_answers.specs.representation.TopCuts.{servers_at}
use Rattle.zone_answers.proofs.find.cut_above.Goals as goal

pub returns-in-Some-clause-cut : goal.returns-in-Some-clause-cut
returns-in-Some-clause-cut c =
    let of : IsIndexOf c.args.zone.origin.now (sets_of c.args.zone.sets.now) c.in-Some.index.now = subst (λ o. IfSome (option_copied o) (IsIndexOf c.args.zone.origin.now (sets_of c.args.zone.sets.now))) c.in-Some.is c.requires.index in
    cut_moves c.args.zone.origin.now (shared_sets c.in-Some.index.now.entries) (sets_of c.args.zone.sets.now) (λ n. of.servers n refl (sym c.has_servers.ensures ∙ c.if-has_servers.true)) c.args.first.now.name
    (servers_at c.cut_above_in.result) c.cut_above_in.ensures.cut

pub returns-in-Some-clause-glue : goal.returns-in-Some-clause-glue
returns-in-Some-clause-glue c =
    c.cut_above_in.ensures.glue (sets_of c.args.zone.sets.now) (subst (λ o. IfSome (option_copied o) (IsIndexOf c.args.zone.origin.now (sets_of c.args.zone.sets.now))) c.in-Some.is c.requires.index)
