use Rattle.std.proofs.Common.{◌≡◌, ◌<◌, ap, subst, ◌∙◌}
use Rattle.std.specs.Option.{option_map}
use Rattle.hickory_base.specs.zone_store.ZoneSets.{sets_of}
use Rattle.wire_names.specs.rr.domain.DomainName.{AreLabels, DomainName, name_len}
use Rattle.zone_answers.specs.Zones.{wildcard}
use Rattle.signed_answers.proofs.lemmas.ShownNames.{wild_short}
use Rattle.signed_answers.specs.LentSets.{lent_set}
use Rattle.signed_answers.specs.NsecSets.{NsecFor}
use Rattle.signed_answers.specs.ShownSets.{below}
use Rattle.signed_answers.proofs.denials.of_encloser.Goals as goal

pub returns-in_default : goal.returns-in_default
returns-in_default c =
    λ missing closest.
    let labels : AreLabels c.args.first.now.name.labels = subst (λ (d : DomainName). AreLabels d.labels) c.as_name.ensures.name c.as_wire.ensures.bounds in
    let long : 255 < name_len (wildcard c.args.encloser.now).labels = rw c.in_default.is at c.in_ok-source.ensures in
    absurd (wild_short (sets_of c.args.sets.now) c.args.first.now.name closest.off labels missing closest.closest (subst (λ (d : DomainName). 255 < name_len (wildcard d).labels) closest.is long))

pub returns : goal.returns
returns c =
    λ missing closest.
    let sets = sets_of c.args.sets.now in
    let source : c.in-Some.source ≡ wildcard c.args.encloser.now = rw c.in-Some.is at c.in_ok-source.ensures in
    below closest.closest (subst (λ (d : DomainName). NsecFor sets d (option_map lent_set c.nsec_for-name.result)) c.in_ok-own.ensures.cases c.nsec_for-name.ensures)
    (subst (λ (d : DomainName). NsecFor sets d (option_map lent_set c.nsec_for-wildcard.result)) (source ∙ ap wildcard closest.is) c.nsec_for-wildcard.ensures)
