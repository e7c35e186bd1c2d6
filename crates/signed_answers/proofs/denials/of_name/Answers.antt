use Rattle.std.proofs.Common.{refl, subst}
use Rattle.std.specs.Option.{option_map}
use Rattle.hickory_base.specs.zone_store.ZoneSets.{sets_of}
use Rattle.wire_names.specs.rr.domain.DomainName.{DomainName}
use Rattle.signed_answers.specs.LentSets.{lent_set}
use Rattle.signed_answers.specs.NsecSets.{NsecFor}
use Rattle.signed_answers.proofs.denials.of_name.Goals as goal

pub returns : goal.returns
returns c = (subst (λ (n : DomainName). NsecFor (sets_of c.args.sets.now) n (option_map lent_set c.nsec_for-name.result)) c.in_ok-own.ensures.cases c.nsec_for-name.ensures, refl)
