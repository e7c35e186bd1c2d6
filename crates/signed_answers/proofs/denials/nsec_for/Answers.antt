use Rattle.std.proofs.Common.{subst}
use Rattle.std.specs.Option.{option_map}
use Rattle.hickory_base.specs.zone_store.ZoneSets.{sets_of}
use Rattle.wire_messages.specs.declared.rr.rr_key.RrKey.{RrKey}
use Rattle.signed_answers.specs.LentSets.{lent_set}
use Rattle.signed_answers.specs.NsecSets.{NsecFor}
use Rattle.signed_answers.proofs.denials.nsec_for.Goals as goal

pub returns : goal.returns
returns c = subst (λ (k : RrKey). NsecFor (sets_of c.args.sets.now) k.name (option_map lent_set c.nsec_before.result)) c.new-key.ensures c.nsec_before.ensures
