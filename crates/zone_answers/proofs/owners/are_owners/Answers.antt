use Rattle.std.proofs.Common.{subst, sym}
use Rattle.std.specs.Prelude.{◌↔◌, IsTrue}
use Rattle.std.specs.List.{All}
use Rattle.hickory_base.proofs.lemmas.zone_store.ZoneByName.{keys-shared}
use Rattle.zone_answers.specs.Zones.{IsOwner}
use Rattle.zone_answers.proofs.owners.are_owners.Goals as goal

pub returns : goal.returns
returns c = subst (λ ks. IsTrue c.are_all_owners.result ↔ All (IsOwner c.args.origin.now) ks) (sym (keys-shared c.args.sets.now.entries)) c.are_all_owners.ensures
