-- The rule is put among those of its zone.
use Rattle.server.specs.Transfers.{Allows}
use Rattle.server.proofs.OwnRules.{changed_at}
use Rattle.server.proofs.WorkedRuns.{then_ok}
use Rattle.server.proofs.service.Service.allow_zone_transfer.Goals as goal

pub returns-clause-ok : goal.returns-clause-ok
returns-clause-ok c =
    let apex = c.in_ok-apex.apex in
    let added = c.in_ok-apex.ensures in
    then_ok c.allow_at.result c.allow_at.ensures (λ sets. record {
      apex = apex;
      spelled = added.0;
      added = rw c.as_slice.ensures.value at added.1;
      own = changed_at apex (Allows c.args.text.now) c.args.self.now.answering.server.server.rules.zones.items c.own_place.new.zones.items c.allow_at.new.zones.items c.in_ok-place.place c.in_ok-place.ensures sets;
    })
