use Rattle.std.proofs.Common.{◌≡◌, None, rules}
use Rattle.served_zones.proofs.chains.chain.Goals.{in-Some+in_ok-clone+in_ok-push-2, in_default}
use Rattle.served_zones.proofs.chains.chain.Goals as goal

pub returns : goal.returns
returns g c =
    elim c.match-list.branch [
      | in-Some+in_ok-clone+in_ok-push-2 w ↦ rw (w.in-Some.is, w.chain-is) (w.in_ok-clone.field-0, w.in_ok-clone.ensures.cases, search rules)
      | in_default w ↦
          let none : c.args.list ≡ None = search rules in
          rw (none, w.chain-is) (search rules)
    ]
