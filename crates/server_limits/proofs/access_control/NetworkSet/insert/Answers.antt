use Rattle.std.proofs.Common.{arith}
use Rattle.server_limits.proofs.lemmas.Sets.{inserted_before, inserted_all, inserts_next}
use Rattle.server_limits.proofs.access_control.NetworkSet.insert.Goals as goal

pub returns-in_err-insert_one-clause-err : goal.returns-in_err-insert_one-clause-err
returns-in_err-insert_one-clause-err c =
    inserted_before c.from_residual.result c.args.self.now c.args.networks.now c.loop-network.self c.insert_one.new.self c.loop-network.network-index
    c.loop-network-test.true c.in_err-insert_one.ensures.err c.loop-network.invariant

pub loop-network-preserved : goal.loop-network-preserved
loop-network-preserved c =
    inserts_next c.args.self.now c.args.networks.now c.loop-network.self c.insert_one.new.self c.loop-network.network-index c.network-item.result
    c.loop-network-test.true c.network-item.is c.loop-network.invariant c.in_ok-insert_one.ensures.ok

pub returns-clause-ok : goal.returns-clause-ok
returns-clause-ok c =
    inserted_all c.args.self.now c.args.networks.now c.loop-network.self c.loop-network.network-index (omega arith) c.loop-network.invariant
