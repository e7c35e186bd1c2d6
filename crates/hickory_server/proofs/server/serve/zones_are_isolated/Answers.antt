use Rattle.std.proofs.Common.{refl}
use Rattle.hickory_server.proofs.lemmas.server.Isolation.{isolated, one_beside, run_beside, run_isolated, run_of_all, step_alone, step_stays}
use Rattle.hickory_server.proofs.server.serve.zones_are_isolated.Goals as goal

pub returns-clause-step : goal.returns-clause-step
returns-clause-step g c = λ access catalog zone message outcome after sorted to step.
    step_alone g.H.ZoneHandler g.S.ReplySigner.signature_for access catalog zone.0 c.one_message.ensures.same c.one_message.ensures.no_fault
    c.zones_apart.ensures.alone c.zones_apart.ensures.others c.zones_apart.ensures.apexes c.zones_apart.ensures.one_chain c.zones_apart.ensures.decided
    catalog.zones after message outcome zone.1 sorted to step

pub returns-clause-stays : goal.returns-clause-stays
returns-clause-stays g c = λ access catalog zone message outcome after among other step.
    step_stays g.H.ZoneHandler g.S.ReplySigner.signature_for access catalog zone.0 c.one_message.ensures.same c.one_message.ensures.no_fault
    c.zones_apart.ensures.alone c.zones_apart.ensures.others c.zones_apart.ensures.apexes c.zones_apart.ensures.one_chain c.zones_apart.ensures.decided
    catalog.zones after message outcome zone.1 among other step

pub returns-clause-isolated : goal.returns-clause-isolated
returns-clause-isolated g c = λ access catalog apex chain messages outcomes after to of sorted among run.
    isolated g.H.ZoneHandler g.S.ReplySigner.signature_for access catalog apex c.one_message.ensures.same c.one_message.ensures.no_fault
    c.zones_apart.ensures.alone c.zones_apart.ensures.others c.zones_apart.ensures.apexes c.zones_apart.ensures.one_chain c.zones_apart.ensures.decided
    catalog.zones chain messages outcomes after to of sorted among run

pub returns-clause-run : goal.returns-clause-run
returns-clause-run g c = λ access catalog apex messages outcomes after to of run.
    run_of_all g.H.ZoneHandler g.S.ReplySigner.signature_for access catalog apex catalog.zones messages outcomes after to of run

pub returns-clause-beside : goal.returns-clause-beside
returns-clause-beside g c = λ access catalog apex messages outcomes after run.
    run_beside g.H.ZoneHandler g.S.ReplySigner.signature_for access catalog apex c.one_message.ensures.same c.one_message.ensures.no_fault
    c.zones_apart.ensures.alone c.zones_apart.ensures.others c.zones_apart.ensures.apexes c.zones_apart.ensures.one_chain c.zones_apart.ensures.decided
    catalog.zones messages outcomes after run

pub returns-clause-one_way : goal.returns-clause-one_way
returns-clause-one_way g c = λ access catalog apex messages outcomes after after' to to' of of' run other.
    one_beside g.H.ZoneHandler g.S.ReplySigner.signature_for access catalog apex c.one_message.ensures.same c.one_message.ensures.no_fault
    c.zones_apart.ensures.alone c.zones_apart.ensures.others c.zones_apart.ensures.apexes c.zones_apart.ensures.one_chain c.zones_apart.ensures.decided
    catalog.zones catalog.zones refl messages outcomes after after' to to' of of' run other

pub returns-clause-each : goal.returns-clause-each
returns-clause-each g c = λ access catalog apex chain messages outcomes after sorted among run.
    run_isolated g.H.ZoneHandler g.S.ReplySigner.signature_for access catalog apex c.one_message.ensures.same c.one_message.ensures.no_fault
    c.zones_apart.ensures.alone c.zones_apart.ensures.others c.zones_apart.ensures.apexes c.zones_apart.ensures.one_chain c.zones_apart.ensures.decided
    catalog.zones chain messages outcomes after sorted among run
