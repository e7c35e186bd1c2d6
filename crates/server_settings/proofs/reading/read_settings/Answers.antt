use Rattle.server_settings.proofs.lemmas.Refused.{not_both}
use Rattle.server_settings.proofs.reading.read_settings.Goals as goal

pub returns-in-Err-clause-fault : goal.returns-in-Err-clause-fault
returns-in-Err-clause-fault c =
    c.syntax.ensures c.args.options.now (λ ms fresh document. not_both _ ms (c.in-Err.ensures.refused fresh document.0) document.1)
