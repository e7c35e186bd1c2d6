use Rattle.text_data.proofs.Once.{parameters_once, parameters_same}
use Rattle.text_data.proofs.service_laws.parameters_once.Goals as goal

pub returns-clause-once : goal.returns-clause-once
returns-clause-once c = parameters_once c.words_spell_once.ensures.bytes

pub returns-clause-same : goal.returns-clause-same
returns-clause-same c = parameters_same
