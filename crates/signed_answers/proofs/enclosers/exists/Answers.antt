use Rattle.std.specs.Option.{option_copied}
use Rattle.zone_answers.proofs.lemmas.zones.Owners.{exists_behind}
use Rattle.signed_answers.proofs.enclosers.exists.Goals as goal

pub returns : goal.returns
returns c = λ origin owners.
    let is = exists_behind c.args.sets.now c.args.first.now (option_copied c.key_from.result) origin c.requires.least c.requires.qualified owners c.key_from.ensures in
    (λ t. is.1 (c.is_above.ensures.0 t), λ x. c.is_above.ensures.1 (is.0 x))
