use Rattle.text_data.proofs.sizes.size.Goals as goal

pub returns-in-None-clause-refused : goal.returns-in-None-clause-refused
returns-in-None-clause-refused c = λ octet is. c.in-None.ensures.none octet is.1
