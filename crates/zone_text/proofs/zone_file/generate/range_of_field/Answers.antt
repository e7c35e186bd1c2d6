use Rattle.zone_text.proofs.zone_file.generate.range_of_field.Goals as goal

pub returns-in-None-clause-refused : goal.returns-in-None-clause-refused
returns-in-None-clause-refused c = λ other range is. c.in-None.ensures.none range is.is
