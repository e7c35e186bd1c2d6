use Rattle.record_text.proofs.data.fields.ipv4.Goals as goal

pub returns-in-Err-clause-refused : goal.returns-in-Err-clause-refused
returns-in-Err-clause-refused c = λ address is. c.in-Err.ensures address is.1
