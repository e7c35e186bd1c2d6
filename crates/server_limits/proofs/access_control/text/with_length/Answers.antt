use Rattle.server_limits.proofs.lemmas.Spelling.{none_so_long}
use Rattle.server_limits.proofs.access_control.text.with_length.Goals as goal

pub returns-in-None-clause-spelled : goal.returns-in-None-clause-spelled
returns-in-None-clause-spelled c = none_so_long c.args.address.now c.args.digits.now c.in-Ok.address c.in_ok-prefix_length.field-0 c.in-Ok.ensures.value c.in_ok-prefix_length.ensures c.in-None.ensures
