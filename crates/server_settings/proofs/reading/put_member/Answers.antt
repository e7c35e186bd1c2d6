use Rattle.std.proofs.Common.{arith}
use Rattle.std.proofs.lemmas.Grind.{common_steps}
use Rattle.toml.specs.View.{view}
use Rattle.server_settings.proofs.reading.put_member.Goals as goal

pub returns-then-not-is_option-clause-refused : goal.returns-then-not-is_option-clause-refused
returns-then-not-is_option-clause-refused c = c.unknown.ensures c.args.options.now (view c.args.value.now) (grind (arith, common_steps))

pub returns-in-Ok-false-clause-refused : goal.returns-in-Ok-false-clause-refused
returns-in-Ok-false-clause-refused c = c.wrong.ensures c.args.options.now (view c.args.value.now) (grind (arith, common_steps))
