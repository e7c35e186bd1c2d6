use Rattle.std.proofs.Common.{arith}
use Rattle.std.proofs.lemmas.Grind.{common_steps}
use Rattle.server_settings.proofs.lemmas.Strings.{strings_on}
use Rattle.server_settings.proofs.writing.put_settings.Goals as goal

pub loop-i-preserved : goal.loop-i-preserved
loop-i-preserved c =
    strings_on c.args.all.now c.loop-i.i c.index-all-i.result _ _ _ c.loop-i-test.true (grind (arith, common_steps)) c.loop-i.invariant (grind (arith, common_steps))
