use Rattle.std.proofs.Common.{rules, string_bytes}
use Rattle.server_reports.proofs.Texts.{code_more}
use Rattle.server_reports.proofs.telling.put_codes.Goals as goal

pub loop-code-preserved : goal.loop-code-preserved
loop-code-preserved c = code_more (string_bytes c.args.text.now) (string_bytes c.loop-code.text) (string_bytes c.put_code.new.text) c.args.codes.now c.loop-code.code (search rules) c.loop-code.invariant c.in_ok-put_code.ensures
