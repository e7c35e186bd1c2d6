use Rattle.std.proofs.Common.{None, Some, arith}
use Rattle.std.proofs.lemmas.Str.Pattern.{split_parts}
use Rattle.server_limits.proofs.lemmas.Spelling.{parts_spell, whole_spells}
use Rattle.server_limits.proofs.access_control.text.IpNetFromStr.from_str.Goals as goal

pub returns-in-Some : goal.returns-in-Some
returns-in-Some c =
    let split = split_parts 47 c.args.text.now (Some (c.in-Some.address, c.in-Some.digits)) c.in-Some.ensures.cases (omega arith) in
    parts_spell c.args.text.now c.in-Some.address.now c.in-Some.digits.now split.0 split.1 c.with_length.result c.with_length.ensures.spelled c.with_length.ensures.fault

pub returns-in-None : goal.returns-in-None
returns-in-None c =
    whole_spells c.args.text.now (split_parts 47 c.args.text.now None c.in-None.ensures.cases (omega arith)) c.host.result c.host.ensures.spelled c.host.ensures.fault
