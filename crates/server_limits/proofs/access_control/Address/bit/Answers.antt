use Rattle.std.proofs.Common.{rules, ◌≡◌, ◌+◌, ◌-◌, ◌%◌, arith}
use Rattle.server_limits.specs.Access.{width}
use Rattle.server_limits.proofs.lemmas.Prefixes.{low_word_bit}
use Rattle.server_limits.proofs.access_control.Address.bit.Goals as goal

pub returns-in-Ipv4 : goal.returns-in-Ipv4
returns-in-Ipv4 c =
    let behind : width c.args.self.family - (c.args.index % width c.args.self.family + 1) ≡ 31 - c.args.index % 32 = rw c.in-Ipv4.is (omega arith) in
    let same = low_word_bit c.args.self.bits (31 - c.args.index % 32) (omega arith) in
    rw (behind, same) (search rules)
