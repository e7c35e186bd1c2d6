use Rattle.std.proofs.Common.{◌<◌, ◌^◌, sym, subst}
use Rattle.server_limits.specs.Access.{width}
use Rattle.server_limits.proofs.lemmas.NetworkText.{first_bits_fit}
use Rattle.server_limits.proofs.access_control.Address.prefix.Goals as goal

pub returns-clause-fits : goal.returns-clause-fits
returns-clause-fits c =
    subst (λ r. r < 2 ^ c.args.count) (sym c.first_bits.ensures)
    (first_bits_fit c.args.self.bits (width c.args.self.family) c.args.count c.requires.bits c.requires.count)
