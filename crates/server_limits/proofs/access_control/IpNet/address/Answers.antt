use Rattle.std.proofs.Common.{◌<◌, ◌-◌, ◌^◌, ℕ, ap, ◌∙◌, subst, sym}
use Rattle.server_limits.specs.Access.{width, network_of, first_address}
use Rattle.server_limits.proofs.lemmas.NetworkText.{prefix_fits, shifted, lies}
use Rattle.server_limits.proofs.access_control.IpNet.address.Goals as goal

pub written-requires : goal.written-requires
written-requires c =
    let e = shifted c.self.inside.family c.self.inside.prefix c.self.inside.prefix_length c.from-behind.result c.unwrap_or.result _ c.checked_shl.ensures c.unwrap_or.ensures (c.from-behind.ensures ∙ ap (λ w. w - c.self.inside.prefix_length) c.width.ensures) c.self.invariant.0 c.self.invariant.1 in
    subst (λ k. k < 2 ^ width c.self.inside.family) (sym e) (prefix_fits c.self.inside.prefix (width c.self.inside.family) c.self.inside.prefix_length c.self.invariant.1 c.self.invariant.0)

pub returns-clause-first : goal.returns-clause-first
returns-clause-first c =
    let e = shifted c.self.inside.family c.self.inside.prefix c.self.inside.prefix_length c.from-behind.result c.unwrap_or.result _ c.checked_shl.ensures c.unwrap_or.ensures (c.from-behind.ensures ∙ ap (λ w. w - c.self.inside.prefix_length) c.width.ensures) c.self.invariant.0 c.self.invariant.1 in
    c.written.ensures ∙ ap (λ (b : ℕ). record { family = c.self.inside.family; bits = b }) e ∙ ap first_address c.self.view_is

pub returns-clause-lies : goal.returns-clause-lies
returns-clause-lies c =
    ap (λ a. network_of a c.args.self.now.prefix_length) (returns-clause-first c) ∙ lies c.args.self.now
