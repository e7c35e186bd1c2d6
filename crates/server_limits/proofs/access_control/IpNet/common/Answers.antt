use Rattle.std.proofs.Common.{◌<◌, ◌≤◌, ◌^◌, ◌∙◌, ap, sym, subst, arith}
use Rattle.server_limits.specs.Access.{Network, width}
use Rattle.server_limits.proofs.lemmas.NetworkText.{first_bits_fit}
use Rattle.server_limits.proofs.lemmas.Prefixes.{Fits, apart_somewhere, parts_behind, common_found}
use Rattle.server_limits.proofs.access_control.IpNet.common.Goals as goal

pub overflow_sub-length : goal.overflow_sub-length
overflow_sub-length c =
    let self_fits : Fits c.args.self.now = subst Fits c.self.view_is c.self.invariant in
    let other_fits : Fits c.args.other.now = subst Fits c.other.view_is c.other.invariant in
    apart_somewhere c.args.self.now c.args.other.now c.loop-length.length self_fits.1 other_fits.1
    (λ same. c.loop-length-test.true (c.first.ensures ∙ same ∙ sym c.first-in-loop-length.ensures))

pub loop-length-smaller : goal.loop-length-smaller
loop-length-smaller c = let more = overflow_sub-length c in omega (arith, more)

pub loop-length-preserved : goal.loop-length-preserved
loop-length-preserved c =
    parts_behind c.args.self.now c.args.other.now c.loop-length.length c.loop-length.invariant (overflow_sub-length c)
    (λ same. c.loop-length-test.true (c.first.ensures ∙ same ∙ sym c.first-in-loop-length.ensures))

pub invariant_of-result : goal.invariant_of-result
invariant_of-result c =
    let self_fits : Fits c.args.self.now = subst Fits c.self.view_is c.self.invariant in
    let within = c.loop-length.invariant.in_one in (
      subst (λ (n : Network). c.loop-length.length ≤ width n.family) (sym c.self.view_is) (omega (arith, self_fits.0, within)),
      subst (λ r. r < 2 ^ c.loop-length.length) (sym c.first-2.ensures) (first_bits_fit c.args.self.now.prefix c.args.self.now.prefix_length c.loop-length.length self_fits.1 within),
    )

pub returns : goal.returns
returns c =
    let self_fits : Fits c.args.self.now = subst Fits c.self.view_is c.self.invariant in
    let other_fits : Fits c.args.other.now = subst Fits c.other.view_is c.other.invariant in
    common_found c.args.self.now c.args.other.now (record { family = c.self.inside.family; prefix_length = c.loop-length.length; prefix = c.first-2.result }) self_fits other_fits c.requires (ap (λ (n : Network). n.family) c.self.view_is) c.loop-length.invariant c.first-2.ensures
    (c.first-2.ensures ∙ sym c.first.ensures ∙ c.loop-length-test.false ∙ c.first-in-loop-length.ensures)
