use Rattle.std.proofs.Common.{◌≡◌, ◌∙◌, All, ap, subst}
use Rattle.server_limits.specs.Access.{Network}
use Rattle.server_limits.specs.Prefixes.{LiesIn}
use Rattle.server_limits.specs.declared.access_control.trie.Node.{Node}
use Rattle.server_limits.proofs.lemmas.Tries.{at_Some, node_family, ends_here, zero_bit, half_of, grown_one, grown_zero}
use Rattle.server_limits.proofs.access_control.trie.Trie.+insert.Goals as goal
use Rattle.server_limits.proofs.access_control.trie.Trie.+insert.Goals.{then-bit, else-bit}

pub split-requires-clause-one_family : goal.split-requires-clause-one_family
split-requires-clause-one_family t c =
    let at = at_Some c.self.view_is c.self.invariant c.in-Some.is in
    node_family c.in-Some.node.value c.args.network.family at.holds
    (subst (All (λ (n : Network). n.family ≡ c.args.network.family)) at.is c.requires.one_family)

pub returns-then-not-contains-clause-ok : goal.returns-then-not-contains-clause-ok
returns-then-not-contains-clause-ok t c =
    let at = at_Some c.self.view_is c.self.invariant c.in-Some.is in
    rw at.is c.split.ensures.ok

pub returns-then-same-clause-ok : goal.returns-then-same-clause-ok
returns-then-same-clause-ok t c =
    let at = at_Some c.self.view_is c.self.invariant c.in-Some.is in
    ends_here c.args.self.now c.in-Some.node.value c.deref_mut.result.now c.deref-in-Some.result.now c.args.network at (cc) (cc) (c.same.ensures.0 c.if-same.true)

pub invariant_of-self-in-Some : goal.invariant_of-self-in-Some
invariant_of-self-in-Some t c =
    let at = at_Some c.self.view_is c.self.invariant c.in-Some.is in
    let lies : LiesIn c.args.network c.in-Some.node.value.prefix = subst (λ (n : Node). LiesIn c.args.network n.prefix) c.deref.ensures (c.contains.ensures.0 c.if-not-contains.false) in
    let differ : ¬ (c.in-Some.node.value.prefix ≡ c.args.network) = λ e. let f = c.same.ensures.1 (ap (λ (n : Node). n.prefix) c.deref-in-Some.ensures ∙ e) in let g = c.if-same.false in cc in
    elim c.if-bit.branch [
      | then-bit w ↦ rw w.self-inside-is (grown_one c.args.self.now c.args.network c.in-Some.node.value at w.deref_mut-then-bit.result.now (let v = w.deref_mut-then-bit.ensures.value in cc) w.insert.result w.insert.new.self
          (half_of c.args.network c.in-Some.node.value c.deref-in-Some-2.result.now c.deref-in-Some-2.ensures lies differ c.prefix_len.result c.prefix_len.ensures 1 (c.bit.ensures.0 w.if-bit.true)) w.insert.ensures.ok w.insert.ensures.err).holds
      | else-bit w ↦ rw w.self-inside-is (grown_zero c.args.self.now c.args.network c.in-Some.node.value at w.deref_mut-else-bit.result.now (let v = w.deref_mut-else-bit.ensures.value in cc) w.insert-else-bit.result w.insert-else-bit.new.self
          (half_of c.args.network c.in-Some.node.value c.deref-in-Some-2.result.now c.deref-in-Some-2.ensures lies differ c.prefix_len.result c.prefix_len.ensures 0 (zero_bit c.bit.result _ c.bit.ensures w.if-bit.false)) w.insert-else-bit.ensures.ok w.insert-else-bit.ensures.err).holds
    ]

pub returns-after-bit-clause-ok : goal.returns-after-bit-clause-ok
returns-after-bit-clause-ok t c =
    let at = at_Some c.self.view_is c.self.invariant c.in-Some.is in
    let lies : LiesIn c.args.network c.in-Some.node.value.prefix = subst (λ (n : Node). LiesIn c.args.network n.prefix) c.deref.ensures (c.contains.ensures.0 c.if-not-contains.false) in
    let differ : ¬ (c.in-Some.node.value.prefix ≡ c.args.network) = λ e. let f = c.same.ensures.1 (ap (λ (n : Node). n.prefix) c.deref-in-Some.ensures ∙ e) in let g = c.if-same.false in cc in
    elim c.if-bit.branch [
      | then-bit w ↦ rw (w.self-inside-is, w.result-is) (grown_one c.args.self.now c.args.network c.in-Some.node.value at w.deref_mut-then-bit.result.now (let v = w.deref_mut-then-bit.ensures.value in cc) w.insert.result w.insert.new.self
          (half_of c.args.network c.in-Some.node.value c.deref-in-Some-2.result.now c.deref-in-Some-2.ensures lies differ c.prefix_len.result c.prefix_len.ensures 1 (c.bit.ensures.0 w.if-bit.true)) w.insert.ensures.ok w.insert.ensures.err).ok
      | else-bit w ↦ rw (w.self-inside-is, w.result-is) (grown_zero c.args.self.now c.args.network c.in-Some.node.value at w.deref_mut-else-bit.result.now (let v = w.deref_mut-else-bit.ensures.value in cc) w.insert-else-bit.result w.insert-else-bit.new.self
          (half_of c.args.network c.in-Some.node.value c.deref-in-Some-2.result.now c.deref-in-Some-2.ensures lies differ c.prefix_len.result c.prefix_len.ensures 0 (zero_bit c.bit.result _ c.bit.ensures w.if-bit.false)) w.insert-else-bit.ensures.ok w.insert-else-bit.ensures.err).ok
    ]
