use Rattle.std.proofs.Common.{◌++◌, List, subst}
use Rattle.server_limits.specs.Access.{Network}
use Rattle.server_limits.specs.representation.Tries.{networks_of}
use Rattle.server_limits.proofs.lemmas.Tries.{IsWalked, at_Some, no_match_here, no_end_here, notes, passes, to_one, to_zero}
use Rattle.server_limits.proofs.access_control.trie.Trie.longest_match.Goals as goal
use Rattle.server_limits.proofs.access_control.trie.Trie.longest_match.Goals.{then-deref+then-matches, else-deref, else-deref-via-then-deref+else-matches, else-deref-via-else-deref}

pub loop-trie-preserved-then-bit : goal.loop-trie-preserved-then-bit
loop-trie-preserved-then-bit c =
    let at = at_Some c.trie.view_is c.trie.invariant c.in-Some.is in
    let before : IsWalked c.args.self.now (networks_of c.in-Some.node.value) c.args.address c.loop-trie.longest =
    subst (λ (s : List Network). IsWalked c.args.self.now s c.args.address c.loop-trie.longest) at.is c.loop-trie.invariant in
    let seen : IsWalked c.args.self.now (c.in-Some.node.value.zero ++ c.in-Some.node.value.one) c.args.address c.if-deref.longest =
    elim c.if-deref.branch [
      | then-deref+then-matches w ↦
          notes c.args.self.now c.args.address c.in-Some.node.value at.holds c.loop-trie.longest c.if-deref.longest before
          c.deref.result.now w.deref-then-deref.result.now w.deref-then-matches.result.now (cc) (cc) (cc)
          w.if-deref.true (w.matches.ensures.0 w.if-matches.true) w.prefix_len.result w.prefix_len.ensures w.longest-is
      | else-deref w ↦
          passes c.args.self.now c.args.address c.in-Some.node.value at.holds c.loop-trie.longest c.if-deref.longest before
          (elim w.else-deref.branch [
            | else-deref-via-then-deref+else-matches v ↦ no_match_here v.matches.result c.args.address v.deref-then-deref.result.now c.in-Some.node.value v.matches.ensures v.if-matches.false v.deref-then-deref.ensures
            | else-deref-via-else-deref v ↦ no_end_here c.args.address c.deref.result.now c.in-Some.node.value c.deref.ensures v.if-deref.false
          ])
          w.longest-is
    ] in
    to_one c.args.self.now c.args.address c.in-Some.node.value at.holds c.if-deref.longest c.if-deref.longest seen
    c.deref-in-Some.result.now c.deref-then-bit.result.now (cc) (cc) c.prefix_len-in-Some.result c.prefix_len-in-Some.ensures (c.bit.ensures.0 c.if-bit.true)

pub loop-trie-preserved : goal.loop-trie-preserved
loop-trie-preserved c =
    let at = at_Some c.trie.view_is c.trie.invariant c.in-Some.is in
    let before : IsWalked c.args.self.now (networks_of c.in-Some.node.value) c.args.address c.loop-trie.longest =
    subst (λ (s : List Network). IsWalked c.args.self.now s c.args.address c.loop-trie.longest) at.is c.loop-trie.invariant in
    let seen : IsWalked c.args.self.now (c.in-Some.node.value.zero ++ c.in-Some.node.value.one) c.args.address c.if-deref.longest =
    elim c.if-deref.branch [
      | then-deref+then-matches w ↦
          notes c.args.self.now c.args.address c.in-Some.node.value at.holds c.loop-trie.longest c.if-deref.longest before
          c.deref.result.now w.deref-then-deref.result.now w.deref-then-matches.result.now (cc) (cc) (cc)
          w.if-deref.true (w.matches.ensures.0 w.if-matches.true) w.prefix_len.result w.prefix_len.ensures w.longest-is
      | else-deref w ↦
          passes c.args.self.now c.args.address c.in-Some.node.value at.holds c.loop-trie.longest c.if-deref.longest before
          (elim w.else-deref.branch [
            | else-deref-via-then-deref+else-matches v ↦ no_match_here v.matches.result c.args.address v.deref-then-deref.result.now c.in-Some.node.value v.matches.ensures v.if-matches.false v.deref-then-deref.ensures
            | else-deref-via-else-deref v ↦ no_end_here c.args.address c.deref.result.now c.in-Some.node.value c.deref.ensures v.if-deref.false
          ])
          w.longest-is
    ] in
    to_zero c.args.self.now c.args.address c.in-Some.node.value at.holds c.if-deref.longest c.if-deref.longest seen
    c.deref-in-Some.result.now c.deref-else-bit.result.now (cc) (cc) c.prefix_len-in-Some.result c.prefix_len-in-Some.ensures (λ one. let e = c.bit.ensures.1 one in let f = c.if-bit.false in cc)
