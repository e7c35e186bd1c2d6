use Rattle.std.proofs.Common.{◌≡◌, ◌↔◌, ◌+◌, ◌-◌, ◌/◌, ◌%◌, ◌^◌, ℕ, cond, IsTrue, List, [], Box, ap, ◌∙◌, subst}
use Rattle.std.specs.declared.alloc.Global.{Global}
use Rattle.server_limits.specs.Access.{Network}
use Rattle.server_limits.specs.Prefixes.{IsCommon}
use Rattle.server_limits.specs.representation.Tries.{networks_of}
use Rattle.server_limits.specs.declared.access_control.trie.Node.{Node}
use Rattle.server_limits.proofs.lemmas.Tries.{above_node, attached}
use Rattle.server_limits.proofs.access_control.trie.split.Goals as goal

pub returns-clause-node : goal.returns-clause-node
returns-clause-node c =
    let common = c.common-common.result in
    let is_common : IsCommon c.args.node.now.value.prefix c.args.network common =
    subst (λ (n : Node). IsCommon n.prefix c.args.network common) c.deref.ensures c.common-common.ensures in
    let at_index : IsTrue c.bit-is_one.result ↔ (c.deref-2.result.now.prefix.prefix / 2 ^ (c.deref-2.result.now.prefix.prefix_length - (common.prefix_length + 1)) % 2 ≡ 1) =
    subst (λ (k : ℕ). IsTrue c.bit-is_one.result ↔ (c.deref-2.result.now.prefix.prefix / 2 ^ (c.deref-2.result.now.prefix.prefix_length - (k + 1)) % 2 ≡ 1)) c.prefix_len.ensures c.bit-is_one.ensures in
    let bit : IsTrue c.bit-is_one.result ↔ (c.args.node.now.value.prefix.prefix / 2 ^ (c.args.node.now.value.prefix.prefix_length - (common.prefix_length + 1)) % 2 ≡ 1) =
    subst (λ (n : Node). IsTrue c.bit-is_one.result ↔ (n.prefix.prefix / 2 ^ (n.prefix.prefix_length - (common.prefix_length + 1)) % 2 ≡ 1)) c.deref-2.ensures at_index in
    let below : networks_of c.replace.result.value ≡ networks_of c.args.node.now.value = ap (λ (b : Box Node Global). networks_of b.value) c.replace.ensures.value in
    let made : c.in_ok-above.above.value ≡ record { prefix = common; ends = c.same.result; zero = c.in_ok-beside.field-0; one = c.new.result } = c.in_ok-above.ensures.ok in
    let moved : c.deref_mut.result.now ≡ c.in_ok-above.above.value = (let d = c.deref_mut.ensures.value in let b = c.replace.ensures.after in cc) in
    let lent : c.deref_mut.result.now ≡ record { prefix = common; ends = c.same.result; zero = c.in_ok-beside.field-0; one = [] } =
    moved ∙ made ∙ ap (λ (l : List Network). record { prefix = common; ends = c.same.result; zero = c.in_ok-beside.field-0; one = l }) c.new.ensures in
    let is : c.attach.new.node ≡ cond c.bit-is_one.result
    (record { prefix = common; ends = c.same.result; zero = c.in_ok-beside.field-0; one = networks_of c.args.node.now.value })
    (record { prefix = common; ends = c.same.result; zero = networks_of c.args.node.now.value; one = c.in_ok-beside.field-0 }) =
    attached c.args.node.now.value common c.same.result c.bit-is_one.result c.in_ok-beside.field-0 c.deref_mut.result.now c.attach.new.node (networks_of c.replace.result.value)
    lent below c.attach.ensures in
    (above_node c.args.node.now.value c.args.network common c.requires.node is_common c.requires.outside c.bit-is_one.result c.same.result c.in_ok-beside.field-0 c.attach.new.node
    bit c.same.ensures.0 c.same.ensures.1 c.in_ok-beside.ensures.nothing c.in_ok-beside.ensures.leaf is).holds

pub returns-clause-ok : goal.returns-clause-ok
returns-clause-ok c =
    let common = c.common-common.result in
    let is_common : IsCommon c.args.node.now.value.prefix c.args.network common =
    subst (λ (n : Node). IsCommon n.prefix c.args.network common) c.deref.ensures c.common-common.ensures in
    let at_index : IsTrue c.bit-is_one.result ↔ (c.deref-2.result.now.prefix.prefix / 2 ^ (c.deref-2.result.now.prefix.prefix_length - (common.prefix_length + 1)) % 2 ≡ 1) =
    subst (λ (k : ℕ). IsTrue c.bit-is_one.result ↔ (c.deref-2.result.now.prefix.prefix / 2 ^ (c.deref-2.result.now.prefix.prefix_length - (k + 1)) % 2 ≡ 1)) c.prefix_len.ensures c.bit-is_one.ensures in
    let bit : IsTrue c.bit-is_one.result ↔ (c.args.node.now.value.prefix.prefix / 2 ^ (c.args.node.now.value.prefix.prefix_length - (common.prefix_length + 1)) % 2 ≡ 1) =
    subst (λ (n : Node). IsTrue c.bit-is_one.result ↔ (n.prefix.prefix / 2 ^ (n.prefix.prefix_length - (common.prefix_length + 1)) % 2 ≡ 1)) c.deref-2.ensures at_index in
    let below : networks_of c.replace.result.value ≡ networks_of c.args.node.now.value = ap (λ (b : Box Node Global). networks_of b.value) c.replace.ensures.value in
    let made : c.in_ok-above.above.value ≡ record { prefix = common; ends = c.same.result; zero = c.in_ok-beside.field-0; one = c.new.result } = c.in_ok-above.ensures.ok in
    let moved : c.deref_mut.result.now ≡ c.in_ok-above.above.value = (let d = c.deref_mut.ensures.value in let b = c.replace.ensures.after in cc) in
    let lent : c.deref_mut.result.now ≡ record { prefix = common; ends = c.same.result; zero = c.in_ok-beside.field-0; one = [] } =
    moved ∙ made ∙ ap (λ (l : List Network). record { prefix = common; ends = c.same.result; zero = c.in_ok-beside.field-0; one = l }) c.new.ensures in
    let is : c.attach.new.node ≡ cond c.bit-is_one.result
    (record { prefix = common; ends = c.same.result; zero = c.in_ok-beside.field-0; one = networks_of c.args.node.now.value })
    (record { prefix = common; ends = c.same.result; zero = networks_of c.args.node.now.value; one = c.in_ok-beside.field-0 }) =
    attached c.args.node.now.value common c.same.result c.bit-is_one.result c.in_ok-beside.field-0 c.deref_mut.result.now c.attach.new.node (networks_of c.replace.result.value)
    lent below c.attach.ensures in
    (above_node c.args.node.now.value c.args.network common c.requires.node is_common c.requires.outside c.bit-is_one.result c.same.result c.in_ok-beside.field-0 c.attach.new.node
    bit c.same.ensures.0 c.same.ensures.1 c.in_ok-beside.ensures.nothing c.in_ok-beside.ensures.leaf is).inserts
