use Rattle.std.proofs.Common.{◌∙◌, refl, sym, subst}
use Rattle.std.specs.Prelude.{IfSome}
use Rattle.std.specs.List.Sorted.{IsStrictlySortedBy}
use Rattle.std.specs.Option.{option_copied}
use Rattle.wire_messages.specs.rr.RrKeys.{key_cmp}
use Rattle.hickory_base.proofs.lemmas.zone_store.ZoneByName.{keys-shared}
use Rattle.hickory_base.specs.zone_store.ZoneSets.{sets_of}
use Rattle.zone_answers.specs.representation.Indexes.{IsIndexOf}
use Rattle.zone_answers.proofs.lemmas.zones.Kept.{still_has}
use Rattle.zone_answers.proofs.find.node_by.Goals as goal
use Rattle.zone_answers.proofs.find.node_by.Goals.{Then-node}

-- the index is that of the zone
of : (c : Then-node) → IsIndexOf c.args.origin.now (sets_of c.args.sets.now) c.in-Some.index.now
of c = subst (λ o. IfSome (option_copied o) (IsIndexOf c.args.origin.now (sets_of c.args.sets.now))) c.in-Some.is c.requires.index

pub returns-then-node-clause-wanted : goal.returns-then-node-clause-wanted
returns-then-node-clause-wanted c = let now = c.if-node in
    c.node_in-node.ensures.wanted ∙ sym (still_has c.in-Some.index.now c.args.first.now c.args.record_type c.requires.least (c.node_in-node.ensures.current c.if-node.true) c.args.origin.now c.args.sets.now (of c))

pub returns-then-node-clause-alias : goal.returns-then-node-clause-alias
returns-then-node-clause-alias c =
    c.node_in-node.ensures.alias ∙ sym (still_has c.in-Some.index.now c.args.first.now 5 c.requires.least (c.node_in-node.ensures.current c.if-node.true) c.args.origin.now c.args.sets.now (of c))

pub returns-then-node-clause-servers : goal.returns-then-node-clause-servers
returns-then-node-clause-servers c =
    c.node_in-node.ensures.servers ∙ sym (still_has c.in-Some.index.now c.args.first.now 2 c.requires.least (c.node_in-node.ensures.current c.if-node.true) c.args.origin.now c.args.sets.now (of c))

pub returns-then-node-clause-behind : goal.returns-then-node-clause-behind
returns-then-node-clause-behind c =
    c.node_in-node.ensures.behind c.args.origin.now c.args.sets.now (of c) (subst (IsStrictlySortedBy key_cmp) (sym (keys-shared c.args.sets.now.entries)) c.len.ensures.ordered) c.if-node.true

pub returns-then-node-clause-before : goal.returns-then-node-clause-before
returns-then-node-clause-before c = λ place e clear. (of c).held place e (c.node_in-node.ensures.before place e clear) refl
