use Rattle.std.proofs.Common.{◌≡◌, false, sym, ap, ◌∙◌}
use Rattle.std.specs.Option.{option_copied}
use Rattle.std.proofs.lemmas.Bool.{false≢true}
use Rattle.zone_answers.proofs.lemmas.zones.Wild.{none_stands, stands}
use Rattle.hickory_base.specs.zone_store.ZoneSets.{sets_of}
use Rattle.zone_answers.proofs.lemmas.names.WildcardLabels.{none_owned}
use Rattle.zone_answers.specs.Zones.{wildcard}
use Rattle.zone_answers.proofs.find.find_wild.Goals as goal

pub returns-in_default : goal.returns-in_default
returns-in_default c = λ origin owners. none_owned origin (sets_of c.args.sets.now) (wildcard c.args.encloser.now) owners (rw c.in_default.is at c.in_ok-source.ensures)

pub returns-then-is_above : goal.returns-then-is_above
returns-then-is_above c =
    let is : c.new-first.result.name ≡ wildcard c.args.encloser.now = ap (λ k. k.name) c.new-first.ensures ∙ (rw c.in-Some.is at c.in_ok-source.ensures) in
    let least : c.new-first.result.record_type ≡ 0 = ap (λ k. k.record_type) c.new-first.ensures ∙ c.new.ensures in
    stands c.args.sets.now c.args.encloser.now c.args.record_type c.new-first.result (option_copied c.node_at-node.result.behind) is least c.requires.qualified c.node_at-node.ensures.behind c.find_at_wildcard.result
    (c.is_above.ensures.0 c.if-is_above.true) (c.find_at_wildcard.ensures c.args.sets.now c.node_at-node.ensures.behind c.node_at-node.ensures.wanted c.node_at-node.ensures.alias)

pub returns : goal.returns
returns c =
    let is : c.new-first.result.name ≡ wildcard c.args.encloser.now = ap (λ k. k.name) c.new-first.ensures ∙ (rw c.in-Some.is at c.in_ok-source.ensures) in
    let least : c.new-first.result.record_type ≡ 0 = ap (λ k. k.record_type) c.new-first.ensures ∙ c.new.ensures in
    let f : c.is_above.result ≡ false = c.if-is_above.false in
    none_stands c.args.sets.now c.args.encloser.now c.args.record_type c.new-first.result (option_copied c.node_at-node.result.behind) is least c.requires.qualified c.node_at-node.ensures.behind
    (λ a. false≢true (sym f ∙ c.is_above.ensures.1 a))
