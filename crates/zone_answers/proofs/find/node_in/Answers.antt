use Rattle.std.proofs.Common.{◌≡◌, ◌∷◌, ◌+◌, ℕ, Option, true, drop, sym, subst, ◌∙◌, rules}
use Rattle.std.specs.Option.{option_copied}
use Rattle.std.proofs.lemmas.List.{drop_all}
use Rattle.hickory_base.specs.zone_store.ZoneSets.{has_name, shared_sets}
use Rattle.zone_answers.specs.Zones.{Records, rrset}
use Rattle.zone_answers.proofs.lemmas.zones.Indexed.{in_turn}
use Rattle.zone_answers.proofs.lemmas.zones.Kept.{behind_in}
use Rattle.zone_answers.proofs.lemmas.zones.Nodes.{first_met, front_is, key_met, met_at_break, none_met, walks_on}
use Rattle.zone_answers.specs.representation.KeysBeside.{Entry, IsFirst}
use Rattle.zone_answers.proofs.find.node_in.Goals as goal
use Rattle.zone_answers.proofs.find.node_in.Goals.{else-loop-key-test, then-loop-key-test+then-ne}

pub loop-key-init : goal.loop-key-init
loop-key-init c =
    let first = c.args.first.now in
    let entries = c.args.index.now.entries in
    let range = c.beside_key-sides.result.from.now in
    let is = c.beside_key-sides.ensures.is in
    let ordered = c.beside_key-sides.ensures.ordered in
    record {
      wanted = front_is first c.args.record_type entries range c.requires.least ordered is;
      alias = front_is first 5 entries range c.requires.least ordered is;
      servers = front_is first 2 entries range c.requires.least ordered is;
      behind = first_met range;
    }

pub loop-key-preserved : goal.loop-key-preserved
loop-key-preserved c =
    let first = c.args.first.now in
    let sets = shared_sets c.args.index.now.entries in
    let range = c.beside_key-sides.result.from.now in
    let e : Entry = c.loop-key-item.result in
    let rest = drop (c.loop-key.key-index + 1) range in
    let turn : drop c.loop-key.key-index range ≡ e ∷ rest = in_turn range c.loop-key.key-index e c.loop-key-test.true c.loop-key-item.is in
    let named : has_name first.name e.0 ≡ true = search rules in
    let value : e.1.value ≡ c.records-records.result.now = sym (c.records-records.ensures.value ∙ c.deref.ensures) in
    let walk = λ (t : ℕ) (a b : Option Records). walks_on first t a b e rest (drop c.loop-key.key-index range) c.records-records.result.now (rrset sets first.name t) named value turn in
    record {
      wanted = walk c.args.record_type (option_copied c.loop-key.wanted) (option_copied c.first_or-wanted.result) (search rules) c.loop-key.invariant.wanted;
      alias = walk 5 (option_copied c.loop-key.alias) (option_copied c.first_or-alias.result) (search rules) c.loop-key.invariant.alias;
      servers = walk 2 (option_copied c.loop-key.servers) (option_copied c.first_or-servers.result) (search rules) c.loop-key.invariant.servers;
      behind = subst (IsFirst range) (sym (key_met (option_copied c.loop-key.behind) (option_copied c.first_key-behind.result) e rest (drop c.loop-key.key-index range) turn c.first_key-behind.ensures)) c.loop-key.invariant.behind;
    }

pub returns-clause-behind : goal.returns-clause-behind
returns-clause-behind c =
    let range = c.beside_key-sides.result.from.now in
    let place = c.loop-key.key-index in
    let before = c.loop-key.invariant.behind in
    let met : IsFirst range (option_copied c.loop-key-test.behind) = elim c.loop-key-test.branch [
      | else-loop-key-test w ↦ subst (λ o. IsFirst range (option_copied o)) (sym w.behind-is)
          (subst (IsFirst range) (none_met (option_copied c.loop-key.behind) (drop place range) (drop_all place range w.loop-key-test.false)) before)
      | then-loop-key-test+then-ne w ↦ subst (λ o. IsFirst range (option_copied o)) (sym w.behind-is)
          (subst (IsFirst range)
          (sym (met_at_break (option_copied c.loop-key.behind) (option_copied w.first_key-behind.result) w.loop-key-item.result (drop (place + 1) range) (drop place range)
          (in_turn range place w.loop-key-item.result w.loop-key-test.true w.loop-key-item.is) w.first_key-behind.ensures))
          before)
    ] in
    λ origin sets of ordered current.
    behind_in c.args.index.now c.args.first.now range (option_copied c.loop-key-test.behind) c.requires.least c.beside_key-sides.ensures.ordered c.beside_key-sides.ensures.is met (c.beside_key-sides.ensures.unmarked current) origin sets of ordered
