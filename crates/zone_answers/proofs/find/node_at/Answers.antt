use Rattle.std.proofs.Common.{◌≡◌, ℕ, Option, true, sym, ap, subst, ◌∙◌, rules}
use Rattle.std.specs.Option.{option_copied}
use Rattle.hickory_base.specs.zone_store.ZoneSets.{has_name, sets_of}
use Rattle.zone_answers.specs.Zones.{Records, rrset}
use Rattle.zone_answers.proofs.lemmas.zones.Nodes.{first_met, front_is, in_front, key_met, met_at_break, none_met, one_itself, walks_on}
use Rattle.zone_answers.specs.representation.KeysBeside.{IsFirst}
use Rattle.zone_answers.proofs.find.node_at.Goals as goal
use Rattle.zone_answers.proofs.find.node_at.Goals.{in-None, in-Some+then-ne}

pub loop-key-init : goal.loop-key-init
loop-key-init c =
    let first = c.args.first.now in
    let entries = c.args.sets.now.entries in
    let is = c.range-key-items.ensures.between tt in
    let ordered = c.range-key-items.ensures.ordered in
    let gives = c.into_iter-key-iterator.ensures.into_iter_gives in
    record {
      wanted = ap (in_front first c.args.record_type) gives ∙ front_is first c.args.record_type entries c.range-key-items.result c.requires ordered is;
      alias = ap (in_front first 5) gives ∙ front_is first 5 entries c.range-key-items.result c.requires ordered is;
      servers = ap (in_front first 2) gives ∙ front_is first 2 entries c.range-key-items.result c.requires ordered is;
      behind = first_met c.into_iter-key-iterator.result;
    }

pub loop-key-preserved : goal.loop-key-preserved
loop-key-preserved c =
    let first = c.args.first.now in
    let named : has_name first.name c.in-Some.key.now ≡ true = search rules in
    let value : c.in-Some.set.now.value ≡ c.records-records.result.now = sym (c.records-records.ensures.value ∙ c.deref.ensures) in
    let e = c.in-Some.ensures.steps in
    let walk = λ (t : ℕ) (a b : Option Records). walks_on first t a b (c.in-Some.key.now, c.in-Some.set.now) c.next.new.self c.loop-key.key-iterator c.records-records.result.now (rrset (sets_of c.args.sets.now) first.name t) named value e in
    record {
      wanted = walk c.args.record_type (option_copied c.loop-key.wanted) (option_copied c.first_or-wanted.result) (search rules) c.loop-key.invariant.wanted;
      alias = walk 5 (option_copied c.loop-key.alias) (option_copied c.first_or-alias.result) (search rules) c.loop-key.invariant.alias;
      servers = walk 2 (option_copied c.loop-key.servers) (option_copied c.first_or-servers.result) (search rules) c.loop-key.invariant.servers;
      behind = subst (IsFirst c.into_iter-key-iterator.result) (sym (key_met (option_copied c.loop-key.behind) (option_copied c.first_key-behind.result) (c.in-Some.key.now, c.in-Some.set.now) c.next.new.self c.loop-key.key-iterator e c.first_key-behind.ensures)) c.loop-key.invariant.behind;
    }

pub returns-clause-behind : goal.returns-clause-behind
returns-clause-behind c =
    let range : IsFirst c.into_iter-key-iterator.result (option_copied c.match-next.behind) = elim c.match-next.branch [
      | in-None w ↦ subst (λ o. IsFirst c.into_iter-key-iterator.result (option_copied o)) (sym w.behind-is)
          (subst (IsFirst c.into_iter-key-iterator.result) (none_met (option_copied c.loop-key.behind) c.loop-key.key-iterator w.in-None.ensures.steps.0) c.loop-key.invariant.behind)
      | in-Some+then-ne w ↦ subst (λ o. IsFirst c.into_iter-key-iterator.result (option_copied o)) (sym w.behind-is)
          (subst (IsFirst c.into_iter-key-iterator.result)
          (sym (met_at_break (option_copied c.loop-key.behind) (option_copied w.first_key-behind.result) (w.in-Some.key.now, w.in-Some.set.now) c.next.new.self c.loop-key.key-iterator w.in-Some.ensures.steps w.first_key-behind.ensures))
          c.loop-key.invariant.behind)
    ] in
    record { ordered = c.range-key-items.ensures.ordered; range = c.range-key-items.result; whole = c.range-key-items.ensures.between tt; of = c.range-key-items.ensures.in_range tt; own = option_copied c.match-next.behind; least = subst (λ es. IsFirst es (option_copied c.match-next.behind)) c.into_iter-key-iterator.ensures.into_iter_gives range; same = one_itself (option_copied c.match-next.behind) }
