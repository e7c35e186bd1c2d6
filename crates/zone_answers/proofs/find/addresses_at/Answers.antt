use Rattle.std.proofs.Common.{◌≡◌, ℕ, Option, true, sym, ap, ◌∙◌, rules}
use Rattle.std.specs.Option.{option_copied}
use Rattle.hickory_base.specs.zone_store.ZoneSets.{has_name, sets_of}
use Rattle.zone_answers.specs.Zones.{Records, rrset}
use Rattle.zone_answers.proofs.lemmas.zones.Nodes.{front_is, in_front, walks_on}
use Rattle.zone_answers.proofs.find.addresses_at.Goals as goal

pub loop-key-init : goal.loop-key-init
loop-key-init c =
    let first = c.args.first.now in
    let entries = c.args.sets.now.entries in
    let is = c.range-key-items.ensures.between tt in
    let ordered = c.range-key-items.ensures.ordered in
    let gives = c.into_iter-key-iterator.ensures.into_iter_gives in
    record {
      four = ap (in_front first 1) gives ∙ front_is first 1 entries c.range-key-items.result c.requires ordered is;
      six = ap (in_front first 28) gives ∙ front_is first 28 entries c.range-key-items.result c.requires ordered is;
    }

pub loop-key-preserved : goal.loop-key-preserved
loop-key-preserved c =
    let first = c.args.first.now in
    let named : has_name first.name c.in-Some.key.now ≡ true = search rules in
    let value : c.in-Some.set.now.value ≡ c.records-records.result.now = sym (c.records-records.ensures.value ∙ c.deref.ensures) in
    let e = c.in-Some.ensures.steps in
    let walk = λ (t : ℕ) (a b : Option Records). walks_on first t a b (c.in-Some.key.now, c.in-Some.set.now) c.next.new.self c.loop-key.key-iterator c.records-records.result.now (rrset (sets_of c.args.sets.now) first.name t) named value e in
    record {
      four = walk 1 (option_copied c.loop-key.four) (option_copied c.first_or-four.result) (search rules) c.loop-key.invariant.four;
      six = walk 28 (option_copied c.loop-key.six) (option_copied c.first_or-six.result) (search rules) c.loop-key.invariant.six;
    }
