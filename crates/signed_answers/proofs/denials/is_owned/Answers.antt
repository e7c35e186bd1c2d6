use Rattle.std.proofs.Common.{◌<◌, [], ◌∷◌, length, Some, None, sym, subst, ◌∙◌, arith}
use Rattle.hickory_base.proofs.lemmas.zone_store.ZoneByName.{itself}
use Rattle.hickory_base.specs.zone_store.RecordSets.{IsRecordSet}
use Rattle.zone_answers.proofs.lemmas.zones.Every.{none_of_another, none_there}
use Rattle.zone_answers.specs.Zones.{Records}
use Rattle.signed_answers.proofs.lemmas.ShownNames.{owns_first}
use Rattle.signed_answers.proofs.denials.is_owned.Goals as goal

filled : (rs : Records) → IsRecordSet rs → 0 < length rs
filled [] h = absurd h
filled (r ∷ rs) h = omega arith

pub returns-in_default-clause-none : goal.returns-in_default-clause-none
returns-in_default-clause-none c =
    λ none. none_there c.args.sets.now c.args.first.now c.requires
    (record { ordered = c.range.ensures.ordered; range = c.range.result; whole = c.range.ensures.between tt; of = c.range.ensures.in_range tt; own = None; least = c.in_default.ensures.steps.0; same = tt })

pub returns-clause-some : goal.returns-clause-some
returns-clause-some c =
    λ owned. owns_first c.args.sets.now c.args.first.now c.range.result c.next.new.self (c.in-Some.key.now, c.in-Some.set.now) c.requires c.range.ensures.ordered (c.range.ensures.between tt) c.in-Some.ensures.steps (sym c.is_of.ensures ∙ owned)
    (subst (λ (rs : Records). 0 < length rs) c.deref.ensures (filled c.deref.result.now c.records.ensures.set))

pub returns-clause-none : goal.returns-clause-none
returns-clause-none c =
    λ other. none_of_another c.args.sets.now c.args.first.now c.requires c.in-Some.key.now
    (record { ordered = c.range.ensures.ordered; range = c.range.result; whole = c.range.ensures.between tt; of = c.range.ensures.in_range tt; own = Some c.in-Some.key.now; least = (c.in-Some.set.now, c.next.new.self, c.in-Some.ensures.steps); same = itself c.in-Some.key.now.name })
    (sym c.is_of.ensures ∙ other)
