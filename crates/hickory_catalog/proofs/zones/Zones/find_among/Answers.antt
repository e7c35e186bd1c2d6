use Rattle.std.proofs.Common.{◌≡◌, false, sym, ◌∙◌}
use Rattle.std.proofs.lemmas.Bool.{false≢true}
use Rattle.hickory_catalog.proofs.lemmas.zones.Nearest.{itself, all_shorter, reached, none_reached, passed}
use Rattle.hickory_catalog.proofs.zones.Zones.find_among.Goals as goal

pub returns-in_default-clause-found : goal.returns-in_default-clause-found
returns-in_default-clause-found g c =
    none_reached c.args.self.now c.args.name.now c.args.name.now (itself c.args.self.now c.args.name.now c.requires) (all_shorter c.args.self.now c.args.name.now)
    (rw c.in_default.is at c.last_up_to.ensures.last)

pub returns-then-answers_for-clause-found : goal.returns-then-answers_for-clause-found
returns-then-answers_for-clause-found g c =
    let told = c.answers_for.ensures.0 c.if-answers_for.true in
    reached c.args.self.now c.args.name.now c.args.name.now (c.in-Some.apex.now, c.in-Some.chain.now.items) (itself c.args.self.now c.args.name.now c.requires)
    (all_shorter c.args.self.now c.args.name.now) c.in-Some.ensures.last told.0 told.1

pub find_above-requires-clause-above : goal.find_above-requires-clause-above
find_above-requires-clause-above g c =
    let f : c.answers_for.result ≡ false = c.if-answers_for.false in
    passed c.args.self.now c.args.name.now c.args.name.now (c.in-Some.apex.now, c.in-Some.chain.now.items) (itself c.args.self.now c.args.name.now c.requires)
    (all_shorter c.args.self.now c.args.name.now) c.in-Some.ensures.last (λ h. false≢true (sym f ∙ c.answers_for.ensures.1 h))
