use Rattle.std.proofs.Common.{◌≡◌, true, false, Vec, Global, rules}
use Rattle.hickory_catalog.proofs.lemmas.zones.EnclosedBetween.{encloses_up_to}
use Rattle.hickory_catalog.proofs.lemmas.zones.LastUpTo.{last_of_all}
use Rattle.hickory_catalog.proofs.lemmas.zones.Lookups.{lookup_lent, in_order}
use Rattle.hickory_catalog.proofs.lemmas.zones.Nearest.{looked_up, itself, all_shorter, reached}
use Rattle.hickory_catalog.proofs.zones.Zones.find.Goals as goal

pub returns-then-not-is_fqdn-clause-found : goal.returns-then-not-is_fqdn-clause-found
returns-then-not-is_fqdn-clause-found g c =
    let e : c.args.name.now.is_fqdn ≡ false = search rules in
    looked_up c.args.self.now c.args.name.now _ e
    (lookup_lent (λ (chain : Vec g.row.H.Denot Global). chain.items) c.args.name.now c.self.inside.chains.entries c.args.self.now c.get.result c.self.view_is c.get.ensures.value)

pub returns-then-not-is_fqdn-clause-ordered : goal.returns-then-not-is_fqdn-clause-ordered
returns-then-not-is_fqdn-clause-ordered g c = in_order (λ (chain : Vec g.row.H.Denot Global). chain.items) c.self.inside.chains.entries c.args.self.now c.self.view_is c.self.invariant

pub returns-clause-found : goal.returns-clause-found
returns-clause-found g c =
    let e : c.args.name.now.is_fqdn ≡ true = search rules in
    let told = c.answers_for.ensures.0 c.if-answers_for.true in
    let up = encloses_up_to c.in-Some.apex.now c.args.name.now told.0 e told.1 in
    reached c.args.self.now c.args.name.now c.args.name.now (c.in-Some.apex.now, c.in-Some.chain.now.items) (itself c.args.self.now c.args.name.now e) (all_shorter c.args.self.now c.args.name.now)
    (last_of_all (λ (chain : Vec g.row.H.Denot Global). chain.items) c.args.name.now c.self.inside.chains c.args.self.now (c.in-Some.apex.now, c.in-Some.chain.now) c.self.view_is c.in-Some.ensures.last
    c.in-Some.ensures.greatest up) told.0 told.1

pub returns-clause-ordered : goal.returns-clause-ordered
returns-clause-ordered g c = in_order (λ (chain : Vec g.row.H.Denot Global). chain.items) c.self.inside.chains.entries c.args.self.now c.self.view_is c.self.invariant
