-- What is refused is a query.
use Rattle.std.proofs.Common.{inl, inr, rules}
use Rattle.hickory_server.specs.server.Ruling.{IsOfServedClass, IsTransfer, MayTransfer}
use Rattle.hickory_server.proofs.server.rules.Rules.ruling_of.Goals as goal

pub returns-then-not-is_of_served_class : goal.returns-then-not-is_of_served_class
returns-then-not-is_of_served_class c =
    let other : ¬ (IsOfServedClass c.args.query.now) = search rules in
    (c.args.query.now, inl (c.requires, inl other))

pub returns-then-not-may_transfer : goal.returns-then-not-may_transfer
returns-then-not-may_transfer c =
    let transfer : IsTransfer c.args.query.now = search rules in
    let may_not : ¬ (MayTransfer c.args.self.now c.args.request.now) = search rules in
    (c.args.query.now, inl (c.requires, inr (transfer, may_not)))
