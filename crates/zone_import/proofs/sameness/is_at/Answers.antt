-- The record at the place is the one of its identity.
use Rattle.std.proofs.Common.{sym}
use Rattle.zone_import.proofs.SameLists.{found, has_at}
use Rattle.zone_import.proofs.sameness.is_at.Goals as goal

pub returns-in-Some-get : goal.returns-in-Some-get
returns-in-Some-get c = λ yes.
    has_at c.identities.ensures.records c.args.records.now c.in-Some.place c.in-Some-get.q.now c.args.r.now c.requires (found c.args.records.now c.in-Some.place c.in-Some-get.q.now c.in-Some-get.ensures.lookup.3.0 (sym (c.in-Some-get.ensures.lookup.3.1 c.in-Some-get.q.now))) (c.is_same.ensures yes).0 (c.is_same.ensures yes).1
