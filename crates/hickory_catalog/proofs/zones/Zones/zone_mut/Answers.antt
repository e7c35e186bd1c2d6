use Rattle.std.proofs.Common.{Vec, Global, refl}
use Rattle.std.specs.Option.{ghost_name_of}
use Rattle.hickory_catalog.proofs.lemmas.zones.LentChains.{lent_kept, lent_written}
use Rattle.hickory_catalog.proofs.zones.Zones.zone_mut.Goals as goal

pub returns : goal.returns
returns g c =
    let items = λ (chain : Vec g.row.H.Denot Global). chain.items in
    let entries = c.self.inside.chains.entries in
    let lent = c.get_mut.result in (
      (
        refl {a = ghost_name_of c.get_mut.result},
        λ left. lent_written items lent c.args.name.now entries c.args.self.now c.self.view_is c.get_mut.ensures.value c.self.invariant left _ (c.get_mut.follows.holds left).0,
        rw c.get_mut.follows.holds-at-none c.self.view_is,
      ),
      record { writes_back = tt; value = lent_kept items lent c.args.name.now entries c.args.self.now c.self.view_is c.get_mut.ensures.value },
    )
