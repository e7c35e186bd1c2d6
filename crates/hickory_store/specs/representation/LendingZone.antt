-- What a handler ends as, where a `&mut` to its zone in memory is lent.
use Rattle.std.specs.Borrow.{Lends, Fml, RattleType, MutBor}
use Rattle.hickory_base.specs.zone_store.ZoneAnswers.{MemoryZone}
use Rattle.hickory_base.specs.contracts.zone_store.in_memory.InMemoryZoneHandler.{the_row as zone_row}
use Rattle.hickory_store.specs.updates.UpdatableZone.{UpdatableZone}
use Rattle.hickory_store.specs.declared.updates.verifier.Verifier.{Ghosts}
use Rattle.hickory_store.specs.contracts.updates.handler.UpdatableZoneHandler.{the_row}

-- It ends with the zone that was written last through the borrow, and all else as before.
abbrev pub LendsZone : (V : RattleType) → Ghosts V.Denot → MutBor (UpdatableZone V.Denot) → MutBor MemoryZone → Fml
LendsZone V by handler lent = Lends (the_row V by) zone_row handler lent (λ zone. record handler.now { zone = zone })
