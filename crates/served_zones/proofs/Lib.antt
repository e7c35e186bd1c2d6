mod AccessLists
mod QueriesByZones
mod MadeUpdates
mod LoneHandlers
mod Rules
mod RuledZones
mod Turns
