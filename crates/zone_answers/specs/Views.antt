-- A zone as it is looked up in.
use Rattle.hickory_base.specs.zone_store.ZoneSets.{sets_of}
use Rattle.zone_answers.specs.Zones.{Zone}
use Rattle.zone_answers.specs.declared.view.ZoneView.{ZoneView}

-- the zone that is looked up in
abbrev pub viewed : ZoneView → Zone
viewed zone = record { origin = zone.origin.now; sets = sets_of zone.sets.now }
