-- What is made of a zone before queries are answered in it.
use Rattle.std.specs.Prelude.{◌≡◌}
use Rattle.hickory_base.specs.zone_store.ZoneAnswers.{MemoryZone}
use Rattle.zone_replies.specs.declared.prepared.Prepared.{Prepared}
use Rattle.zone_answers.specs.representation.Indexes.{IsIndexOf}
use Rattle.zone_replies.specs.Replies.{as_zone, denial_soa}

-- the SOA record of this zone as it is in denials, and an index of its sets
pub record IsPrepared (zone : MemoryZone) (prepared : Prepared) : Type 0 where
  pub soa : prepared.soa.items ≡ denial_soa (as_zone zone)
  pub index : IsIndexOf zone.origin zone.sets prepared.index
