-- Records that were put behind others.
use Rattle.std.specs.Prelude.{◌≡◌, ◌++◌}
use Rattle.wire_names.specs.rr.domain.DomainName.{DomainName}
use Rattle.wire_names.specs.rr.domain.NameOrder.{lower_name}
use Rattle.wire_messages.specs.Numbers.{type_a, type_aaaa}
use Rattle.zone_answers.specs.declared.additionals.Source.{Source}
use Rattle.zone_answers.specs.Additionals.{Gains}
use Rattle.zone_answers.specs.Zones.{Records, Zone}

-- Records of which this holds were put behind those that were there.
pub record IsGrown (P : Records → Type 0) (old new : Records) : Type 0 where
  pub added : Records
  pub put : new ≡ old ++ added
  pub are : P added

-- The addresses of a host were put behind the additionals that were there, in a reply with these answers.
pub record AreGained (from : Source) (zone : Zone) (answers : Records) (host : DomainName) (old new : Records) : Type 0 where
  pub four : Records
  pub six : Records
  pub put : new ≡ (old ++ four) ++ six
  pub gained_four : Gains from zone (answers ++ old) (lower_name host) type_a four
  pub gained_six : Gains from zone (answers ++ (old ++ four)) (lower_name host) type_aaaa six
