-- What was found, or else what still stands in front under the name, is the RRset.
use Rattle.std.proofs.Common.{◌≡◌}
use Rattle.std.specs.Option.{option_copied}
use Rattle.hickory_base.specs.zone_store.ZoneSets.{sets_of}
use Rattle.zone_answers.specs.Zones.{rrset}
use Rattle.zone_answers.specs.representation.FoundRecords.{first_or}
use Rattle.zone_answers.proofs.lemmas.zones.Nodes.{in_front}
use Rattle.zone_answers.proofs.find.addresses_at.Given as goal

abbrev pub invariant-loop-key : goal.invariant-loop-key
invariant-loop-key l = record {
  four : first_or (option_copied l.four) (in_front l.first 1 l.key-iterator) ≡ rrset (sets_of l.sets) l.first.name 1;
  six : first_or (option_copied l.six) (in_front l.first 28 l.key-iterator) ≡ rrset (sets_of l.sets) l.first.name 28;
}
