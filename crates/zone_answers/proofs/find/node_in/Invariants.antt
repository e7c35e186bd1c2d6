-- What was found, or else what still stands in front under the name, is the RRset; and the first key that was met, or else the one in front, is the first of all.
use Rattle.std.proofs.Common.{◌≡◌, drop}
use Rattle.std.specs.Option.{option_copied}
use Rattle.hickory_base.specs.zone_store.ZoneSets.{shared_sets}
use Rattle.zone_answers.specs.representation.KeysBeside.{IsFirst}
use Rattle.zone_answers.specs.Zones.{rrset}
use Rattle.zone_answers.specs.representation.FoundRecords.{first_or}
use Rattle.zone_answers.proofs.lemmas.zones.Nodes.{in_front, key_or}
use Rattle.zone_answers.proofs.find.node_in.Given as goal

abbrev pub invariant-loop-key : goal.invariant-loop-key
invariant-loop-key l = record {
  wanted : first_or (option_copied l.wanted) (in_front l.first l.record_type (drop l.key-index l.key-items)) ≡ rrset (shared_sets l.index.entries) l.first.name l.record_type;
  alias : first_or (option_copied l.alias) (in_front l.first 5 (drop l.key-index l.key-items)) ≡ rrset (shared_sets l.index.entries) l.first.name 5;
  servers : first_or (option_copied l.servers) (in_front l.first 2 (drop l.key-index l.key-items)) ≡ rrset (shared_sets l.index.entries) l.first.name 2;
  behind : IsFirst l.key-items (key_or (option_copied l.behind) (drop l.key-index l.key-items));
}
