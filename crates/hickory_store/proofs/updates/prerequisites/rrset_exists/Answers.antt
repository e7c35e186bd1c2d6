use Rattle.std.proofs.Common.{◌≡◌, ap, ◌∙◌, refl, Some, None, Option, Bor}
use Rattle.std.specs.Prelude.{is_some}
use Rattle.std.specs.Option.{option_copied}
use Rattle.wire_messages.specs.rr.RecordData.{type_of}
use Rattle.hickory_base.specs.zone_store.ZoneRecords.{is_of}
use Rattle.hickory_base.specs.zone_store.ZoneSets.{zone_records}
use Rattle.hickory_store.proofs.lemmas.updates.NamedSets.{exists_any}
use Rattle.hickory_store.proofs.updates.prerequisites.rrset_exists.Goals as goal

some-copied : {T : Type 0} (o : Option (Bor T)) → is_some o ≡ is_some (option_copied o)
some-copied None = refl
some-copied (Some x) = refl

pub returns : goal.returns
returns c =
    let r = c.args.r.now in
    c.is_some.ensures ∙ some-copied _ ∙ ap is_some c.in_ok-find_set.ensures ∙ exists_any (is_of r.name (type_of r.rdata)) (zone_records c.args.zone.now.sets)
