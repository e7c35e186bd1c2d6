use Rattle.std.proofs.Common.{sym, subst}
use Rattle.std.specs.List.{All}
use Rattle.hickory_base.proofs.lemmas.zone_store.ZoneByName.{keys-shared}
use Rattle.hickory_base.specs.zone_store.ZoneSets.{sets_of}
use Rattle.wire_names.proofs.lemmas.rr.domain.WireForm.{wire_short}
use Rattle.zone_answers.proofs.lemmas.zones.Features.{cut_of_length, none_cut}
use Rattle.zone_answers.specs.representation.Features.{CutsNothing, CutsWithin}
use Rattle.zone_answers.specs.Zones.{Zone}
use Rattle.zone_answers.proofs.features.cut_lengths.Goals as goal

pub returns-then-are_cutting_nothing : goal.returns-then-are_cutting_nothing
returns-then-are_cutting_nothing c =
    let zone : Zone = record { origin = c.args.origin.now; sets = sets_of c.args.sets.now } in
    λ name are cut. absurd (none_cut zone (subst (All (CutsNothing zone.origin)) (sym (keys-shared c.args.sets.now.entries)) (c.are_cutting_nothing.ensures.0 c.if-are_cutting_nothing.true)) name cut)

pub returns-then-are_cut_within : goal.returns-then-are_cut_within
returns-then-are_cut_within c =
    let zone : Zone = record { origin = c.args.origin.now; sets = sets_of c.args.sets.now } in
    λ name are cut. cut_of_length zone c.lengths_of_cuts-lengths.result (subst (All (CutsWithin zone.origin c.lengths_of_cuts-lengths.result)) (sym (keys-shared c.args.sets.now.entries)) (c.are_cut_within.ensures.0 c.if-are_cut_within.true)) name cut

pub returns-else-are_cut_within : goal.returns-else-are_cut_within
returns-else-are_cut_within c = λ name are cut. c.all_lengths.ensures _ (wire_short name.labels are)
