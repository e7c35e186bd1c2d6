use Rattle.std.proofs.Common.{◌≡◌, Bool, true, false, refl, sym, subst}
use Rattle.std.specs.List.{All}
use Rattle.std.specs.Prelude.{not}
use Rattle.hickory_base.proofs.lemmas.zone_store.ZoneByName.{keys-shared}
use Rattle.hickory_base.specs.zone_store.ZoneSets.{sets_of}
use Rattle.zone_answers.proofs.lemmas.zones.Features.{none_redirecting}
use Rattle.zone_answers.specs.representation.Features.{IsNoDname}
use Rattle.zone_answers.specs.Zones.{Zone}
use Rattle.zone_answers.proofs.features.features_of.Goals as goal

turned : (b : Bool) → not b ≡ false → b ≡ true
turned true e = refl
turned false e = absurd cc

pub returns : goal.returns
returns c =
    let zone : Zone = record { origin = c.args.origin.now; sets = sets_of c.args.sets.now } in
    record {
      cuts = c.cut_lengths.ensures;
      dnames = λ none. none_redirecting zone (subst (All IsNoDname) (sym (keys-shared c.args.sets.now.entries)) (c.are_no_dnames.ensures.0 (turned c.are_no_dnames.result none)));
      wildcards = c.wildcard_lengths.ensures;
    }
