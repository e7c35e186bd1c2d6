use Rattle.std.proofs.Common.{sym, subst}
use Rattle.std.specs.List.{All}
use Rattle.hickory_base.proofs.lemmas.zone_store.ZoneByName.{keys-shared}
use Rattle.hickory_base.specs.zone_store.ZoneSets.{sets_of}
use Rattle.wire_names.proofs.lemmas.rr.domain.WireForm.{wire_short}
use Rattle.zone_answers.proofs.lemmas.zones.Features.{none_wild, wild_of_length}
use Rattle.zone_answers.specs.representation.Features.{IsStarless, IsWildWithin}
use Rattle.zone_answers.proofs.features.wildcard_lengths.Goals as goal

pub returns-then-are_starless : goal.returns-then-are_starless
returns-then-are_starless c =
    λ encloser are x. absurd (none_wild (sets_of c.args.sets.now) (subst (All IsStarless) (sym (keys-shared c.args.sets.now.entries)) (c.are_starless.ensures.0 c.if-are_starless.true)) encloser x)

pub returns-then-are_wild_within : goal.returns-then-are_wild_within
returns-then-are_wild_within c =
    λ encloser are x. wild_of_length (sets_of c.args.sets.now) c.lengths_of_wildcards-lengths.result
    (subst (All (IsWildWithin c.lengths_of_wildcards-lengths.result)) (sym (keys-shared c.args.sets.now.entries)) (c.are_wild_within.ensures.0 c.if-are_wild_within.true)) encloser x

pub returns-else-are_wild_within : goal.returns-else-are_wild_within
returns-else-are_wild_within c = λ encloser are x. c.all_lengths.ensures _ (wire_short encloser.labels are)
