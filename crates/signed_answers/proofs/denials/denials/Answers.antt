use Rattle.std.proofs.Common.{◌≡◌, None, Ok, refl, subst, sym}
use Rattle.std.specs.Option.{option_map}
use Rattle.hickory_base.specs.zone_store.ZoneSets.{sets_of}
use Rattle.wire_names.specs.rr.domain.DomainName.{DomainName}
use Rattle.zone_answers.specs.declared.find.Found.{Found}
use Rattle.zone_answers.specs.declared.find.Found.TheVariants as found
use Rattle.zone_answers.specs.representation.FoundRecords.{outcome_of}
use Rattle.zone_answers.specs.Zones as zones
use Rattle.zone_answers.specs.Zones.{Answers, Outcome, Zone}
use Rattle.signed_answers.proofs.lemmas.ShownCases.{alias_alone, errors_shown, expansion_alone, referred_by}
use Rattle.signed_answers.proofs.lemmas.ZoneAnswersShown.{direct_by, missing_by}
use Rattle.signed_answers.specs.LentDenials.{AreShown, AreShownOf}
use Rattle.signed_answers.specs.LentSets.{lent_set}
use Rattle.signed_answers.specs.ShownSets as shown
use Rattle.signed_answers.specs.ShownSets.{Shows}
use Rattle.signed_answers.specs.declared.denials.Shown.{Shown}
use Rattle.signed_answers.proofs.denials.denials.Goals as goal

-- nothing is shown
nothing : (zone : Zone) (name : DomainName) (o : Outcome) (d : Shown) → d ≡ record { name = None; wildcard = None } → Shows zone name o None None → AreShown zone name o (Ok d)
nothing zone name o d is h = subst (λ (e : Shown). Shows zone name o (option_map lent_set e.name) (option_map lent_set e.wildcard)) (sym is) h

pub returns-in-NoName : goal.returns-in-NoName
returns-in-NoName c =
    let zone : Zone = record { origin = c.args.zone.origin.now; sets = sets_of c.args.zone.sets.now } in
    let name = c.args.first.now.name in
    λ t. subst (λ (f : Found). Answers zone name t (outcome_of zone.sets name f) → AreShownOf zone name f c.of_missing.result) (sym c.in-NoName.is)
    (λ answers.
    let d = direct_by zone name t zones.no_name zones.no_name answers refl refl in
    errors_shown zone name c.of_missing.result (c.of_missing.ensures c.args.zone.origin.now c.requires.owners (missing_by zone name t zones.no_name d.answers refl).none))

pub returns-in-NoData : goal.returns-in-NoData
returns-in-NoData c =
    let zone : Zone = record { origin = c.args.zone.origin.now; sets = sets_of c.args.zone.sets.now } in
    let name = c.args.first.now.name in
    λ t. subst (λ (f : Found). Answers zone name t (outcome_of zone.sets name f) → AreShownOf zone name f c.of_no_data.result) (sym c.in-NoData.is) (λ answers. c.of_no_data.ensures c.args.zone.origin.now c.requires.owners)

pub returns-in-Every : goal.returns-in-Every
returns-in-Every c =
    let zone : Zone = record { origin = c.args.zone.origin.now; sets = sets_of c.args.zone.sets.now } in
    let name = c.args.first.now.name in
    λ t. subst (λ (f : Found). Answers zone name t (outcome_of zone.sets name f) → AreShownOf zone name f c.of_every.result) (sym c.in-Every.is) (λ answers. c.of_every.ensures c.args.zone.origin.now c.requires.owners)

pub returns-in-WildEvery : goal.returns-in-WildEvery
returns-in-WildEvery c =
    let zone : Zone = record { origin = c.args.zone.origin.now; sets = sets_of c.args.zone.sets.now } in
    let name = c.args.first.now.name in
    λ t. subst (λ (f : Found). Answers zone name t (outcome_of zone.sets name f) → AreShownOf zone name f c.of_wild_every.result) (sym c.in-WildEvery.is) (λ answers. c.of_wild_every.ensures c.args.zone.origin.now c.requires.owners)

pub returns-in-WildAnswer : goal.returns-in-WildAnswer
returns-in-WildAnswer c =
    let zone : Zone = record { origin = c.args.zone.origin.now; sets = sets_of c.args.zone.sets.now } in
    let name = c.args.first.now.name in
    λ t. subst (λ (f : Found). Answers zone name t (outcome_of zone.sets name f) → AreShownOf zone name f c.of_name.result) (sym c.in-WildAnswer.is) (λ answers. expansion_alone zone name c.in-WildAnswer.field-0.now c.of_name.result c.of_name.ensures)

pub returns-in-WildAlias : goal.returns-in-WildAlias
returns-in-WildAlias c =
    let zone : Zone = record { origin = c.args.zone.origin.now; sets = sets_of c.args.zone.sets.now } in
    let name = c.args.first.now.name in
    λ t. subst (λ (f : Found). Answers zone name t (outcome_of zone.sets name f) → AreShownOf zone name f c.of_name-in-WildAlias.result) (sym c.in-WildAlias.is) (λ answers. alias_alone zone name c.in-WildAlias.field-0.now c.of_name-in-WildAlias.result c.of_name-in-WildAlias.ensures)

pub returns-in-Referral : goal.returns-in-Referral
returns-in-Referral c =
    let zone : Zone = record { origin = c.args.zone.origin.now; sets = sets_of c.args.zone.sets.now } in
    let name = c.args.first.now.name in
    let servers = c.in-Referral.servers.now in
    λ t. subst (λ (f : Found). Answers zone name t (outcome_of zone.sets name f) → AreShownOf zone name f c.of_cut.result) (sym c.in-Referral.is)
    (λ answers.
    let d = direct_by zone name t (zones.referral servers) (zones.referral servers) answers refl refl in
    let r = referred_by zone name t servers (zones.referral servers) d.answers refl in
    c.of_cut.ensures zone name r.off refl r.cut r.is)

pub returns-in-Answer : goal.returns-in-Answer
returns-in-Answer c =
    let zone : Zone = record { origin = c.args.zone.origin.now; sets = sets_of c.args.zone.sets.now } in
    let name = c.args.first.now.name in
    λ t. subst (λ (f : Found). Answers zone name t (outcome_of zone.sets name f) → AreShownOf zone name f (Ok c.none.result)) (sym c.in-Answer.is) (λ answers. nothing zone name (zones.answer c.in-Answer.field-0.now) c.none.result c.none.ensures shown.found)

pub returns-in-Alias : goal.returns-in-Alias
returns-in-Alias c =
    let zone : Zone = record { origin = c.args.zone.origin.now; sets = sets_of c.args.zone.sets.now } in
    let name = c.args.first.now.name in
    λ t. subst (λ (f : Found). Answers zone name t (outcome_of zone.sets name f) → AreShownOf zone name f (Ok c.none-in-Alias.result)) (sym c.in-Alias.is) (λ answers. nothing zone name (zones.alias c.in-Alias.field-0.now) c.none-in-Alias.result c.none-in-Alias.ensures shown.found_alias)

pub returns-in-Redirected : goal.returns-in-Redirected
returns-in-Redirected c =
    let zone : Zone = record { origin = c.args.zone.origin.now; sets = sets_of c.args.zone.sets.now } in
    let name = c.args.first.now.name in
    λ t. subst (λ (f : Found). Answers zone name t (outcome_of zone.sets name f) → AreShownOf zone name f (Ok c.none-in-Redirected.result)) (sym c.in-Redirected.is)
    (λ answers. nothing zone name (outcome_of zone.sets name (found.Redirected c.in-Redirected.field-0)) c.none-in-Redirected.result c.none-in-Redirected.ensures shown.redirected)
