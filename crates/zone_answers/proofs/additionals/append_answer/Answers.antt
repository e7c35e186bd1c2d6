use Rattle.std.proofs.Common.{◌≡◌, false, true, refl, sym, ◌∙◌}
use Rattle.std.proofs.lemmas.Bool.{false≢true}
use Rattle.std.specs.Option.{option_copied}
use Rattle.hickory_base.specs.zone_store.ZoneAnswers.{records_at}
use Rattle.hickory_base.specs.zone_store.ZoneSets.{sets_of}
use Rattle.zone_answers.specs.Additionals.{some_records}
use Rattle.zone_answers.specs.Chains.{IsIn, owned_by}
use Rattle.zone_answers.specs.representation.FoundRecords.{outcome_of}
use Rattle.zone_answers.specs.Zones.{Answers, Records, Zone, answer, any_of, by_wildcard, referral, wild_answer}
use Rattle.zone_answers.proofs.lemmas.replies.Hosts.{answer_put, in_any, in_wild_any, none_outside, nothing_else, nothing_to_put, on_ok}
use Rattle.zone_answers.proofs.additionals.append_answer.Goals as goal

pub returns-then-not-is_in : goal.returns-then-not-is_in
returns-then-not-is_in c =
    let zone : Zone = record { origin = c.args.zone.origin.now; sets = sets_of c.args.zone.sets.now } in
    let e : c.is_in.result ≡ false = c.if-not-is_in.true in
    none_outside (some_records (option_copied c.args.glue)) zone c.args.host.now.name c.args.record_type c.args.all.now.items (λ x. false≢true (sym e ∙ (c.is_in.ensures zone.sets).1 x))

pub look_up-requires-clause-qualified : goal.look_up-requires-clause-qualified
look_up-requires-clause-qualified c =
    let e : c.is_in.result ≡ true = c.if-not-is_in.false in
    let within : IsIn (record { origin = c.args.zone.origin.now; sets = sets_of c.args.zone.sets.now }) c.args.host.now.name = (c.is_in.ensures (sets_of c.args.zone.sets.now)).0 e in
    within.qualified

pub look_up-requires-clause-within : goal.look_up-requires-clause-within
look_up-requires-clause-within c =
    let e : c.is_in.result ≡ true = c.if-not-is_in.false in
    let within : IsIn (record { origin = c.args.zone.origin.now; sets = sets_of c.args.zone.sets.now }) c.args.host.now.name = (c.is_in.ensures (sets_of c.args.zone.sets.now)).0 e in
    within.within

pub returns-in-Answer : goal.returns-in-Answer
returns-in-Answer c =
    let zone : Zone = record { origin = c.args.zone.origin.now; sets = sets_of c.args.zone.sets.now } in
    let e : c.is_in.result ≡ true = c.if-not-is_in.false in
    let rs : Records = c.in-Answer.records.now in
    let says : Answers zone c.args.host.now.name c.args.record_type (answer rs) = rw c.in-Answer.is at c.in_ok-records.ensures in
    on_ok c.append_copies.result _ _ c.append_copies.ensures
    (λ put. answer_put (some_records (option_copied c.args.glue)) zone c.args.host.now.name c.args.record_type c.args.all.now.items (answer rs) rs c.append_copies.new.all.items ((c.is_in.ensures zone.sets).0 e) says refl put)

pub returns-in-WildAnswer : goal.returns-in-WildAnswer
returns-in-WildAnswer c =
    let zone : Zone = record { origin = c.args.zone.origin.now; sets = sets_of c.args.zone.sets.now } in
    let e : c.is_in.result ≡ true = c.if-not-is_in.false in
    let rs : Records = c.in-WildAnswer.records.now in
    let name = c.args.host.now.name in
    let says : Answers zone name c.args.record_type (wild_answer rs) = rw c.in-WildAnswer.is at c.in_ok-records.ensures in
    on_ok c.append_owned.result _ _ c.append_owned.ensures
    (λ put. answer_put (some_records (option_copied c.args.glue)) zone name c.args.record_type c.args.all.now.items (wild_answer rs) (owned_by name rs) c.append_owned.new.all.items ((c.is_in.ensures zone.sets).0 e) says refl
    (rw c.as_name.ensures.name at put))

pub returns-in-Every : goal.returns-in-Every
returns-in-Every c =
    let zone : Zone = record { origin = c.args.zone.origin.now; sets = sets_of c.args.zone.sets.now } in
    let e : c.is_in.result ≡ true = c.if-not-is_in.false in
    let name = c.args.host.now.name in
    let rs : Records = records_at name zone.sets in
    let says : Answers zone name c.args.record_type (any_of rs) = rw c.in-Every.is at c.in_ok-records.ensures in
    on_ok c.append_name.result _ _ c.append_name.ensures
    (λ put. answer_put (some_records (option_copied c.args.glue)) zone name c.args.record_type c.args.all.now.items (any_of rs) rs c.append_name.new.all.items ((c.is_in.ensures zone.sets).0 e) says (in_any (some_records (option_copied c.args.glue)) name rs) put)

pub returns-in-WildEvery : goal.returns-in-WildEvery
returns-in-WildEvery c =
    let zone : Zone = record { origin = c.args.zone.origin.now; sets = sets_of c.args.zone.sets.now } in
    let e : c.is_in.result ≡ true = c.if-not-is_in.false in
    let name = c.args.host.now.name in
    let rs : Records = records_at c.in-WildEvery.key.now.name zone.sets in
    let says : Answers zone name c.args.record_type (by_wildcard (any_of rs)) = rw c.in-WildEvery.is at c.in_ok-records.ensures in
    on_ok c.append_name_owned.result _ _ c.append_name_owned.ensures
    (λ put. answer_put (some_records (option_copied c.args.glue)) zone name c.args.record_type c.args.all.now.items (by_wildcard (any_of rs)) (owned_by name rs) c.append_name_owned.new.all.items ((c.is_in.ensures zone.sets).0 e) says (in_wild_any (some_records (option_copied c.args.glue)) name rs)
    (rw c.as_name-in-WildEvery.ensures.name at put))

pub returns-in-Referral : goal.returns-in-Referral
returns-in-Referral c =
    let zone : Zone = record { origin = c.args.zone.origin.now; sets = sets_of c.args.zone.sets.now } in
    let e : c.is_in.result ≡ true = c.if-not-is_in.false in
    let glue : Records = some_records (option_copied c.args.glue) in
    let servers : Records = c.in-Referral.field-0.now in
    let says : Answers zone c.args.host.now.name c.args.record_type (referral servers) = rw c.in-Referral.is at c.in_ok-records.ensures in
    on_ok c.append_glue.result _ _ c.append_glue.ensures
    (λ put. answer_put glue zone c.args.host.now.name c.args.record_type c.args.all.now.items (referral servers) glue c.append_glue.new.all.items ((c.is_in.ensures zone.sets).0 e) says refl put)

pub returns-in_default : goal.returns-in_default
returns-in_default c =
    let zone : Zone = record { origin = c.args.zone.origin.now; sets = sets_of c.args.zone.sets.now } in
    let e : c.is_in.result ≡ true = c.if-not-is_in.false in
    let name = c.args.host.now.name in
    nothing_to_put (some_records (option_copied c.args.glue)) zone name c.args.record_type c.args.all.now.items (outcome_of zone.sets name c.in_ok-records.field-0) ((c.is_in.ensures zone.sets).0 e) c.in_ok-records.ensures
    (nothing_else (some_records (option_copied c.args.glue)) zone name c.args.record_type c.args.all.now.items c.in_ok-records.field-0 c.in_default.not-Answer c.in_default.not-Every c.in_default.not-Referral c.in_default.not-WildAnswer c.in_default.not-WildEvery)
