use Rattle.std.proofs.Common.{◌∙◌, sym, ap}
use Rattle.std.specs.Option.{option_map}
use Rattle.zone_check.proofs.SignedAnswers.{other_is}
use Rattle.zone_denials.specs.NsecData.{nsec_by}
use Rattle.zone_check.proofs.signed.has_other_next.Goals as goal

pub returns-in_ok-name-in-Some : goal.returns-in_ok-name-in-Some
returns-in_ok-name-in-Some c =
    let r = c.args.record.now in
    other_is c.args.zone.now r (nsec_by r.name c.in-Some.data) c.in_ok-name-in-Some.name c.is_next.result (sym c.in_ok-data.ensures ∙ ap (option_map (nsec_by r.name)) c.in-Some.is) c.in_ok-name-in-Some.ensures c.is_next.ensures
