use Rattle.std.proofs.Common.{◌∙◌, option_map, sym, ap}
use Rattle.zone_check.proofs.HashedAnswers.{not_opted, opted_is}
use Rattle.zone_denials.specs.Nsec3Data.{nsec3_by}
use Rattle.zone_check.proofs.hashed.is_opted_out.Goals as goal

pub returns-in-Some-2 : goal.returns-in-Some-2
returns-in-Some-2 c =
    let cover = c.in-Some.cover.now in
    opted_is c.args.zone.now c.args.hash.now cover (nsec3_by cover c.in-Some-2.data) c.in-Some.ensures (sym c.in_ok-data.ensures ∙ ap (option_map (nsec3_by cover)) c.in-Some-2.is)

pub returns-in-None : goal.returns-in-None
returns-in-None c =
    let cover = c.in-Some.cover.now in
    not_opted c.args.zone.now c.args.hash.now cover c.in-Some.ensures (sym c.in_ok-data.ensures ∙ ap (option_map (nsec3_by cover)) c.in-None.is)
