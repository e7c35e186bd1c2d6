use Rattle.std.proofs.Common.{◌≡◌, ◌==◌, ◌∙◌, true, ap, arith}
use Rattle.std.proofs.lemmas.Bool.Decides.{nat_tests}
use Rattle.wire_messages.specs.rr.RecordData.{type_of}
use Rattle.wire_names.specs.rr.domain.NameOrder.{name_eq}
use Rattle.zone_check.proofs.HashedAnswers.{owner_is}
use Rattle.zone_check.proofs.Lookups.{above_is}
use Rattle.zone_check.specs.CheckedZones.{ancestor}
use Rattle.zone_check.proofs.hashes.is_hash_owner.Goals as goal

pub returns : goal.returns
returns c =
    let r = c.args.record.now in
    let origin = c.args.origin.now in
    let typed : (type_of c.args.record.now.rdata == 50) ≡ true = grind (arith, nat_tests) in
    owner_is (type_of r.rdata) c.eq.result (name_eq (ancestor r.name 1) origin) typed (c.eq.ensures ∙ ap (λ n. name_eq n origin) (c.as_name.ensures.name ∙ c.in_ok-above.ensures) ∙ above_is r origin)
