use Rattle.std.proofs.Common.{◌∙◌, ap}
use Rattle.wire_messages.specs.declared.rr.rr_key.RrKey.{RrKey}
use Rattle.zone_check.specs.CheckedZones.{first_of}
use Rattle.zone_check.proofs.SameNames.{first_lower}
use Rattle.zone_check.proofs.subject.Subject.first_of.Goals as goal

pub returns : goal.returns
returns c =
    c.first_under.ensures
    ∙ ap (λ (k : RrKey). first_of c.args.self.now k.name k.record_type) c.new-key.ensures
    ∙ ap (λ n. first_of c.args.self.now n c.args.record_type) c.in_ok-new.ensures
    ∙ first_lower c.args.self.now.records c.args.name.now c.args.record_type
