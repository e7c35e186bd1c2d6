use Rattle.std.proofs.Common.{◌∙◌, ap}
use Rattle.std.specs.List.{find}
use Rattle.wire_messages.specs.declared.rr.rr_key.RrKey.{RrKey}
use Rattle.zone_check.specs.SignedZones.{is_signature_of}
use Rattle.zone_check.proofs.SameNames.{signature_lower}
use Rattle.zone_check.proofs.subject.Subject.signature_of.Goals as goal

pub returns : goal.returns
returns c =
    c.signature_under.ensures
    ∙ ap (λ (k : RrKey). find (is_signature_of k.name k.record_type) c.args.self.now.records) c.new-key.ensures
    ∙ ap (λ n. find (is_signature_of n c.args.record_type) c.args.self.now.records) c.in_ok-new.ensures
    ∙ signature_lower c.args.self.now.records c.args.name.now c.args.record_type
