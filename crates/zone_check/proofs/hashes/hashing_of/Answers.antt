use Rattle.std.proofs.Common.{◌∙◌, ap}
use Rattle.std.specs.List.{find}
use Rattle.std.specs.Option.{option_and_then}
use Rattle.wire_messages.specs.declared.rr.rdata.RData.{RData}
use Rattle.wire_messages.specs.declared.rr.record.Record.{Record}
use Rattle.wire_messages.specs.declared.rr.rr_key.RrKey.{RrKey}
use Rattle.zone_check.proofs.SameNames.{first_lower}
use Rattle.zone_check.specs.CheckedZones.{is_of}
use Rattle.zone_check.specs.HashedZones.{parameters_of}
use Rattle.zone_check.proofs.hashes.hashing_of.Goals as goal

pub returns-in-Some : goal.returns-in-Some
returns-in-Some c = c.zone_parameters_of.ensures ∙ ap (option_and_then (λ (r : Record RData). parameters_of r.rdata)) (c.in-Some.ensures ∙ ap (λ (k : RrKey). find (is_of k.name k.record_type) c.args.records.now) c.new-key.ensures ∙ ap (λ n. find (is_of n 51) c.args.records.now) c.in_ok-new.ensures ∙ first_lower c.args.records.now c.args.origin.now 51)

pub returns : goal.returns
returns c = ap (option_and_then (λ (r : Record RData). parameters_of r.rdata)) (c.in-None.ensures ∙ ap (λ (k : RrKey). find (is_of k.name k.record_type) c.args.records.now) c.new-key.ensures ∙ ap (λ n. find (is_of n 51) c.args.records.now) c.in_ok-new.ensures ∙ first_lower c.args.records.now c.args.origin.now 51)
