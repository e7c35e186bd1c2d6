use Rattle.std.proofs.Common.{◌∙◌, sym}
use Rattle.std.specs.BTreeMap.{get}
use Rattle.wire_messages.specs.rr.RrKeys.{key_cmp}
use Rattle.zone_check.specs.SignedZones.{is_signature_of}
use Rattle.zone_check.proofs.Lookups.{pointed, pointed_nowhere}
use Rattle.zone_check.proofs.index.signature_under.Goals as goal

pub returns-in-Some : goal.returns-in-Some
returns-in-Some c =
    let key = c.args.key.now in
    c.record_at.ensures ∙ pointed c.args.records.now (is_signature_of key.name key.record_type) (get key_cmp c.args.signatures.now key) c.in-Some.place.now (c.requires key) (sym c.in-Some.ensures.value)

pub returns-in-None : goal.returns-in-None
returns-in-None c =
    let key = c.args.key.now in
    sym (pointed_nowhere c.args.records.now (is_signature_of key.name key.record_type) (get key_cmp c.args.signatures.now key) (c.requires key) (sym c.in-None.ensures.value))
