use Rattle.std.proofs.Common.{◌∙◌, sym}
use Rattle.std.specs.BTreeMap.{get}
use Rattle.wire_names.specs.rr.domain.NameOrder.{name_cmp}
use Rattle.zone_check.specs.CheckedZones.{is_server_of}
use Rattle.zone_check.proofs.Lookups.{pointed, pointed_nowhere}
use Rattle.zone_check.proofs.index.server_under.Goals as goal

pub returns-in-Some : goal.returns-in-Some
returns-in-Some c =
    let name = c.args.name.now in
    c.record_at.ensures ∙ pointed c.args.records.now (is_server_of name) (get name_cmp c.args.servers.now name) c.in-Some.place.now (c.requires name) (sym c.in-Some.ensures.value)

pub returns-in-None : goal.returns-in-None
returns-in-None c =
    let name = c.args.name.now in
    sym (pointed_nowhere c.args.records.now (is_server_of name) (get name_cmp c.args.servers.now name) (c.requires name) (sym c.in-None.ensures.value))
