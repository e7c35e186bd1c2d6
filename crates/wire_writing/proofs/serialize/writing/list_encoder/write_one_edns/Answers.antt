use Rattle.std.proofs.Common.{◌≡◌, ◌∷◌, [], false, None, refl, rules}
use Rattle.wire_writing.specs.representation.Endings.{is_cut_by}
use Rattle.wire_messages.specs.serialize.writing.Reply.{opt_record}
use Rattle.wire_writing.proofs.lemmas.serialize.writing.RecordLists.{adds_one, adds_stuck, fault_is, one_put}
use Rattle.wire_writing.proofs.serialize.writing.list_encoder.write_one_edns.Goals as goal

pub returns-then-is_some-clause-written : goal.returns-then-is_some-clause-written
returns-then-is_some-clause-written c =
    let some = fault_is c.args.stops.now.fault (search rules) in
    (false, adds_stuck c.args.limit c.args.stops.now c.args.bytes.now.items (opt_record c.args.edns.now ∷ []) some.0 some.1, refl)

pub returns-clause-written : goal.returns-clause-written
returns-clause-written c =
    let ending = c.in_ok-ending.ending in
    let ends = c.in_ok-ending.ensures.ends in
    let old = c.args.bytes.now.items in
    let new = c.write_edns.new.bytes.items in
    let r = opt_record c.args.edns.now in
    let none : c.args.stops.now.fault ≡ None = search rules in
    rw c.close_one.ensures.count (is_cut_by ending, adds_one c.args.limit c.args.stops.now c.close_one.new.stops old new r ending none c.close_one.ensures.fault c.close_one.ensures.cut ends, one_put c.args.limit old new r ending ends)
