use Rattle.std.proofs.Common.{◌≡◌, ◌∷◌, [], false, None, refl, rules}
use Rattle.wire_messages.specs.serialize.layout.MessageLayout.{tsig_record}
use Rattle.wire_writing.specs.representation.Endings.{is_cut_by}
use Rattle.wire_writing.proofs.lemmas.serialize.writing.RecordLists.{adds_one, adds_stuck, fault_is, one_put}
use Rattle.wire_writing.proofs.serialize.writing.list_encoder.write_one_signature.Goals as goal

pub returns-then-is_some-clause-written : goal.returns-then-is_some-clause-written
returns-then-is_some-clause-written c =
    let some = fault_is c.args.stops.now.fault (search rules) in
    (false, adds_stuck c.args.limit c.args.stops.now c.args.bytes.now.items (tsig_record c.args.signature.now ∷ []) some.0 some.1, refl)

pub returns-clause-written : goal.returns-clause-written
returns-clause-written c =
    let ending = c.in_ok-ending.ending in
    let ends = c.in_ok-ending.ensures in
    let old = c.args.bytes.now.items in
    let new = c.write_signature.new.bytes.items in
    let r = tsig_record c.args.signature.now in
    let none : c.args.stops.now.fault ≡ None = search rules in
    rw c.close_one.ensures.count (is_cut_by ending, adds_one c.args.limit c.args.stops.now c.close_one.new.stops old new r ending none c.close_one.ensures.fault c.close_one.ensures.cut ends, one_put c.args.limit old new r ending ends)
