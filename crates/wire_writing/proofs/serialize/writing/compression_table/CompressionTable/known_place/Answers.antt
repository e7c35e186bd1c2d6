use Rattle.std.proofs.Common.{rules, ◌≡◌, ◌++◌, Some}
use Rattle.wire_writing.specs.representation.NameTable.{pairs}
use Rattle.wire_writing.specs.representation.Noted.{first_place}
use Rattle.wire_writing.proofs.lemmas.serialize.writing.FirstPlaces.{place_in_range}
use Rattle.wire_writing.proofs.serialize.writing.compression_table.CompressionTable.known_place.Goals as goal

pub returns-then-are_same-clause-in_range : goal.returns-then-are_same-clause-in_range
returns-then-are_same-clause-in_range c =
    let all = c.self.inside.asked ++ pairs (c.self.inside.first ++ c.self.inside.notes.items) in
    let e : c.in-Some.owner.wire.now ≡ c.args.wire.now = search rules in
    let f : first_place c.args.wire.now all ≡ Some c.in-Some.owner.place = search rules in
    place_in_range c.args.wire.now c.in-Some.owner.place all c.self.invariant.0.in_range f

pub returns-then-are_same-2-clause-in_range : goal.returns-then-are_same-2-clause-in_range
returns-then-are_same-2-clause-in_range c =
    let all = c.self.inside.asked ++ pairs (c.self.inside.first ++ c.self.inside.notes.items) in
    let e : c.in-Some-last_target.target.wire.now ≡ c.args.wire.now = search rules in
    let f : first_place c.args.wire.now all ≡ Some c.in-Some-last_target.target.place = search rules in
    place_in_range c.args.wire.now c.in-Some-last_target.target.place all c.self.invariant.0.in_range f
