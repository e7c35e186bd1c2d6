use Rattle.std.proofs.Common.{rules, ◌≡◌, ◌≢◌, [], get_or}
use Rattle.std.specs.Str.{bytes_eq}
use Rattle.std.proofs.lemmas.Bool.{false_from_ne_true}
use Rattle.std.proofs.lemmas.Slice.Eq.{bytes_eq-Decides}
use Rattle.wire_writing.specs.declared.serialize.writing.compression_table.Note.{Note}
use Rattle.wire_writing.proofs.lemmas.serialize.writing.FirstPlaces.{found_at, none_below}
use Rattle.wire_writing.proofs.serialize.writing.compression_table.find_in.Goals as goal

pub returns-then-are_same : goal.returns-then-are_same
returns-then-are_same c =
    let n : Note = get_or c.args.notes.now c.loop-note.note-index (record { suffix = record { ref_ptr = (0, 0); now = [] }; place = 0; before = 0 }) in
    let is : get_or c.args.notes.now c.loop-note.note-index n ≡ n = search rules in
    let same : n.suffix.now ≡ c.args.suffix.now = search rules in
    found_at c.args.notes.now c.loop-note.note-index n c.loop-note-test.true is c.args.suffix.now c.loop-note.invariant ((bytes_eq-Decides n.suffix.now c.args.suffix.now).1 same)

pub loop-note-preserved : goal.loop-note-preserved
loop-note-preserved c =
    let n : Note = get_or c.args.notes.now c.loop-note.note-index (record { suffix = record { ref_ptr = (0, 0); now = [] }; place = 0; before = 0 }) in
    let is : get_or c.args.notes.now c.loop-note.note-index n ≡ n = search rules in
    let differ : n.suffix.now ≢ c.args.suffix.now = search rules in
    let other = false_from_ne_true (bytes_eq n.suffix.now c.args.suffix.now) (λ t. differ ((bytes_eq-Decides n.suffix.now c.args.suffix.now).0 t)) in
    none_below c.args.notes.now c.loop-note.note-index n c.loop-note-test.true is c.args.suffix.now c.loop-note.invariant other
