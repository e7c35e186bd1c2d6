use Rattle.std.proofs.Common.{drop, refl, arith}
use Rattle.wire_reading.proofs.lemmas.serialize.reading.KnownRests.{has_byte, pointer_stands, holds_rest, behind_in, rest_led}
use Rattle.wire_reading.proofs.serialize.reading.known_names.note_rests.Goals as goal

pub places-init : goal.places-init
places-init c = record {
  kept = c.requires.kept;
  within = c.requires.within;
  rest = c.least_start-least.ensures.rest _ c.requires.rest;
}

pub returns-then-not-note : goal.returns-then-not-note
returns-then-not-note c =
    let l = c.places in
    c.note.ensures c.args.bytes.now c.args.labels.now l.invariant.kept (holds_rest _ _ l.place l.from _ l.least refl l.invariant.within l.invariant.rest)

pub bounds-bytes-place : goal.bounds-bytes-place
bounds-bytes-place c = has_byte c.places.invariant.rest.labels

pub returns-then-high-eq0 : goal.returns-then-high-eq0
returns-then-high-eq0 c =
    let l = c.places in
    c.note.ensures c.args.bytes.now c.args.labels.now l.invariant.kept (holds_rest _ _ l.place l.from _ l.least refl l.invariant.within l.invariant.rest)

pub overflow_add-from-then-high-lt-LABEL_LIMIT : goal.overflow_add-from-then-high-lt-LABEL_LIMIT
overflow_add-from-then-high-lt-LABEL_LIMIT c =
    let l = c.places in
    let b = behind_in c.args.bytes.now c.args.labels.now l.least l.place l.from c.from-high.result (omega (arith, c.from-high.ensures)) (omega arith) (omega arith) l.invariant.within l.invariant.rest in
    omega (arith, b.1)

pub places-smaller-then-high-lt-LABEL_LIMIT : goal.places-smaller-then-high-lt-LABEL_LIMIT
places-smaller-then-high-lt-LABEL_LIMIT c =
    let l = c.places in
    let b = behind_in c.args.bytes.now c.args.labels.now l.least l.place l.from c.from-high.result (omega (arith, c.from-high.ensures)) (omega arith) (omega arith) l.invariant.within l.invariant.rest in
    omega (arith, b.1)

pub places-preserved-then-high-lt-LABEL_LIMIT : goal.places-preserved-then-high-lt-LABEL_LIMIT
places-preserved-then-high-lt-LABEL_LIMIT c =
    let l = c.places in
    let b = behind_in c.args.bytes.now c.args.labels.now l.least l.place l.from c.from-high.result (omega (arith, c.from-high.ensures)) (omega arith) (omega arith) l.invariant.within l.invariant.rest in
    record {
      kept = c.note.ensures c.args.bytes.now c.args.labels.now l.invariant.kept (holds_rest _ _ l.place l.from _ l.least refl l.invariant.within l.invariant.rest);
      within = b.1;
      rest = b.0;
    }

pub overflow_sub-place : goal.overflow_sub-place
overflow_sub-place c =
    let p = pointer_stands c.from-high.result _ (omega (arith, c.from-high.ensures)) refl (omega arith) c.places.invariant.rest.labels in
    omega (arith, p.high, c.from-high.ensures)

pub bounds-bytes-place-else-high-lt-LABEL_LIMIT : goal.bounds-bytes-place-else-high-lt-LABEL_LIMIT
bounds-bytes-place-else-high-lt-LABEL_LIMIT c =
    (pointer_stands c.from-high.result _ (omega (arith, c.from-high.ensures)) refl (omega arith) c.places.invariant.rest.labels).fits

pub least_start-least-requires-else-high-lt-LABEL_LIMIT-clause-kept : goal.least_start-least-requires-else-high-lt-LABEL_LIMIT-clause-kept
least_start-least-requires-else-high-lt-LABEL_LIMIT-clause-kept c =
    let l = c.places in
    (c.args.labels.now, c.note.ensures c.args.bytes.now c.args.labels.now l.invariant.kept (holds_rest _ _ l.place l.from _ l.least refl l.invariant.within l.invariant.rest))

pub least_start-least-requires-else-high-lt-LABEL_LIMIT-clause-rest : goal.least_start-least-requires-else-high-lt-LABEL_LIMIT-clause-rest
least_start-least-requires-else-high-lt-LABEL_LIMIT-clause-rest c =
    let l = c.places in
    let p = pointer_stands c.from-high.result c.from.result (omega (arith, c.from-high.ensures)) (omega (arith, c.from.ensures)) (omega arith) l.invariant.rest.labels in
    (drop l.from c.args.labels.now, rest_led _ l.invariant.rest p)

pub places-smaller : goal.places-smaller
places-smaller c =
    let l = c.places in
    let p = pointer_stands c.from-high.result c.from.result (omega (arith, c.from-high.ensures)) (omega (arith, c.from.ensures)) (omega arith) l.invariant.rest.labels in
    omega (arith, p.prior, c.least_start-least-else-high-lt-LABEL_LIMIT.ensures.within)

pub places-preserved : goal.places-preserved
places-preserved c =
    let l = c.places in
    let p = pointer_stands c.from-high.result c.from.result (omega (arith, c.from-high.ensures)) (omega (arith, c.from.ensures)) (omega arith) l.invariant.rest.labels in
    record {
      kept = c.note.ensures c.args.bytes.now c.args.labels.now l.invariant.kept (holds_rest _ _ l.place l.from _ l.least refl l.invariant.within l.invariant.rest);
      within = l.invariant.within;
      rest = c.least_start-least-else-high-lt-LABEL_LIMIT.ensures.rest _ (rest_led _ l.invariant.rest p);
    }
