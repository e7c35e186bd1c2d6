use Rattle.std.proofs.Common.{refl, arith}
use Rattle.wire_names.specs.rr.domain.DomainName.{cut}
use Rattle.wire_reading.proofs.lemmas.serialize.reading.KnownRests.{has_byte, ends_anywhere, pointer_stands, scanned_none, scanned_label, least_of}
use Rattle.wire_reading.proofs.serialize.reading.known_names.least_start.Goals as goal

pub labels-init : goal.labels-init
labels-init c = record { scanned = λ labels next at. scanned_none at }

pub bounds-bytes-at : goal.bounds-bytes-at
bounds-bytes-at c =
    let r = c.requires.rest in
    has_byte (c.labels.invariant.scanned (cut r.0) r.1.next r.1.labels).stands

pub returns-in-Some-clause-rest : goal.returns-in-Some-clause-rest
returns-in-Some-clause-rest c = λ wire r.
    let s = c.labels.invariant.scanned (cut wire) r.next r.labels in
    let kept = c.requires.kept.1 c.labels.at c.in-Some.rest c.in-Some.ensures in
    record { next = r.next; is_wire = r.is_wire; labels = least_of s kept.stands c.min.ensures r.labels }

pub returns-then-high-eq0-clause-rest : goal.returns-then-high-eq0-clause-rest
returns-then-high-eq0-clause-rest c = λ wire r.
    let s = c.labels.invariant.scanned (cut wire) r.next r.labels in
    record { next = r.next; is_wire = r.is_wire; labels = s.whole 0 (ends_anywhere 0 (omega (arith, c.from-high.ensures, c.if-high-eq0.true)) s.stands) }

pub overflow_sub-result : goal.overflow_sub-result
overflow_sub-result c =
    let r = c.requires.rest in
    let s = c.labels.invariant.scanned (cut r.0) r.1.next r.1.labels in
    let p = pointer_stands c.from-high.result _ (omega (arith, c.from-high.ensures)) refl (omega arith) s.stands in
    omega (arith, p.high, c.from-high.ensures)

pub bounds-bytes-at-then-high-ge-LABEL_LIMIT : goal.bounds-bytes-at-then-high-ge-LABEL_LIMIT
bounds-bytes-at-then-high-ge-LABEL_LIMIT c =
    let r = c.requires.rest in
    let s = c.labels.invariant.scanned (cut r.0) r.1.next r.1.labels in
    (pointer_stands c.from-high.result _ (omega (arith, c.from-high.ensures)) refl (omega arith) s.stands).fits

pub returns-then-high-ge-LABEL_LIMIT-clause-within : goal.returns-then-high-ge-LABEL_LIMIT-clause-within
returns-then-high-ge-LABEL_LIMIT-clause-within c =
    let r = c.requires.rest in
    let s = c.labels.invariant.scanned (cut r.0) r.1.next r.1.labels in
    let p = pointer_stands c.from-high.result c.from.result (omega (arith, c.from-high.ensures)) (omega (arith, c.from.ensures)) (omega arith) s.stands in
    omega (arith, p.prior)

pub returns-then-high-ge-LABEL_LIMIT-clause-rest : goal.returns-then-high-ge-LABEL_LIMIT-clause-rest
returns-then-high-ge-LABEL_LIMIT-clause-rest c = λ wire r.
    let s = c.labels.invariant.scanned (cut wire) r.next r.labels in
    let p = pointer_stands c.from-high.result c.from.result (omega (arith, c.from-high.ensures)) (omega (arith, c.from.ensures)) (omega arith) s.stands in
    record { next = r.next; is_wire = r.is_wire; labels = s.whole _ p.least }

pub labels-preserved : goal.labels-preserved
labels-preserved c = record {
  scanned = λ labels next at. scanned_label c.from-high.result (omega (arith, c.from-high.ensures)) (omega arith) (omega arith) (c.labels.invariant.scanned labels next at);
}

pub labels-smaller : goal.labels-smaller
labels-smaller c =
    let r = c.requires.rest in
    let s = c.labels.invariant.scanned (cut r.0) r.1.next r.1.labels in
    let below = has_byte s.stands in
    omega arith
