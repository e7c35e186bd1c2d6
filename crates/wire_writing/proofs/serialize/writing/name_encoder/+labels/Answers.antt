use Rattle.std.proofs.Common.{rules, arith, ◌≡◌, ◌∙◌, ℕ, List, ◌+◌, ◌≤◌, ◌++◌, length, None, Some, sym, ap, subst, take, drop, get_or, length-append, length-take}
use Rattle.wire_names.specs.rr.domain.DomainName.{IsWire}
use Rattle.wire_writing.specs.representation.Noted.{Notes, first_place, WritesLabels, Compresses}
use Rattle.wire_writing.proofs.lemmas.serialize.writing.NameSteps.{Rest, rest_of, writes_pointer, writes_label, writes_noted, still_fresh, compresses_pointer, compresses_noted}
use Rattle.wire_writing.proofs.serialize.writing.name_encoder.+labels.Goals as goal
use Rattle.wire_writing.proofs.serialize.writing.name_encoder.+labels.Goals.{write_new_labels-In_ok-write_front, write_new_labels-In_ok-note_written, write_new_labels-then-not-branch+in_ok-write_labels, write_new_labels-else-not-branch}

pub write_new_labels-returns-in-Some-clause-labels : goal.write_new_labels-returns-in-Some-clause-labels
write_new_labels-returns-in-Some-clause-labels t c =
    let f : first_place c.args.wire.now c.args.table.now ≡ Some c.in-Some.place = sym c.in-Some.ensures.found in
    subst (λ ns. WritesLabels c.args.bytes.now.items c.write_pointer.new.bytes.items c.args.table.now ns c.args.wire.now) (sym c.keep.ensures)
    (writes_pointer _ _ c.args.wire.now _ c.in-Some.place c.requires.header c.requires.labels c.in_ok-write_pointer.ensures f)

pub write_new_labels-returns-in-Some-clause-compresses : goal.write_new_labels-returns-in-Some-clause-compresses
write_new_labels-returns-in-Some-clause-compresses t c =
    let f : first_place c.args.wire.now c.args.table.now ≡ Some c.in-Some.place = sym c.in-Some.ensures.found in
    subst (λ ns. Compresses c.args.bytes.now.items c.write_pointer.new.bytes.items c.args.table.now ns c.args.wire.now) (sym c.keep.ensures)
    (compresses_pointer _ _ c.args.wire.now _ c.in-Some.place c.in_ok-write_pointer.ensures f)

-- the labels behind the first one, before they are written
module _ (t : ℕ) (c : write_new_labels-In_ok-write_front t) where
  abbrev behind : List ℕ
  behind = drop (1 + get_or c.args.wire.now 0 0) c.args.wire.now

  first : Rest c.args.wire.now
  first = rest_of c.args.wire.now c.requires.wire c.requires.labels

  is_behind : c.split_at.result.1.now ≡ behind
  is_behind = c.split_at.ensures.back ∙ ap (λ i. drop (1 + i) c.args.wire.now) c.from.ensures

  put : c.write_front.new.bytes.items ≡ c.args.bytes.now.items ++ take (1 + get_or c.args.wire.now 0 0) c.args.wire.now
  put =
      let size : length c.split_at.result.0.now ≡ 1 + get_or c.args.wire.now 0 0 = omega (arith, ap length c.split_at.ensures.front, length-take (1 + c.from.result) c.args.wire.now, c.from.ensures, first.within) in
      c.in_ok-write_front.ensures ∙ ap (λ n. c.args.bytes.now.items ++ take n c.args.wire.now) size

  longer : 12 ≤ length c.write_front.new.bytes.items
  longer = omega (arith, c.requires.header, ap length put, length-append c.args.bytes.now.items (take (1 + get_or c.args.wire.now 0 0) c.args.wire.now))

  unnoted : first_place c.args.wire.now c.args.table.now ≡ None
  unnoted = search rules

  -- What was written of the rest makes it what was written of the whole.
  whole : (new : List ℕ) (notes : Notes) → WritesLabels c.write_front.new.bytes.items new c.args.table.now notes c.split_at.result.1.now → WritesLabels c.args.bytes.now.items new c.args.table.now notes c.args.wire.now
  whole new notes w = writes_label c.args.bytes.now.items c.write_front.new.bytes.items new c.args.wire.now c.args.table.now notes c.requires.header c.requires.wire c.requires.labels put (subst (λ s. WritesLabels c.write_front.new.bytes.items new c.args.table.now notes s) is_behind w)

  fresh : (new : List ℕ) (notes : Notes) → WritesLabels c.write_front.new.bytes.items new c.args.table.now notes c.split_at.result.1.now → first_place c.args.wire.now notes ≡ None
  fresh new notes w = still_fresh c.args.wire.now (length c.split_at.result.1.now) c.args.table.now notes unnoted w.adds (omega (arith, first.shorter, ap length is_behind))

pub write_new_labels-write_labels-requires : goal.write_new_labels-write_labels-requires
write_new_labels-write_labels-requires t c =
    let k = (goal.at.write_new_labels-write_labels-requires t c).In_ok-write_front in
    let same : c.write_known.new.bytes.items ≡ c.write_front.new.bytes.items = search rules in (
      omega (arith, (first t k).shorter, ap length (is_behind t k), c.decreases),
      (subst IsWire (sym (is_behind t k)) (first t k).is_wire, (search rules, omega (arith, ap length same, longer t k))),
    )

-- how the rest was written, either way
module _ (t : ℕ) (c : write_new_labels-In_ok-note_written t) where
  rest_written : WritesLabels c.write_front.new.bytes.items c.if-not-branch.bytes.items c.args.table.now c.if-not-branch.table c.split_at.result.1.now
  rest_written =
      elim c.if-not-branch.branch [
        | write_new_labels-then-not-branch+in_ok-write_labels w ↦
            let same : c.write_known.new.bytes.items ≡ c.write_front.new.bytes.items = search rules in
            subst (λ b. WritesLabels b c.if-not-branch.bytes.items c.args.table.now c.if-not-branch.table c.split_at.result.1.now) same
            (subst (λ b. WritesLabels c.write_known.new.bytes.items b.items c.args.table.now c.if-not-branch.table c.split_at.result.1.now) (sym w.bytes-is)
            (subst (λ ns. WritesLabels c.write_known.new.bytes.items w.write_labels.new.bytes.items c.args.table.now ns c.split_at.result.1.now) (sym w.table-is) w.in_ok-write_labels.ensures.labels))
        | write_new_labels-else-not-branch w ↦
            let known : WritesLabels c.write_front.new.bytes.items c.write_known.new.bytes.items c.args.table.now c.args.table.now c.split_at.result.1.now = search rules in
            subst (λ b. WritesLabels c.write_front.new.bytes.items b.items c.args.table.now c.if-not-branch.table c.split_at.result.1.now) (sym w.bytes-is)
            (subst (λ ns. WritesLabels c.write_front.new.bytes.items c.write_known.new.bytes.items c.args.table.now ns c.split_at.result.1.now) (sym w.table-is) known)
      ]

pub write_new_labels-note_written-requires-clause-fresh : goal.write_new_labels-note_written-requires-clause-fresh
write_new_labels-note_written-requires-clause-fresh t c =
    let k = (goal.at.write_new_labels-note_written-requires-clause-fresh t c).In_ok-write_front in
    elim c.if-not-branch.branch [
      | write_new_labels-then-not-branch+in_ok-write_labels w ↦
          let same : c.write_known.new.bytes.items ≡ c.write_front.new.bytes.items = search rules in
          let r = subst (λ b. WritesLabels b w.write_labels.new.bytes.items c.args.table.now w.write_labels.new.table c.split_at.result.1.now) same w.in_ok-write_labels.ensures.labels in
          ap (λ ns. first_place c.args.wire.now ns) w.table-is ∙ fresh t k w.write_labels.new.bytes.items w.write_labels.new.table r
      | write_new_labels-else-not-branch w ↦ ap (λ ns. first_place c.args.wire.now ns) w.table-is ∙ unnoted t k
    ]

pub write_new_labels-returns-clause-labels : goal.write_new_labels-returns-clause-labels
write_new_labels-returns-clause-labels t c =
    let k = (goal.at.write_new_labels-returns-clause-labels t c).In_ok-write_front in
    let r = rest_written t (goal.at.write_new_labels-returns-clause-labels t c).In_ok-note_written in
    writes_noted c.args.bytes.now.items c.if-not-branch.bytes.items c.args.wire.now c.args.table.now c.if-not-branch.table c.note_written.new.table c.len-place.result (whole t k c.if-not-branch.bytes.items c.if-not-branch.table r) (search rules) c.in_ok-note_written.ensures.near c.in_ok-note_written.ensures.far

pub write_new_labels-returns-clause-compresses : goal.write_new_labels-returns-clause-compresses
write_new_labels-returns-clause-compresses t c =
    let k = (goal.at.write_new_labels-returns-clause-compresses t c).In_ok-write_front in
    compresses_noted c.args.bytes.now.items c.if-not-branch.bytes.items c.args.wire.now c.args.table.now c.if-not-branch.table c.note_written.new.table c.len-place.result (unnoted t k) (search rules) c.in_ok-note_written.ensures.near
