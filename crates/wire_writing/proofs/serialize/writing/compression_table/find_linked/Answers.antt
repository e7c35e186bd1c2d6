use Rattle.std.proofs.Common.{rules, arith, ◌≡◌, ◌≢◌, ◌<◌, ℕ, ◌+◌, ◌-◌, [], length, take, get_or, sym, ◌∙◌, ap, subst}
use Rattle.std.specs.Str.{bytes_eq}
use Rattle.std.proofs.lemmas.Bool.{false_from_ne_true}
use Rattle.std.proofs.lemmas.Slice.Eq.{bytes_eq-Decides}
use Rattle.wire_writing.specs.representation.NameTable.{pairs, buckets, IsLast}
use Rattle.wire_writing.specs.representation.Noted.{first_place}
use Rattle.wire_writing.specs.declared.serialize.writing.compression_table.Note.{Note}
use Rattle.wire_writing.proofs.lemmas.serialize.writing.LinkedNotes.{IsIn, bucket_small, IsIn-first, IsIn-next, before_less, found_linked}
use Rattle.wire_writing.proofs.serialize.writing.compression_table.find_linked.Goals as goal
use Rattle.wire_writing.proofs.serialize.writing.compression_table.find_linked.Goals.{In-loop-last}

pub offset_bounds-lasts-in_bucket : goal.offset_bounds-lasts-in_bucket
offset_bounds-lasts-in_bucket c = omega (arith, c.requires.in_bucket, bucket_small c.args.suffix.now)

pub bounds-lasts-in_bucket : goal.bounds-lasts-in_bucket
bounds-lasts-in_bucket c = omega (arith, c.requires.in_bucket, bucket_small c.args.suffix.now, c.requires.linked.each)

pub loop-last-init : goal.loop-last-init
loop-last-init c =
    let small : c.args.in_bucket < 1024 = omega (arith, c.requires.in_bucket, bucket_small c.args.suffix.now) in
    subst (λ l. IsIn c.args.suffix.now c.args.notes.now l) (sym c.from-last.ensures)
    (IsIn-first c.args.suffix.now c.args.notes.now (get_or c.args.lasts.now c.args.in_bucket 0)
    (subst (λ b. IsLast b (buckets c.args.notes.now) (get_or c.args.lasts.now c.args.in_bucket 0)) c.requires.in_bucket (c.requires.linked.last c.args.in_bucket small)))

-- the note that the chain has come to
module _ (c : In-loop-last) where
  abbrev place : ℕ
  place = c.loop-last.last - 1

  reached : IsIn c.args.suffix.now c.args.notes.now (place + 1)
  reached =
      let at : c.loop-last.last ≡ place + 1 = omega (arith, c.loop-last-test.true) in
      subst (λ l. IsIn c.args.suffix.now c.args.notes.now l) at c.loop-last.invariant

  inside : place < length c.args.notes.now
  inside = omega (arith, reached.within)

  abbrev note : Note
  note = get_or c.args.notes.now place (record { suffix = record { ref_ptr = (0, 0); now = [] }; place = 0; before = 0 })

pub bounds-notes-last : goal.bounds-notes-last
bounds-notes-last c = inside c

pub returns-then-are_same : goal.returns-then-are_same
returns-then-are_same c =
    let k = (goal.at.returns-then-are_same c).In-loop-last in
    let is : get_or c.args.notes.now (place k) (note k) ≡ note k = search rules in
    let same : (note k).suffix.now ≡ c.args.suffix.now = search rules in
    found_linked c.args.suffix.now c.args.notes.now c.args.lasts.now (place k) (note k) (inside k) is c.requires.apart ((bytes_eq-Decides (note k).suffix.now c.args.suffix.now).1 same)

pub loop-last-smaller : goal.loop-last-smaller
loop-last-smaller c =
    let k = (goal.at.loop-last-smaller c).In-loop-last in
    let is : get_or c.args.notes.now (place k) (note k) ≡ note k = search rules in
    omega (arith, c.loop-last-test.true, c.from-last-in-loop-last.ensures, before_less c.args.suffix.now c.args.notes.now c.args.lasts.now (place k) (note k) (inside k) is c.requires.linked)

pub loop-last-preserved : goal.loop-last-preserved
loop-last-preserved c =
    let k = (goal.at.loop-last-preserved c).In-loop-last in
    let is : get_or c.args.notes.now (place k) (note k) ≡ note k = search rules in
    let differ : (note k).suffix.now ≢ c.args.suffix.now = search rules in
    let other = false_from_ne_true (bytes_eq (note k).suffix.now c.args.suffix.now) (λ t. differ ((bytes_eq-Decides (note k).suffix.now c.args.suffix.now).0 t)) in
    subst (λ l. IsIn c.args.suffix.now c.args.notes.now l) (sym c.from-last-in-loop-last.ensures)
    (IsIn-next c.args.suffix.now c.args.notes.now c.args.lasts.now (place k) (note k) (inside k) is c.requires.linked (reached k) other)

pub returns : goal.returns
returns c =
    let zero : c.loop-last.last ≡ 0 = omega (arith, c.loop-last-test.false) in
    sym (c.loop-last.invariant.same ∙ ap (λ l. first_place c.args.suffix.now (pairs (take l c.args.notes.now))) zero)
