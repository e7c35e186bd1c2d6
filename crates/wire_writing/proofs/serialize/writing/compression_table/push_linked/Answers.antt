use Rattle.std.proofs.Common.{rules, arith, ◌∙◌, ◌≡◌, ◌+◌, ◌++◌, ◌∷◌, [], length, get_or, set, sym, ap, subst, length-append}
use Rattle.wire_writing.specs.representation.NameTable.{bucket, AreLinked}
use Rattle.wire_writing.specs.declared.serialize.writing.compression_table.Note.{Note}
use Rattle.wire_writing.proofs.lemmas.serialize.writing.LinkedNotes.{bucket_small, AreLinked-push}
use Rattle.wire_writing.proofs.serialize.writing.compression_table.push_linked.Goals as goal

pub offset_bounds-lasts-in_bucket : goal.offset_bounds-lasts-in_bucket
offset_bounds-lasts-in_bucket c = omega (arith, c.requires.in_bucket, bucket_small c.args.suffix.now)

pub bounds-lasts-in_bucket : goal.bounds-lasts-in_bucket
bounds-lasts-in_bucket c = omega (arith, c.requires.in_bucket, bucket_small c.args.suffix.now, c.requires.linked.each)

pub offset_bounds-lasts-in_bucket-2 : goal.offset_bounds-lasts-in_bucket-2
offset_bounds-lasts-in_bucket-2 c = omega (arith, c.requires.in_bucket, bucket_small c.args.suffix.now)

pub bounds-lasts-in_bucket-2 : goal.bounds-lasts-in_bucket-2
bounds-lasts-in_bucket-2 c = omega (arith, c.requires.in_bucket, bucket_small c.args.suffix.now, c.requires.linked.each)

pub returns-clause-linked : goal.returns-clause-linked
returns-clause-linked c =
    let notes = c.args.notes.now.items in
    let lasts = c.args.lasts.now in
    let n : Note = record { suffix = c.args.suffix; place = c.args.place; before = get_or lasts c.args.in_bucket 0 } in
    let same : c.reserve.new.self.items ≡ notes = search rules in
    let more : c.push_reserved.new.self.items ≡ notes ++ n ∷ [] = c.push_reserved.ensures.items ∙ ap (λ ns. ns ++ n ∷ []) same in
    let long : c.len-2.result ≡ length notes + 1 = omega (arith, c.len-2.ensures, ap length more, length-append notes (n ∷ [])) in
    let linked = AreLinked-push notes n lasts (bucket_small c.args.suffix.now) c.requires.linked (ap (λ b. get_or lasts b 0) c.requires.in_bucket) in
    subst (λ ns. AreLinked ns (set lasts c.args.in_bucket c.len-2.result)) (sym more)
    (subst (λ b. AreLinked (notes ++ n ∷ []) (set lasts b c.len-2.result)) (sym c.requires.in_bucket)
    (subst (λ l. AreLinked (notes ++ n ∷ []) (set lasts (bucket c.args.suffix.now) l)) (sym long) linked))
