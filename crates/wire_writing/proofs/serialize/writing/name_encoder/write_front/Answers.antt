use Rattle.std.proofs.Common.{rules, arith, ◌≡◌, ◌∙◌, ◌+◌, ◌-◌, ◌++◌, length, take, ap, length-append}
use Rattle.std.proofs.lemmas.List.{take-take}
use Rattle.std.proofs.Math.Seq.{take-append-add}
use Rattle.wire_writing.proofs.serialize.writing.name_encoder.write_front.Goals as goal

pub returns-in-Some : goal.returns-in-Some
returns-in-Some c =
    let old = c.args.bytes.now.items in
    let wire = c.args.wire.now in
    let front : c.extend_from_slice.new.self.items ≡ old ++ take 8 wire = search rules in
    let long : length (take 8 wire) ≡ 8 = search rules in
    let count : c.len.result - (8 - c.args.len) ≡ length old + c.args.len = omega (arith, c.len.ensures, ap length front, length-append old (take 8 wire), long) in
    c.truncate.ensures.items
    ∙ ap (λ s. take (c.len.result - (8 - c.args.len)) s) front
    ∙ ap (λ n. take n (old ++ take 8 wire)) count
    ∙ take-append-add old (take 8 wire) c.args.len
    ∙ ap (λ s. old ++ s) (take-take c.args.len 8 wire c.if-len-le8.true)
