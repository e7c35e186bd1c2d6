-- The bytes stand over the contents, which were lengthened for them.
use Rattle.std.proofs.Common.{◌≡◌, ◌+◌, ◌-◌, ℕ, List, ◌++◌, length, take, drop, replicate, append-nil, ◌∙◌, ap, arith, rules, length-append, length-drop, length-take}
use Rattle.std.proofs.lemmas.List.{take_all, drop_all, length-replicate}
use Rattle.journal.proofs.FileLemmas.{overlaid_long}
use Rattle.journal.proofs.host_file.noting.overwrite.Goals as goal

pub returns-clause-ok : goal.returns-clause-ok
returns-clause-ok c =
    let end : c.in_ok-end.end ≡ c.args.at + length c.args.bytes.now = search rules in
    let grown : c.lengthen.new.file.items ≡ c.args.file.now.items ++ replicate (c.args.at + length c.args.bytes.now - length c.args.file.now.items) 0
    = c.in_ok-lengthen.ensures.ok ∙ ap (λ (k : ℕ). c.args.file.now.items ++ replicate (k - length c.args.file.now.items) 0) end in
    let same : c.deref_mut.result.now ≡ c.lengthen.new.file.items = search rules in
    let count : c.lengthen.new.file.len ≡ length c.lengthen.new.file.items = search rules in
    let put : c.put.new.file ≡ take c.args.at c.lengthen.new.file.items ++ (c.args.bytes.now ++ drop (c.args.at + length c.args.bytes.now) c.lengthen.new.file.items)
    = c.put.ensures ∙ ap (λ (l : List ℕ). take c.args.at l ++ (c.args.bytes.now ++ drop (c.args.at + length c.args.bytes.now) l)) same in
    let most : length c.lengthen.new.file.items ≡ length c.args.file.now.items + (c.args.at + length c.args.bytes.now - length c.args.file.now.items)
    = omega (arith, ap length grown, length-append c.args.file.now.items (replicate (c.args.at + length c.args.bytes.now - length c.args.file.now.items) 0), length-replicate {A = ℕ} (c.args.at + length c.args.bytes.now - length c.args.file.now.items) 0) in
    let size : length c.put.new.file ≡ length c.lengthen.new.file.items
    = omega (arith, most, ap length put, length-append (take c.args.at c.lengthen.new.file.items) (c.args.bytes.now ++ drop (c.args.at + length c.args.bytes.now) c.lengthen.new.file.items), length-append c.args.bytes.now (drop (c.args.at + length c.args.bytes.now) c.lengthen.new.file.items), length-take c.args.at c.lengthen.new.file.items, length-drop (c.args.at + length c.args.bytes.now) c.lengthen.new.file.items) in
    ap (λ (l : List ℕ). take c.lengthen.new.file.len (c.put.new.file ++ l)) (drop_all (length c.put.new.file) c.lengthen.new.file.items (omega (arith, size)))
    ∙ ap (take c.lengthen.new.file.len) (append-nil c.put.new.file) ∙ take_all c.lengthen.new.file.len c.put.new.file (omega (arith, size, count)) ∙ put
    ∙ ap (λ (l : List ℕ). take c.args.at l ++ (c.args.bytes.now ++ drop (c.args.at + length c.args.bytes.now) l)) grown ∙ overlaid_long c.args.file.now.items c.args.at c.args.bytes.now
