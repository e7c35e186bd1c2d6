-- By the key that was found, where the record has its fixed fields.
use Rattle.std.proofs.Common.{◌≡◌, true, sym, ◌∙◌}
use Rattle.tsig.specs.Judging.{has_fixed_fields}
use Rattle.tsig.proofs.judging.judged_of.Goals as goal

pub returns-then-has_fixed_fields : goal.returns-then-has_fixed_fields
returns-then-has_fixed_fields c =
    let fixed : has_fixed_fields c.args.p.signature ≡ true = sym c.has_fixed_fields.ensures ∙ c.if-has_fixed_fields.true in
    rw (fixed, ← c.find.ensures) c.judged_by.ensures
