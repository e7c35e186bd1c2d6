use Rattle.std.proofs.Common.{◌≡◌, ◌∷◌, string_bytes, refl, arith, inl, inr}
use Rattle.std.proofs.lemmas.Grind.{common_steps}
use Rattle.server_settings.specs.Settings.{settings_of}
use Rattle.server_settings.proofs.lemmas.Putting.{sums-on}
use Rattle.toml.specs.View.{view, members_view}
use Rattle.toml.proofs.Views.{Entry}
use Rattle.server_settings.proofs.reading.settings_of.Goals as goal

pub loop-name-preserved : goal.loop-name-preserved
loop-name-preserved c =
    let (sums, known, has) = c.loop-name.invariant in
    let entry : Entry = (c.in-Some.name.now, c.in-Some.value.now) in
    let left = c.next.new.self in
    let front : c.loop-name.name-iterator ≡ entry ∷ left = grind (arith, common_steps) in
    let (those, gives, put) = c.in_default.ensures.put in (
      sums-on (settings_of (members_view left)) (settings_of (members_view c.args.table.now.entries)) those _ _ put (rw (front, gives) at sums),
      (λ rest. (rw front at known) (c.in_default.ensures.known, rest)),
      (λ name d there. (rw front at has) name d (inr there)),
    )

pub returns-in-Err-clause-refused : goal.returns-in-Err-clause-refused
returns-in-Err-clause-refused c =
    let entry : Entry = (c.in-Some.name.now, c.in-Some.value.now) in
    let left = c.next.new.self in
    let front : c.loop-name.name-iterator ≡ entry ∷ left = grind (arith, common_steps) in
    (string_bytes entry.0, view entry.1, (rw front at c.loop-name.invariant.2) (string_bytes entry.0) (view entry.1) (inl (refl, refl)), c.in-Err.ensures.refused)
