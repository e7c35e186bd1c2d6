use Rattle.std.proofs.Common.{◌≡◌, ◌++◌, ◌∷◌, [], Some, codes, map, string_bytes, arith}
use Rattle.std.proofs.lemmas.Grind.{common_steps}
use Rattle.server_settings.specs.Settings.{said, text_of, texts_of_members, under}
use Rattle.server_settings.proofs.lemmas.Putting.{leads-on}
use Rattle.toml.specs.View.{view, members_view}
use Rattle.toml.proofs.Views.{Entry}
use Rattle.server_settings.proofs.values.put_members.Goals as goal

pub loop-key-preserved : goal.loop-key-preserved
loop-key-preserved c =
    let entry : Entry = (c.in-Some.key.now, c.in-Some.member.now) in
    let left = c.next.new.self in
    let name = c.args.name.now in
    let text = string_bytes entry.0 ++ codes "=" ++ string_bytes c.in-Some-2.text in
    let front : c.loop-key.key-iterator ≡ entry ∷ left = grind (arith, common_steps) in
    let gives : text_of (view entry.1) ≡ Some (string_bytes c.in-Some-2.text) = grind (arith, common_steps) in
    let put : map said c.put_text.new.settings.items ≡ map said c.loop-key.settings.items ++ under name (text ∷ []) = grind (arith, common_steps) in
    leads-on (texts_of_members (members_view left)) (texts_of_members (members_view c.args.members.now.entries)) text name _ _ _ put
    (rw (front, gives) at c.loop-key.invariant)
