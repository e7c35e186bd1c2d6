use Rattle.std.proofs.Common.{◌∙◌, ap, map, take, ℕ}
use Rattle.std.proofs.lemmas.List.{take-map}
use Rattle.std.specs.Char.{to_ascii_lowercase}
use Rattle.wire_names.proofs.values.wire.ShortBytes.make_lowercase.Goals as goal

pub returns : goal.returns
returns c =
    let len : ℕ = c.self.inside.len in
    ap (take len) c.make_ascii_lowercase.ensures.after ∙ take-map to_ascii_lowercase len c.self.inside.bytes ∙ ap (map to_ascii_lowercase) c.self.view_is
