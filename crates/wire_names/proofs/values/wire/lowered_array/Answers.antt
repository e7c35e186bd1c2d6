use Rattle.std.proofs.Common.{◌≡◌, ◌∙◌, ◌∷◌, ◌++◌, ◌+◌, [], arith, ap, length, map, sym, take}
use Rattle.std.proofs.lemmas.List.{length-append, length-map, length-take-le, take-append-le, take-map, take_all}
use Rattle.std.specs.Char.{to_ascii_lowercase}
use Rattle.wire_names.proofs.values.wire.lowered_array.Goals as goal

pub slice_bounds-copy_from_slice-end-4 : goal.slice_bounds-copy_from_slice-end-4
slice_bounds-copy_from_slice-end-4 c =
    let front = c.copy_from_slice.new.self in
    let long : length c.make_ascii_lowercase.new.self ≡ length front + 2
    = ap length c.make_ascii_lowercase.ensures.after ∙ length-map (front ++ 0 ∷ 0 ∷ []) to_ascii_lowercase ∙ length-append front (0 ∷ 0 ∷ []) in
    let short : length front ≡ 30 = c.copy_from_slice.ensures.len in
    sym (length-take-le 30 c.make_ascii_lowercase.new.self (omega (arith, long, short)))

pub copy_from_slice-requires-2 : goal.copy_from_slice-requires-2
copy_from_slice-requires-2 c =
    let front = c.copy_from_slice.new.self in
    let long : length c.make_ascii_lowercase.new.self ≡ length front + 2
    = ap length c.make_ascii_lowercase.ensures.after ∙ length-map (front ++ 0 ∷ 0 ∷ []) to_ascii_lowercase ∙ length-append front (0 ∷ 0 ∷ []) in
    let short : length front ≡ 30 = c.copy_from_slice.ensures.len in
    sym (length-take-le 30 c.make_ascii_lowercase.new.self (omega (arith, long, short)))

pub returns : goal.returns
returns c =
    let front = c.copy_from_slice.new.self in
    let short : length front ≡ 30 = c.copy_from_slice.ensures.len in
    c.copy_from_slice-2.ensures.after
    ∙ ap (take 30) c.make_ascii_lowercase.ensures.after
    ∙ take-map to_ascii_lowercase 30 (front ++ 0 ∷ 0 ∷ [])
    ∙ ap (map to_ascii_lowercase) (take-append-le 30 front (0 ∷ 0 ∷ []) (omega (arith, short)) ∙ take_all 30 front (omega (arith, short)) ∙ c.copy_from_slice.ensures.after)
