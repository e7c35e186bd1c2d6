use Rattle.std.proofs.Common.{arith, ◌≡◌, ◌∙◌, ap, ◌++◌, ◌∷◌, [], ◌<◌, ◌≤◌}
use Rattle.std.proofs.lemmas.Result.{err_from_is_err_and}
use Rattle.wire_reading.proofs.lemmas.serialize.reading.StringsRead.{string_moves, strings_fail, strings_go_on, strings_done}
use Rattle.wire_reading.proofs.serialize.reading.decoder.BinDecoder.read_strings.Goals as goal

pub returns-in_err-string : goal.returns-in_err-string
returns-in_err-string c =
    let p = err_from_is_err_and c.from_residual.result c.from_residual.ensures.1 in
    let lt : c.strings.self.place < c.args.stop = omega arith in
    rw (p.1, p.2) (strings_fail _ _ c.strings.self _ c.strings.invariant.so_far _ lt c.in_err-string.ensures.exact.0, c.in_err-string.ensures.exact.1 ∙ c.strings.invariant.kept)

pub strings-smaller : goal.strings-smaller
strings-smaller c =
    let m = string_moves c.strings.self (_, c.read_string.new.self) c.in_ok-string.ensures.exact.0 in
    let lt : c.strings.self.place < c.args.stop = omega arith in
    omega arith

pub strings-preserved : goal.strings-preserved
strings-preserved c =
    let lt : c.strings.self.place < c.args.stop = omega arith in
    let pushed : c.push.new.self ≡ c.strings.strings ++ c.in_ok-string.string.now ∷ [] = c.in_ok-push.ensures.ok ∙ ap (λ s. c.strings.strings ++ s ∷ []) c.in_ok-from_slice.ensures in
    let next = strings_go_on _ _ c.strings.self _ c.strings.invariant.so_far _ c.in_ok-string.string.now lt c.in_ok-string.ensures.exact.0 in
    record { so_far = rw pushed next; kept = c.in_ok-string.ensures.exact.1 ∙ c.strings.invariant.kept }

pub returns : goal.returns
returns c =
    let le : c.args.stop ≤ c.strings.self.place = omega arith in
    (strings_done _ _ c.strings.self _ c.strings.invariant.so_far le, c.strings.invariant.kept)
