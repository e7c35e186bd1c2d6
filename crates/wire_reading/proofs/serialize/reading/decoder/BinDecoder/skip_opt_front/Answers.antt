use Rattle.std.proofs.Common.{◌≡◌, ◌∙◌, ◌-◌, ◌<◌, ℕ, List, Some, ap, sym, subst, arith, length, drop, get_or, add-zero}
use Rattle.std.specs.Prelude.{slice_get}
use Rattle.std.proofs.lemmas.List.{get_or-drop, get_or-take, length-drop}
use Rattle.std.proofs.lemmas.Option.{slice_get-get_or}
use Rattle.wire_messages.specs.serialize.reading.Cursor.{Cursor}
use Rattle.wire_reading.proofs.lemmas.serialize.reading.OptRecord.{root_here}
use Rattle.wire_reading.proofs.serialize.reading.decoder.BinDecoder.skip_opt_front.Goals as goal

pub returns-clause-root : goal.returns-clause-root
returns-clause-root c = λ _.
    let bytes : List ℕ = c.self.inside.bytes.now in
    let place : ℕ = c.self.inside.index in
    let inside : place < length bytes = omega (arith, length-drop place bytes) in
    let first : get_or bytes place 0 ≡ 0 =
    ap (λ (k : ℕ). get_or bytes k 0) (sym (add-zero place))
    ∙ sym (get_or-drop place bytes 0 0)
    ∙ sym (get_or-take (length bytes - place) (drop place bytes) 0 0 (omega arith))
    ∙ c.if-rest-ne0.false in
    let h : slice_get bytes place ≡ Some 0 = slice_get-get_or bytes place 0 inside ∙ ap Some first in
    root_here c.args.self.now (subst (λ (d : Cursor). slice_get d.bytes d.place ≡ Some 0) c.self.view_is h)
