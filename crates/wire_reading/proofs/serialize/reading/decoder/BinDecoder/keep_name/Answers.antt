use Rattle.std.proofs.Common.{◌≡◌, List, Option, Some, None, ℕ, sym, ap, subst, ◌∙◌}
use Rattle.std.specs.Prelude.{IfSome}
use Rattle.wire_messages.specs.serialize.reading.Cursor.{Cursor}
use Rattle.wire_reading.specs.representation.KnownNames.{IsRest}
use Rattle.wire_reading.proofs.lemmas.serialize.reading.KnownRests.{rest_of_name}
use Rattle.wire_reading.proofs.serialize.reading.decoder.BinDecoder.keep_name.Goals as goal
use Rattle.wire_reading.proofs.serialize.reading.decoder.BinDecoder.keep_name.Goals.{then-is_none+in_ok-new+in-Some-1, then-is_none+in_ok-new+in-None-1, else-is_none}

only : (x y b : List ℕ) → Some x ≡ Some y → y ≡ b → x ≡ b
only x y b e k = let h : x ≡ y = cc in h ∙ k

only_if : (x : List ℕ) (o : Option (List ℕ)) (b : List ℕ) → Some x ≡ o → IfSome o (λ y. y ≡ b) → x ≡ b
only_if x (Some y) b e k = only x y b e k
only_if x None b e k = absurd cc

pub keep-requires : goal.keep-requires
keep-requires c =
    let seen : c.args.self.now.bytes ≡ c.self.inside.bytes.now = ap (λ (d : Cursor). d.bytes) (sym c.self.view_is) in
    let same : c.in-Some.known ≡ c.self.inside.bytes.now = elim c.if-is_none.branch [
      | then-is_none+in_ok-new+in-Some-1 w ↦ let k = w.in_ok-new.ensures in let e = w.self-inside-is in let i = c.in-Some.is in only _ _ _ (sym i ∙ ap (λ d. d.known) e) k
      | then-is_none+in_ok-new+in-None-1 w ↦ let k = w.in_ok-new.ensures in let e = w.self-inside-is in let i = c.in-Some.is in only _ _ _ (sym i ∙ ap (λ d. d.known) e) k
      | else-is_none w ↦ let k = c.self.invariant.2 in let e = w.self-inside-is in let i = c.in-Some.is in only_if _ _ _ (sym i ∙ ap (λ d. d.known) e) k
    ] in
    subst (λ (b : List ℕ). IsRest b c.args.place c.args.place c.as_wire.result.now) (seen ∙ sym same)
    (rest_of_name c.args.self.now.bytes c.as_wire.result.now c.args.place c.requires.0 c.args.name.now.labels c.as_wire.ensures.labels c.as_wire.ensures.is_wire c.requires.1)
