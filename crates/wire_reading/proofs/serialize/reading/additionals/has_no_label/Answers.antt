use Rattle.std.proofs.Common.{◌≡◌, ◌==◌, ◌∙◌, ap, refl, sym, List, ℕ, [], ◌∷◌, ◌++◌, length}
use Rattle.std.proofs.Math.Dec.{eqb-suc-zero}
use Rattle.wire_names.specs.rr.domain.DomainName.{wire_form}
use Rattle.wire_reading.proofs.serialize.reading.additionals.has_no_label.Goals as goal

-- a label has at least its length byte
wire_form-empty : (labels : List (List ℕ)) → (length (wire_form labels) == 0) ≡ (length labels == 0)
wire_form-empty [] = refl
wire_form-empty (l ∷ ls) = eqb-suc-zero (length (l ++ wire_form ls)) ∙ sym (eqb-suc-zero (length ls))

pub returns : goal.returns
returns c = c.is_empty.ensures ∙ ap (λ (s : List ℕ). length s == 0) c.as_wire.ensures.labels ∙ wire_form-empty c.args.name.now.labels
