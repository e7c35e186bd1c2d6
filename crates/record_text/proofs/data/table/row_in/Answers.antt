use Rattle.std.proofs.Common.{◌≡◌, ◌∙◌, ℕ, true, false, List, [], ◌∷◌, Some, cond, ap, refl}
use Rattle.std.specs.Prelude.{◌==◌, find, map}
use Rattle.std.specs.Option.{option_map}
use Rattle.record_text.specs.declared.data.field.Row.{Row}
use Rattle.record_text.specs.RecordText.{row_view}
use Rattle.record_text.specs.TypeTable.{TypeRow}
use Rattle.record_text.proofs.data.table.row_in.Goals as goal

view-find : (own : List Row) (number : ℕ) → option_map row_view (find (λ row. row.number == number) own) ≡ find (λ row. row.number == number) (map row_view own)
view-find [] number = refl
view-find (row ∷ own) number =
    elim (row.number == number) as (λ b. option_map row_view (cond b (Some row) (find (λ row. row.number == number) own)) ≡ cond b (Some (row_view row)) (find (λ row. row.number == number) (map row_view own)))
    [ true ↦ refl | false ↦ view-find own number ]

pub returns : goal.returns
returns c = ap (option_map row_view) c.first_row.ensures ∙ view-find c.args.table.now c.args.number ∙ ap (λ (all : List TypeRow). find (λ row. row.number == c.args.number) all) c.requires
