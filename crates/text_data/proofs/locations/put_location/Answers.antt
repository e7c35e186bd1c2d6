use Rattle.std.proofs.Common.{◌≡◌, ◌∙◌, ℕ, List, sym, ap, subst}
use Rattle.std.proofs.lemmas.Result.{err_from_is_err_and}
use Rattle.text_words.specs.declared.words.Word.{Word}
use Rattle.text_data.specs.LocationText.{IsCoordinate, behind_letter}
use Rattle.text_data.proofs.locations.put_location.Goals as goal

moved : (p q m n k j : ℕ) (words : List Word) (value : ℕ) → p ≡ q → m ≡ n → k ≡ j → IsCoordinate q n j words value → IsCoordinate p m k words value
moved p q m n k j words value e f g is =
    subst (λ (x : ℕ). IsCoordinate x m k words value) (sym e) (subst (λ (x : ℕ). IsCoordinate q x k words value) (sym f) (subst (λ (x : ℕ). IsCoordinate q n x words value) (sym g) is))

behind_is : (p q m n : ℕ) (words behind : List Word) → p ≡ q → m ≡ n → behind ≡ behind_letter p m words → behind ≡ behind_letter q n words
behind_is p q m n words behind e f is = is ∙ ap (λ (x : ℕ). behind_letter x m words) e ∙ ap (λ (x : ℕ). behind_letter q x words) f

pub returns-in_err-latitude-clause-refused : goal.returns-in_err-latitude-clause-refused
returns-in_err-latitude-clause-refused c =
    let p = err_from_is_err_and c.from_residual.result c.from_residual.ensures.1 in
    rw (p.1, p.2) (λ other octets is. c.in_err-latitude.ensures.refused is.latitude
    (moved c.north_and_south.result.plus 78 c.north_and_south.result.minus 83 c.north_and_south.result.most 90 c.args.words.now is.latitude c.north_and_south.ensures.plus c.north_and_south.ensures.minus c.north_and_south.ensures.most is.north))

pub returns-in_err-longitude-clause-refused : goal.returns-in_err-longitude-clause-refused
returns-in_err-longitude-clause-refused c =
    let p = err_from_is_err_and c.from_residual-in_err-longitude.result c.from_residual-in_err-longitude.ensures.1 in
    let there : c.in_ok-latitude.behind.now ≡ behind_letter 78 83 c.args.words.now =
    behind_is c.north_and_south.result.plus 78 c.north_and_south.result.minus 83 c.args.words.now c.in_ok-latitude.behind.now c.north_and_south.ensures.plus c.north_and_south.ensures.minus c.in_ok-latitude.ensures.behind in
    rw (p.1, p.2) (λ other octets is. c.in_err-longitude.ensures.refused is.longitude
    (moved c.east_and_west.result.plus 69 c.east_and_west.result.minus 87 c.east_and_west.result.most 180 c.in_ok-latitude.behind.now is.longitude c.east_and_west.ensures.plus c.east_and_west.ensures.minus c.east_and_west.ensures.most
    (subst (λ (ws : List Word). IsCoordinate 69 87 180 ws is.longitude) (sym there) is.east)))
