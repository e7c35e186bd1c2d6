-- Texts that are no date and no moment.
use Rattle.std.proofs.Common.{◌≡◌, ◌∙◌, ◌^◌, ◌<◌, ◌≤◌, ℕ, List, [], ◌∷◌, ◌++◌, length, take, drop, sym, ap, subst, arith, append_assoc, length-append}
use Rattle.std.proofs.lemmas.Int.Digits.{digits_value-lt}
use Rattle.std.proofs.lemmas.List.{drop_at, take_at}
use Rattle.std.specs.Prelude.{◌≢◌}
use Rattle.std.specs.Str.Parse.{digits_value}
use Rattle.record_text.specs.declared.data.moment.Date.{Date}
use Rattle.record_text.specs.Moments.{IsDate, SpellsDate, SpellsMoment}
use Rattle.record_text.specs.Moments.SpellsMoment.{date, seconds}
use Rattle.record_text.specs.RecordText.{HasNone}
use Rattle.text_words.specs.Spelling.{IsNoNumber, IsNumber}

-- the parts of a date where they stand
pub record Parts (text : List ℕ) (d : Date) : Type 0 where
  pub years : IsNumber (take 4 text) d.year
  pub months : IsNumber (take 2 (drop 4 text)) d.month
  pub days : IsNumber (take 2 (drop 6 text)) d.day
  pub hours : IsNumber (take 2 (drop 8 text)) d.hour
  pub minutes : IsNumber (take 2 (drop 10 text)) d.minute
  pub seconds : IsNumber (drop 12 text) d.second

-- what stands in the middle of a text
middle : (text front own behind : List ℕ) (n : ℕ) → text ≡ (front ++ own) ++ behind → length front ≡ n → length own ≡ 2 → take 2 (drop n text) ≡ own
middle text front own behind n whole len two =
    ap (λ (t : List ℕ). take 2 (drop n t)) (whole ∙ append_assoc front own behind) ∙ ap (λ (t : List ℕ). take 2 t) (drop_at front (own ++ behind) n len) ∙ take_at own behind 2 two

pub parts_of : (text : List ℕ) (d : Date) → SpellsDate text d → Parts text d
parts_of text d is =
    let y : List ℕ = is.year in
    let m : List ℕ = is.month in
    let a : List ℕ = is.day in
    let h : List ℕ = is.hour in
    let i : List ℕ = is.minute in
    let s : List ℕ = is.second in
    let ym : length (y ++ m) ≡ 6 = omega (arith, length-append y m, is.four, is.two.0) in
    let yma : length ((y ++ m) ++ a) ≡ 8 = omega (arith, length-append (y ++ m) a, ym, is.two.1) in
    let ymah : length (((y ++ m) ++ a) ++ h) ≡ 10 = omega (arith, length-append ((y ++ m) ++ a) h, yma, is.two.2) in
    let ymahi : length ((((y ++ m) ++ a) ++ h) ++ i) ≡ 12 = omega (arith, length-append (((y ++ m) ++ a) ++ h) i, ymah, is.two.3) in
    let one : text ≡ y ++ (m ++ (a ++ (h ++ (i ++ s)))) = is.in_order ∙ simp append_assoc in
    let two : text ≡ (y ++ m) ++ (a ++ (h ++ (i ++ s))) = is.in_order ∙ simp append_assoc in
    let three : text ≡ ((y ++ m) ++ a) ++ (h ++ (i ++ s)) = is.in_order ∙ simp append_assoc in
    let four : text ≡ (((y ++ m) ++ a) ++ h) ++ (i ++ s) = is.in_order ∙ simp append_assoc in
    let five : text ≡ ((((y ++ m) ++ a) ++ h) ++ i) ++ s = is.in_order in
    record {
      years = subst (λ (t : List ℕ). IsNumber t d.year) (sym (ap (λ (t : List ℕ). take 4 t) one ∙ take_at y (m ++ (a ++ (h ++ (i ++ s)))) 4 is.four)) is.years;
      months = subst (λ (t : List ℕ). IsNumber t d.month) (sym (middle text y m (a ++ (h ++ (i ++ s))) 4 two is.four is.two.0)) is.months;
      days = subst (λ (t : List ℕ). IsNumber t d.day) (sym (middle text (y ++ m) a (h ++ (i ++ s)) 6 three ym is.two.1)) is.days;
      hours = subst (λ (t : List ℕ). IsNumber t d.hour) (sym (middle text ((y ++ m) ++ a) h (i ++ s) 8 four yma is.two.2)) is.hours;
      minutes = subst (λ (t : List ℕ). IsNumber t d.minute) (sym (middle text (((y ++ m) ++ a) ++ h) i s 10 five ymah is.two.3)) is.minutes;
      seconds = subst (λ (t : List ℕ). IsNumber t d.second) (sym (ap (λ (t : List ℕ). drop 12 t) five ∙ drop_at ((((y ++ m) ++ a) ++ h) ++ i) s 12 ymahi)) is.seconds;
    }

-- four digits at most are a number of 32 bits
pub few_digits : (text : List ℕ) (n : ℕ) → length text ≤ 4 → IsNumber text n → IsNoNumber text → ⊥
few_digits text n few is none = none n is (omega (arith, is.value, small text few (digits_value-lt 10 text is.digits.1))) where
  small : (text : List ℕ) → length text ≤ 4 → digits_value 10 text < 10 ^ length text → digits_value 10 text < 10000
  small [] few less = omega (arith, less)
  small (a ∷ []) few less = omega (arith, less)
  small (a ∷ b ∷ []) few less = omega (arith, less)
  small (a ∷ b ∷ c ∷ []) few less = omega (arith, less)
  small (a ∷ b ∷ c ∷ d ∷ []) few less = omega (arith, less)
  small (a ∷ b ∷ c ∷ d ∷ e ∷ text) few less = absurd (omega arith)

same_number : (text : List ℕ) (n m : ℕ) → IsNumber text n → IsNumber text m → n ≡ m
same_number text n m one two = sym one.value ∙ two.value

-- fourteen digits that are a date which is none are no moment
pub no_date : (text : List ℕ) (d : Date) → length text ≡ 14 → SpellsDate text d → (IsDate d → ⊥) → HasNone (SpellsMoment text)
no_date text d len spelled none n (seconds other is small) = other len
no_date text d len spelled none n (date {date = e} is other) =
    let one : Parts text d = parts_of text d spelled in
    let two : Parts text e = parts_of text e other in
    let years : d.year ≡ e.year = same_number (take 4 text) d.year e.year one.years two.years in
    let months : d.month ≡ e.month = same_number (take 2 (drop 4 text)) d.month e.month one.months two.months in
    let days : d.day ≡ e.day = same_number (take 2 (drop 6 text)) d.day e.day one.days two.days in
    let hours : d.hour ≡ e.hour = same_number (take 2 (drop 8 text)) d.hour e.hour one.hours two.hours in
    let minutes : d.minute ≡ e.minute = same_number (take 2 (drop 10 text)) d.minute e.minute one.minutes two.minutes in
    let seconds_are : d.second ≡ e.second = same_number (drop 12 text) d.second e.second one.seconds two.seconds in
    none (record {
      from_year_1 = omega (arith, years, is.from_year_1);
      year = omega (arith, years, is.year);
      from_january = omega (arith, months, is.from_january);
      month = omega (arith, months, is.month);
      from_first = omega (arith, days, is.from_first);
      day = omega (arith, days, is.day);
      hour = omega (arith, hours, is.hour);
      minute = omega (arith, minutes, is.minute);
      second = omega (arith, seconds_are, is.second);
    })

pub no_digits : (text : List ℕ) → length text ≡ 14 → HasNone (SpellsDate text) → HasNone (SpellsMoment text)
no_digits text len none n (seconds other is small) = other len
no_digits text len none n (date {date = e} is spelled) = none e spelled

pub no_seconds : (text : List ℕ) → length text ≢ 14 → IsNoNumber text → HasNone (SpellsMoment text)
no_seconds text other none n (seconds differs is small) = none n is small
no_seconds text other none n (date {date = e} is spelled) = other (fourteen spelled) where
  fourteen : {text : List ℕ} {e : Date} → SpellsDate text e → length text ≡ 14
  fourteen {text} {e} s =
      omega (
        arith,
        ap length s.in_order,
        length-append s.year s.month,
        length-append (s.year ++ s.month) s.day,
        length-append (s.year ++ s.month ++ s.day) s.hour,
        length-append (s.year ++ s.month ++ s.day ++ s.hour) s.minute,
        length-append (s.year ++ s.month ++ s.day ++ s.hour ++ s.minute) s.second,
        s.four,
        s.two.0,
        s.two.1,
        s.two.2,
        s.two.3,
        s.two.4,
      )
