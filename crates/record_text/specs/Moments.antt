-- Moments in a zone's text (RFC 4034 section 3.2).
use Rattle.std.specs.Prelude.{◌≡◌, ◌≢◌, ℕ, ◌+◌, ◌-◌, ◌*◌, ◌/◌, ◌%◌, ◌^◌, ◌<◌, ◌≤◌, ◌==◌, ◌&&◌, ◌||◌, not, nat_lt, if◌then◌else◌, Bool, List, [], ◌∷◌, ◌++◌, length, slice_index}
use Rattle.record_text.specs.declared.data.moment.Date.{Date}
use Rattle.text_words.specs.Spelling.{IsNumber}

-- how many days the years from year 1 on have before a year of the Gregorian calendar
abbrev pub days_before_year : ℕ → ℕ
days_before_year year = 365 * (year - 1) + (year - 1) / 4 + (year - 1) / 400 - (year - 1) / 100

-- a year with a 29th of February
abbrev pub is_leap : ℕ → Bool
is_leap year = (year % 4 == 0) && (not (year % 100 == 0) || (year % 400 == 0))

-- how many days a year has before a month, the first of which is 1
abbrev pub days_before_month : Bool → ℕ → ℕ
days_before_month leap month =
    slice_index (0 ∷ 0 ∷ 31 ∷ 59 ∷ 90 ∷ 120 ∷ 151 ∷ 181 ∷ 212 ∷ 243 ∷ 273 ∷ 304 ∷ 334 ∷ []) month + (if leap && nat_lt 2 month then 1 else 0)

-- a date from year 1 on, with its time of day
pub record IsDate (date : Date) : Type 0 where
  pub from_year_1 : 1 ≤ date.year
  pub year : date.year < 10000
  pub from_january : 1 ≤ date.month
  pub month : date.month ≤ 12
  pub from_first : 1 ≤ date.day
  pub day : date.day ≤ 31
  pub hour : date.hour < 24
  pub minute : date.minute < 60
  pub second : date.second < 61

-- seconds from the beginning of year 1
abbrev pub date_seconds : Date → ℕ
date_seconds date =
    let days = days_before_year date.year + days_before_month (is_leap date.year) date.month + date.day - 1 in
    60 * (60 * (24 * days + date.hour) + date.minute) + date.second

-- fourteen digits: four of the year, and two each of the month, day, hour, minute and second
pub record SpellsDate (text : List ℕ) (date : Date) : Type 0 where
  pub year : List ℕ
  pub month : List ℕ
  pub day : List ℕ
  pub hour : List ℕ
  pub minute : List ℕ
  pub second : List ℕ
  pub in_order : text ≡ year ++ month ++ day ++ hour ++ minute ++ second
  pub four : length year ≡ 4
  pub two : (length month ≡ 2) × (length day ≡ 2) × (length hour ≡ 2) × (length minute ≡ 2) × (length second ≡ 2)
  pub years : IsNumber year date.year
  pub months : IsNumber month date.month
  pub days : IsNumber day date.day
  pub hours : IsNumber hour date.hour
  pub minutes : IsNumber minute date.minute
  pub seconds : IsNumber second date.second

-- A date in 32 bits: its seconds since 1970, before which are 719162 days, without what goes beyond these; those before
-- 1970 are counted back from 0, and so from a multiple of 2^32 (section 3.1.5).
abbrev pub date_bits : Date → ℕ
date_bits date = (date_seconds date + 15 * 2 ^ 32 - 86400 * 719162) % 2 ^ 32

-- A moment: fourteen digits are a date, and otherwise digits are the seconds since 1970, of 32 bits.
pub data SpellsMoment : List ℕ → ℕ → Type 0 where
  date : {text : List ℕ} {date : Date} → IsDate date → SpellsDate text date → SpellsMoment text (date_bits date)
  seconds : {text : List ℕ} {n : ℕ} → length text ≢ 14 → IsNumber text n → n < 2 ^ 32 → SpellsMoment text n
