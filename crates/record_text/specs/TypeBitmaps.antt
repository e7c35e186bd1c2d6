-- Sets of types as octets (RFC 4034 section 4.1.2): types of one high octet make a window, which has the octet, the
-- number of octets of its bitmap, and the bitmap, in which the first bit is the type of the low octet 0. A window
-- without types is left out, and so are octets without types at the end of a bitmap.
use Rattle.std.specs.Prelude.{ℕ, zero, suc, ◌+◌, ◌*◌, ◌/◌, ◌%◌, ◌==◌, max, if◌then◌else◌, List, [], ◌∷◌, ◌++◌, fold}
use Rattle.std.specs.List.{list_any}

-- a bit of this weight where a type is among some
abbrev pub type_bit : List ℕ → ℕ → ℕ → ℕ
type_bit types number weight = if list_any (λ t. t == number) types then weight else 0

-- the octet of eight types, from this one on
abbrev pub bitmap_octet : List ℕ → ℕ → ℕ
bitmap_octet types first =
    type_bit types first 128 + type_bit types (first + 1) 64 + type_bit types (first + 2) 32 + type_bit types (first + 3) 16
    + type_bit types (first + 4) 8 + type_bit types (first + 5) 4 + type_bit types (first + 6) 2 + type_bit types (first + 7) 1

-- so many octets of a bitmap, whose first type is this one
abbrev pub bitmap : List ℕ → ℕ → ℕ → List ℕ
bitmap types first zero = []
bitmap types first (suc n) = bitmap types first n ++ bitmap_octet types (first + 8 * n) ∷ []

-- how many octets a window's bitmap has: to that of its greatest type
abbrev pub window_len : List ℕ → ℕ → ℕ
window_len types window = fold (λ len t. if t / 256 == window then max len (t % 256 / 8 + 1) else len) 0 types

-- a window, where it has types
abbrev pub window_octets : List ℕ → ℕ → List ℕ
window_octets types window = with_len (window_len types window) where
  with_len : ℕ → List ℕ
  with_len zero = []
  with_len (suc n) = window ∷ suc n ∷ bitmap types (256 * window) (suc n)

-- the windows below one
abbrev pub windows : List ℕ → ℕ → List ℕ
windows types zero = []
windows types (suc n) = windows types n ++ window_octets types n

-- how many octets a bitmap has that goes to the octet of the greatest of some numbers
abbrev pub bitmap_len : List ℕ → ℕ
bitmap_len numbers = fold (λ len n. max len (n / 8 + 1)) 0 numbers
