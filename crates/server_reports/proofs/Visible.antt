-- Words of a line are visible characters.
use Rattle.std.proofs.Common.{◌≡◌, ◌+◌, ◌<◌, ◌≤◌, ◌/◌, ◌%◌, ◌^◌, ◌++◌, ◌∷◌, ◌==◌, ◌&&◌, [], All, Bool, ℕ, zero, suc, true, false, List, codes, cond, decimal, nat_le, refl, arith}
use Rattle.std.proofs.lemmas.Fmt.{decimal_by_steps}
use Rattle.std.proofs.lemmas.Grind.{common_steps}
use Rattle.std.proofs.lemmas.List.Elements.{All-append, All-cons, All-head, All-nil, All-tail}
use Rattle.server_reports.specs.QueryLines.{IsVisible, byte_text, class_text, code_text, code_words, dot_behind, is_plain, labels_text, name_text, type_text, type_words, word_in}

of_cond : (b : Bool) (x y : List ℕ) → (b ≡ true → All IsVisible x) → All IsVisible y → All IsVisible (cond b x y)
of_cond true x y first second = first refl
of_cond false x y first second = second

-- a literal word
abbrev are_seen : List ℕ → Bool
are_seen [] = true
are_seen (byte ∷ bytes) = (nat_le 33 byte && nat_le byte 126) && are_seen bytes

seen : (word : List ℕ) → are_seen word ≡ true → All IsVisible word
seen [] is = All-nil IsVisible
seen (byte ∷ bytes) is =
    let both : ((nat_le 33 byte && nat_le byte 126) && are_seen bytes) ≡ true = is in
    let first : IsVisible byte = grind (arith, common_steps) in
    let rest : are_seen bytes ≡ true = grind (arith, common_steps) in
    All-cons IsVisible byte bytes first (seen bytes rest)

-- words of a table
abbrev have_seen : List (ℕ × List ℕ) → Bool
have_seen [] = true
have_seen ((n, word) ∷ more) = are_seen word && have_seen more

in_table : (table : List (ℕ × List ℕ)) (n : ℕ) (other : List ℕ) → have_seen table ≡ true → All IsVisible other → All IsVisible (word_in table n other)
in_table [] n other are rest = rest
in_table ((m, word) ∷ more) n other are rest =
    let both : (are_seen word && have_seen more) ≡ true = are in
    let first : are_seen word ≡ true = grind (arith, common_steps) in
    let others : have_seen more ≡ true = grind (arith, common_steps) in
    of_cond (n == m) word (word_in more n other) (λ _. seen word first) (in_table more n other others rest)

-- ---- numbers

digit : (n : ℕ) → n < 10 → All IsVisible ((48 + n) ∷ [])
digit n less = All-cons IsVisible (48 + n) [] (omega arith, omega arith) (All-nil IsVisible)

last_digit : (n : ℕ) (front : List ℕ) → 10 ≤ n → All IsVisible front → All IsVisible (front ++ (48 + n % 10) ∷ [])
last_digit n front more before = All-append IsVisible front ((48 + n % 10) ∷ []) before (digit (n % 10) (omega arith))

pub in_decimal : (n : ℕ) → n < 2 ^ 64 → All IsVisible (decimal n)
in_decimal n small = decimal_by_steps (λ m ds. All IsVisible ds) digit last_digit n small

in_numbered : (table : List (ℕ × List ℕ)) (word : List ℕ) (n : ℕ) → have_seen table ≡ true → are_seen word ≡ true → n < 2 ^ 16
    → All IsVisible (word_in table n (word ++ decimal n))
in_numbered table word n are is small = in_table table n (word ++ decimal n) are (All-append IsVisible word (decimal n) (seen word is) (in_decimal n (omega arith)))

pub in_numbers : (n : ℕ) → n < 2 ^ 16 → All IsVisible (class_text n) × All IsVisible (type_text n) × All IsVisible (code_text n)
in_numbers n small = (
  in_numbered ((1, codes "IN") ∷ (255, codes "ANY") ∷ []) (codes "CLASS") n refl refl small,
  in_numbered type_words (codes "TYPE") n refl refl small,
  in_numbered code_words (codes "RCODE") n refl refl small,
)

-- ---- names

plain : (byte : ℕ) → is_plain byte ≡ true → IsVisible byte
plain byte is = grind (arith, common_steps)

in_byte : (byte : ℕ) → byte < 256 → All IsVisible (byte_text byte)
in_byte byte less =
    of_cond (is_plain byte) (byte ∷ []) (92 ∷ (48 + byte / 100) ∷ (48 + byte / 10 % 10) ∷ (48 + byte % 10) ∷ [])
    (λ is. All-cons IsVisible byte [] (plain byte is) (All-nil IsVisible))
    (All-cons IsVisible 92 ((48 + byte / 100) ∷ (48 + byte / 10 % 10) ∷ (48 + byte % 10) ∷ []) (omega arith, omega arith) (
    All-cons IsVisible (48 + byte / 100) ((48 + byte / 10 % 10) ∷ (48 + byte % 10) ∷ []) (omega arith, omega arith) (
    All-cons IsVisible (48 + byte / 10 % 10) ((48 + byte % 10) ∷ []) (omega arith, omega arith) (digit (byte % 10) (omega arith)))))

in_dot : (left : ℕ) → All IsVisible (dot_behind left)
in_dot left = of_cond (left == 0) (codes ".") [] (λ _. All-cons IsVisible 46 [] (omega arith, omega arith) (All-nil IsVisible)) (All-nil IsVisible)

in_labels : (left : ℕ) (bytes : List ℕ) → All (λ byte. byte < 256) bytes → All IsVisible (labels_text left bytes)
in_labels left [] small = All-nil IsVisible
in_labels zero (byte ∷ bytes) small =
    of_cond (byte == 0) [] (labels_text byte bytes) (λ _. All-nil IsVisible) (in_labels byte bytes (All-tail (λ b. b < 256) byte bytes small))
in_labels (suc left) (byte ∷ bytes) small =
    All-append IsVisible (byte_text byte ++ dot_behind left) (labels_text left bytes)
    (All-append IsVisible (byte_text byte) (dot_behind left) (in_byte byte (All-head (λ b. b < 256) byte bytes small)) (in_dot left))
    (in_labels left bytes (All-tail (λ b. b < 256) byte bytes small))

pub in_name : (bytes : List ℕ) → All (λ byte. byte < 256) bytes → All IsVisible (name_text bytes)
in_name bytes small = of_cond _ (codes ".") (labels_text 0 bytes) (λ _. in_dot 0) (in_labels 0 bytes small)
