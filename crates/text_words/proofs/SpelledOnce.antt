-- What a word spells, it spells in one way: bytes, character strings, names and times.
use Rattle.std.proofs.Common.{◌≡◌, ◌∙◌, ℕ, ◌+◌, ◌*◌, ◌<◌, Bool, true, false, List, [], ◌∷◌, ◌++◌, length, Option, Some, sym, ap, subst, refl, append_assoc, append-nil, arith}
use Rattle.std.specs.Prelude.{IsTrue}
use Rattle.std.proofs.lemmas.Bool.Decides.{nat_tests}
use Rattle.std.proofs.lemmas.Str.Parse.{digit_from_value}
use Rattle.std.specs.Char.{digit_value}
use Rattle.std.specs.Int.{IsInRange}
use Rattle.std.specs.Str.Parse.{AllDigits, IsNumeral, digits_value}
use Rattle.wire_messages.specs.rr.RecordData.{character_string}
use Rattle.wire_names.specs.rr.domain.DomainName.{DomainName, IsLabel}
use Rattle.text_words.specs.declared.words.Word.{Word}
use Rattle.text_words.specs.Spelling.{AreLabelsWithDot, AreNameLabels, IsNumber, IsString, Spells, SpellsByte, SpellsLabel, SpellsLabels, SpellsName, SpellsTime, SpellsUnits, any_byte, bare_in_label, unit_seconds}
use Rattle.text_words.specs.Spelling.SpellsByte.{bare, numbered, escaped}
use Rattle.text_words.specs.Spelling.Spells.{nothing, more}
use Rattle.text_words.specs.Spelling.SpellsLabels.{nothing as no_labels, more as one_label}
use Rattle.text_words.specs.Spelling.AreLabelsWithDot.{dot_last, no_dot}
use Rattle.text_words.specs.Spelling.AreNameLabels.{root, origin, labels}
use Rattle.text_words.specs.Spelling.SpellsName.{absolute, relative}
use Rattle.text_words.specs.Spelling.SpellsTime.{seconds as of_seconds, units as of_units}
use Rattle.text_words.specs.Spelling.SpellsUnits.{nothing as no_time, more as one_unit}

pub heads : (a b : ℕ) (r s : List ℕ) → (a ∷ r) ≡ (b ∷ s) → (a ≡ b) × (r ≡ s)
heads a b r s e = (cc, cc)

first_digit : (h t o : ℕ) → IsNumeral 10 (h ∷ t ∷ o ∷ []) → IsNumeral 10 (h ∷ [])
first_digit h t o d = (omega arith, (d.1.0, tt))

-- the text of one byte, at the front of a text
pub same_piece : (p q r s : List ℕ) (a b : ℕ) (x y : Bool) → SpellsByte p a x → SpellsByte q b y → (p ++ r) ≡ (q ++ s) → (p ≡ q) × (a ≡ b) × (x ≡ y) × (r ≡ s)
same_piece p q r s a b x y (bare n) (bare m) e = let h = heads a b r s e in (ap (λ (c : ℕ). c ∷ []) h.0, h.0, refl, h.1)
same_piece p q r s a b x y (bare n) (numbered {hundreds = h} {tens = t} {ones = o} is small) e = absurd (n (heads a 92 r (h ∷ t ∷ o ∷ s) e).0)
same_piece p q r s a b x y (bare n) (escaped other) e = absurd (n (heads a 92 r (b ∷ s) e).0)
same_piece p q r s a b x y (numbered {hundreds = h} {tens = t} {ones = o} is small) (bare m) e = absurd (m (sym (heads 92 b (h ∷ t ∷ o ∷ r) s e).0))
same_piece p q r s a b x y (numbered {hundreds = h} {tens = t} {ones = o} is small) (numbered {hundreds = h'} {tens = t'} {ones = o'} is' small') e =
    let one : (h ≡ h') × ((t ∷ o ∷ r) ≡ (t' ∷ o' ∷ s)) = heads h h' (t ∷ o ∷ r) (t' ∷ o' ∷ s) (heads 92 92 (h ∷ t ∷ o ∷ r) (h' ∷ t' ∷ o' ∷ s) e).1 in
    let two : (t ≡ t') × ((o ∷ r) ≡ (o' ∷ s)) = heads t t' (o ∷ r) (o' ∷ s) one.1 in
    let three : (o ≡ o') × (r ≡ s) = heads o o' r s two.1 in
    let digits : (h ∷ t ∷ o ∷ []) ≡ (h' ∷ t' ∷ o' ∷ []) = rw (one.0, two.0, three.0) refl in
    (ap (λ (ds : List ℕ). 92 ∷ ds) digits, sym is.value ∙ ap (λ (ds : List ℕ). digits_value 10 ds) digits ∙ is'.value, refl, three.1)
same_piece p q r s a b x y (numbered {hundreds = h} {tens = t} {ones = o} is small) (escaped other) e =
    let one : (h ≡ b) × ((t ∷ o ∷ r) ≡ s) = heads h b (t ∷ o ∷ r) s (heads 92 92 (h ∷ t ∷ o ∷ r) (b ∷ s) e).1 in
    absurd (other (subst (λ (d : ℕ). IsNumeral 10 (d ∷ [])) one.0 (first_digit h t o is.digits)))
same_piece p q r s a b x y (escaped other) (bare m) e = absurd (m (sym (heads 92 b (a ∷ r) s e).0))
same_piece p q r s a b x y (escaped other) (numbered {hundreds = h} {tens = t} {ones = o} is small) e =
    let one : (a ≡ h) × (r ≡ (t ∷ o ∷ s)) = heads a h r (t ∷ o ∷ s) (heads 92 92 (a ∷ r) (h ∷ t ∷ o ∷ s) e).1 in
    absurd (other (subst (λ (d : ℕ). IsNumeral 10 (d ∷ [])) (sym one.0) (first_digit h t o is.digits)))
same_piece p q r s a b x y (escaped other) (escaped other') e =
    let one : (a ≡ b) × (r ≡ s) = heads a b r s (heads 92 92 (a ∷ r) (b ∷ s) e).1 in
    (ap (λ (c : ℕ). 92 ∷ c ∷ []) one.0, one.0, refl, one.1)

pub no_piece : (p r : List ℕ) (a : ℕ) (x : Bool) → SpellsByte p a x → [] ≡ (p ++ r) → ⊥
no_piece p r a x (bare n) e = cc
no_piece p r a x (numbered is small) e = cc
no_piece p r a x (escaped other) e = cc

module _ (may : ℕ → Bool) where
  -- the same, from the first byte on
  pub data Reads : List ℕ → List ℕ → Type 0 where
    done : Reads [] []
    byte : {piece rest bytes : List ℕ} {b : ℕ} {is_bare : Bool} → SpellsByte piece b is_bare → (IsTrue is_bare → IsTrue (may b)) → Reads rest bytes → Reads (piece ++ rest) (b ∷ bytes)

  behind : {text bytes piece : List ℕ} {b : ℕ} {is_bare : Bool} → Reads text bytes → SpellsByte piece b is_bare → (IsTrue is_bare → IsTrue (may b)) → Reads (text ++ piece) (bytes ++ b ∷ [])
  behind {piece = piece} {b = b} done one bare_b = subst (λ (t : List ℕ). Reads t (b ∷ [])) (append-nil piece) (byte one bare_b done)
  behind {piece = piece} {b = b} (byte {piece = q} {rest = r} {bytes = bs} {b = d} first bare_d rest) one bare_b = subst (λ (t : List ℕ). Reads t (d ∷ (bs ++ b ∷ []))) (sym (append_assoc q r piece)) (byte first bare_d (behind rest one bare_b))

  pub in_order : {text bytes : List ℕ} → Spells may text bytes → Reads text bytes
  in_order nothing = done
  in_order (more before one bare_b) = behind (in_order before) one bare_b

  pub once : {t u bytes others : List ℕ} → Reads t bytes → Reads u others → t ≡ u → bytes ≡ others
  once done done e = refl
  once done (byte {piece = q} {rest = s} {b = b} {is_bare = y} one bare_b rest) e = absurd (no_piece q s b y one e)
  once (byte {piece = p} {rest = r} {b = a} {is_bare = x} one bare_a rest) done e = absurd (no_piece p r a x one (sym e))
  once (byte {piece = p} {rest = r} {bytes = bytes} {b = a} {is_bare = x} one bare_a rest) (byte {piece = q} {rest = s} {bytes = others} {b = b} {is_bare = y} two bare_b rest') e =
      let same = same_piece p q r s a b x y one two e in
      let tail : bytes ≡ others = once rest rest' same.3 in
      rw (same.1, tail) refl

pub bytes_once : (text bytes others : List ℕ) → Spells any_byte text bytes → Spells any_byte text others → bytes ≡ others
bytes_once text bytes others one two = once any_byte (in_order any_byte one) (in_order any_byte two) refl

pub strings_once : (word : Word) (octets others : List ℕ) → IsString word octets → IsString word others → octets ≡ others
strings_once word octets others one two =
    one.counted ∙ ap (λ (bytes : List ℕ). character_string bytes) (once any_byte (in_order any_byte one.spelled) (in_order any_byte two.spelled) refl) ∙ sym two.counted

-- a byte that may stand bare in a label is no dot
pub no_dot_first : (p r s : List ℕ) (a : ℕ) (x : Bool) → SpellsByte p a x → (IsTrue x → IsTrue (bare_in_label a)) → (46 ∷ s) ≡ (p ++ r) → ⊥
no_dot_first p r s a x (bare n) may e =
    let same : 46 ≡ a = (heads 46 a s r e).0 in
    let dot : IsTrue (bare_in_label 46) = subst (λ (b : ℕ). IsTrue (bare_in_label b)) (sym same) (may refl) in
    cc
no_dot_first p r s a x (numbered {hundreds = h} {tens = t} {ones = o} is small) may e = let same : 46 ≡ 92 = (heads 46 92 s (h ∷ t ∷ o ∷ r) e).0 in omega (arith, same)
no_dot_first p r s a x (escaped other) may e = let same : 46 ≡ 92 = (heads 46 92 s (a ∷ r) e).0 in omega (arith, same)

-- a label goes to the first dot that stands bare
pub until_dot : {p q a b : List ℕ} (r s : List ℕ) → Reads bare_in_label p a → Reads bare_in_label q b → (p ++ 46 ∷ r) ≡ (q ++ 46 ∷ s) → (a ≡ b) × (r ≡ s)
until_dot r s done done e = (refl, (heads 46 46 r s e).1)
until_dot r s done (byte {piece = q} {rest = rest} {b = b} {is_bare = y} two bare_b more_q) e = absurd (no_dot_first q (rest ++ 46 ∷ s) r b y two bare_b (e ∙ append_assoc q rest (46 ∷ s)))
until_dot r s (byte {piece = p} {rest = rest} {b = a} {is_bare = x} one bare_a more_p) done e = absurd (no_dot_first p (rest ++ 46 ∷ r) s a x one bare_a (sym e ∙ append_assoc p rest (46 ∷ r)))
until_dot r s (byte {piece = p} {rest = p'} {bytes = bytes} {b = a} {is_bare = x} one bare_a more_p) (byte {piece = q} {rest = q'} {bytes = others} {b = b} {is_bare = y} two bare_b more_q) e =
    let same = same_piece p q (p' ++ 46 ∷ r) (q' ++ 46 ∷ s) a b x y one two (sym (append_assoc p p' (46 ∷ r)) ∙ e ∙ append_assoc q q' (46 ∷ s)) in
    let tail : (bytes ≡ others) × (r ≡ s) = until_dot r s more_p more_q same.3 in
    (rw (same.1, tail.0) refl, tail.1)

-- in a label no dot stands bare
pub no_dot_within : {p q a b : List ℕ} (s : List ℕ) → Reads bare_in_label p a → Reads bare_in_label q b → p ≡ (q ++ 46 ∷ s) → ⊥
no_dot_within s done done e = cc
no_dot_within s done (byte {piece = q} {rest = rest} {b = b} {is_bare = y} two bare_b more_q) e = no_piece q (rest ++ 46 ∷ s) b y two (e ∙ append_assoc q rest (46 ∷ s))
no_dot_within s (byte {piece = p} {rest = rest} {b = a} {is_bare = x} one bare_a more_p) done e = no_dot_first p rest s a x one bare_a (sym e)
no_dot_within s (byte {piece = p} {rest = p'} {b = a} {is_bare = x} one bare_a more_p) (byte {piece = q} {rest = q'} {b = b} {is_bare = y} two bare_b more_q) e =
    no_dot_within s more_p more_q (same_piece p q p' (q' ++ 46 ∷ s) a b x y one two (e ∙ append_assoc q q' (46 ∷ s))).3

-- the labels of a text, from the first on, and whether a dot stands behind the last
pub data InLabels : List ℕ → Bool → List (List ℕ) → Type 0 where
  none_left : InLabels [] true []
  last : {piece label : List ℕ} → SpellsLabel piece label → InLabels piece false (label ∷ [])
  first : {piece label rest : List ℕ} {dot : Bool} {behind : List (List ℕ)} → SpellsLabel piece label → InLabels rest dot behind → InLabels (piece ++ 46 ∷ rest) dot (label ∷ behind)

pub reads_of : {piece label : List ℕ} → SpellsLabel piece label → Reads bare_in_label piece label
reads_of one = in_order bare_in_label one.spelled

-- labels with a dot behind each, before others
before : {text rest : List ℕ} {front after : List (List ℕ)} {dot : Bool} → SpellsLabels text front → InLabels rest dot after → InLabels (text ++ rest) dot (front ++ after)
before no_labels then = then
before {rest = rest} {after = after} {dot = dot} (one_label {text = text} {piece = piece} {labels = front} {label = label} labels_before spelled) then =
    let one : InLabels (piece ++ 46 ∷ rest) dot (label ∷ after) = first spelled then in
    let all : InLabels (text ++ (piece ++ 46 ∷ rest)) dot (front ++ label ∷ after) = before labels_before one in
    subst (λ (t : List ℕ). InLabels t dot ((front ++ label ∷ []) ++ after)) (sym (append_assoc (text ++ piece) (46 ∷ []) rest ∙ append_assoc text piece (46 ∷ rest)))
    (subst (λ (ls : List (List ℕ)). InLabels (text ++ (piece ++ 46 ∷ rest)) dot ls) (sym (append_assoc front (label ∷ []) after)) all)

pub in_labels : (dot : Bool) (text : List ℕ) (ls : List (List ℕ)) → AreLabelsWithDot dot text ls → InLabels text dot ls
in_labels dot text ls (dot_last spelled some) = subst (λ (t : List ℕ). InLabels t true ls) (append-nil text) (subst (λ (all : List (List ℕ)). InLabels (text ++ []) true all) (append-nil ls) (before spelled none_left))
in_labels dot text ls (no_dot spelled label) = before spelled (last label)

empty : {p a : List ℕ} → Reads bare_in_label p a → [] ≡ p → a ≡ []
empty done e = refl
empty (byte {piece = p} {rest = r} {b = a} {is_bare = x} one bare_a rest) e = absurd (no_piece p r a x one e)

pub no_text : (p s : List ℕ) → [] ≡ (p ++ 46 ∷ s) → ⊥
no_text [] s e = cc
no_text (x ∷ p) s e = cc

no_empty_label : {p a : List ℕ} → Reads bare_in_label p a → IsLabel a → [] ≡ p → ⊥
no_empty_label one sized e = let none : length _ ≡ 0 = ap length (empty one e) in omega (arith, sized.0, none)

labels_once : {t u : List ℕ} {d d' : Bool} {ls others : List (List ℕ)} → InLabels t d ls → InLabels u d' others → t ≡ u → (d ≡ d') × (ls ≡ others)
labels_once none_left none_left e = (refl, refl)
labels_once none_left (last one) e = absurd (no_empty_label (reads_of one) one.sized e)
labels_once none_left (first {piece = q} {rest = s} one then) e = absurd (no_text q s e)
labels_once (last one) none_left e = absurd (no_empty_label (reads_of one) one.sized (sym e))
labels_once (last one) (last two) e = (refl, ap (λ (l : List ℕ). l ∷ []) (once bare_in_label (reads_of one) (reads_of two) e))
labels_once (last one) (first {rest = s} two then) e = absurd (no_dot_within s (reads_of one) (reads_of two) e)
labels_once (first {piece = p} {rest = r} one then) none_left e = absurd (no_text p r (sym e))
labels_once (first {rest = r} one then) (last two) e = absurd (no_dot_within r (reads_of two) (reads_of one) (sym e))
labels_once (first {label = label} {rest = r} {behind = bs} one then) (first {label = other} {rest = s} {behind = others} two then') e =
    let same : (label ≡ other) × (r ≡ s) = until_dot r s (reads_of one) (reads_of two) e in
    let tail = labels_once then then' same.1 in
    (tail.0, rw (same.0, tail.1) refl)

pub same_named : (text : List ℕ) (a b : Bool) (ls others : List (List ℕ)) → AreNameLabels a text ls → AreNameLabels b text others → (a ≡ b) × (ls ≡ others)
same_named text a b ls others root root = (refl, refl)
same_named text a b ls others root (labels not_root not_origin h) = absurd (not_root refl)
same_named text a b ls others origin origin = (refl, refl)
same_named text a b ls others origin (labels not_root not_origin h) = absurd (not_origin refl)
same_named text a b ls others (labels not_root not_origin h) root = absurd (not_root refl)
same_named text a b ls others (labels not_root not_origin h) origin = absurd (not_origin refl)
same_named text a b ls others (labels not_root not_origin h) (labels not_root' not_origin' h') = labels_once (in_labels a text ls h) (in_labels b text others h') refl

pub names_once : (o : Option DomainName) (text : List ℕ) (ls others : List (List ℕ)) → SpellsName o text ls → SpellsName o text others → ls ≡ others
names_once o text ls others (absolute one) (absolute two) = (same_named text true true ls others one two).1
names_once o text ls others (absolute one) (relative {labels = own} is two) = let same : true ≡ false = (same_named text true false ls own one two).0 in cc
names_once o text ls others (relative {labels = own} is one) (absolute two) = let same : false ≡ true = (same_named text false true own others one two).0 in cc
names_once o text ls others (relative {labels = own} {o = a} is one) (relative {labels = own'} {o = b} is' two) =
    let same : own ≡ own' = (same_named text false false own own' one two).1 in
    let name : a ≡ b = cc in
    rw (same, name) refl

-- a unit is no digit
pub unit_no_digit : (unit seconds : ℕ) → unit_seconds unit ≡ Some seconds → digit_value unit < 10 → ⊥
unit_no_digit unit seconds is digit = let range : IsInRange 48 57 unit = digit_from_value unit digit in grind (arith, nat_tests)

-- digits up to a unit
pub span_once : (ds es r s : List ℕ) (u v n m : ℕ) → AllDigits 10 ds → AllDigits 10 es → unit_seconds u ≡ Some n → unit_seconds v ≡ Some m → (ds ++ u ∷ r) ≡ (es ++ v ∷ s) → (ds ≡ es) × (u ≡ v) × (r ≡ s)
span_once [] [] r s u v n m all all' is is' e = let h = heads u v r s e in (refl, h.0, h.1)
span_once [] (d ∷ es) r s u v n m all all' is is' e = absurd (unit_no_digit u n is (subst (λ (x : ℕ). digit_value x < 10) (sym (heads u d r (es ++ v ∷ s) e).0) all'.0))
span_once (d ∷ ds) [] r s u v n m all all' is is' e = absurd (unit_no_digit v m is' (subst (λ (x : ℕ). digit_value x < 10) (heads d v (ds ++ u ∷ r) s e).0 all.0))
span_once (d ∷ ds) (b ∷ es) r s u v n m all all' is is' e =
    let h : (d ≡ b) × ((ds ++ u ∷ r) ≡ (es ++ v ∷ s)) = heads d b (ds ++ u ∷ r) (es ++ v ∷ s) e in
    let tail : (ds ≡ es) × (u ≡ v) × (r ≡ s) = span_once ds es r s u v n m all.1 all'.1 is is' h.1 in
    (rw (h.0, tail.0) refl, tail.1, tail.2)

-- numbers with units, from the first on
pub data InUnits : List ℕ → ℕ → Type 0 where
  no_units : InUnits [] 0
  unit_first : {digits rest : List ℕ} {n seconds left : ℕ} (unit : ℕ) → IsNumber digits n → unit_seconds unit ≡ Some seconds → InUnits rest left → InUnits (digits ++ unit ∷ rest) (n * seconds + left)

units_behind : {text digits : List ℕ} {sum n seconds : ℕ} (unit : ℕ) → InUnits text sum → IsNumber digits n → unit_seconds unit ≡ Some seconds → InUnits ((text ++ digits) ++ unit ∷ []) (sum + n * seconds)
units_behind {digits = digits} {n = n} {seconds = seconds} unit no_units number is = subst (λ (k : ℕ). InUnits (digits ++ unit ∷ []) k) (omega arith) (unit_first unit number is no_units)
units_behind {digits = digits} {n = n} {seconds = seconds} unit (unit_first {digits = ds} {rest = rest} {n = m} {seconds = s} {left = left} u own is_own then) number is =
    let tail : InUnits ((rest ++ digits) ++ unit ∷ []) (left + n * seconds) = units_behind unit then number is in
    let all : InUnits (ds ++ u ∷ ((rest ++ digits) ++ unit ∷ [])) (m * s + (left + n * seconds)) = unit_first u own is_own tail in
    let sums : m * s + (left + n * seconds) ≡ m * s + left + n * seconds = omega arith in
    let texts : (ds ++ u ∷ ((rest ++ digits) ++ unit ∷ [])) ≡ (((ds ++ u ∷ rest) ++ digits) ++ unit ∷ []) = rw (append_assoc (ds ++ u ∷ rest) digits (unit ∷ []), append_assoc ds (u ∷ rest) (digits ++ unit ∷ []), append_assoc rest digits (unit ∷ [])) refl in
    subst (λ (t : List ℕ). InUnits t (m * s + left + n * seconds)) texts (subst (λ (k : ℕ). InUnits (ds ++ u ∷ ((rest ++ digits) ++ unit ∷ [])) k) sums all)

pub in_units : {text : List ℕ} {n : ℕ} → SpellsUnits text n → InUnits text n
in_units no_time = no_units
in_units (one_unit unit before number is) = units_behind unit (in_units before) number is

pub no_digits : (ds r : List ℕ) (u : ℕ) → [] ≡ (ds ++ u ∷ r) → ⊥
no_digits [] r u e = cc
no_digits (d ∷ ds) r u e = cc

pub units_once : {t v : List ℕ} {a b : ℕ} → InUnits t a → InUnits v b → t ≡ v → a ≡ b
units_once no_units no_units e = refl
units_once no_units (unit_first {digits = es} {rest = s} v two is' then') e = absurd (no_digits es s v e)
units_once (unit_first {digits = ds} {rest = r} u one is then) no_units e = absurd (no_digits ds r u (sym e))
units_once (unit_first {digits = ds} {rest = r} {n = n} {seconds = x} {left = left} u one is then) (unit_first {digits = es} {rest = s} {n = m} {seconds = y} {left = left'} v two is' then') e =
    let same : (ds ≡ es) × (u ≡ v) × (r ≡ s) = span_once ds es r s u v x y one.digits.1 two.digits.1 is is' e in
    let number : n ≡ m = sym one.value ∙ ap (λ (d : List ℕ). digits_value 10 d) same.0 ∙ two.value in
    let unit : Some x ≡ Some y = sym is ∙ ap (λ (k : ℕ). unit_seconds k) same.1 ∙ is' in
    let second : x ≡ y = cc in
    let tail : left ≡ left' = units_once then then' same.2 in
    rw (number, second, tail) refl

-- the digits of a number have no unit behind them
pub digits_no_units : (text : List ℕ) (n : ℕ) → AllDigits 10 text → 0 < length text → InUnits text n → ⊥
digits_no_units text n all some no_units = omega (arith, some)
digits_no_units text n all some (unit_first {digits = ds} {rest = rest} {seconds = s} u number is then) = unit_no_digit u s is (within ds rest u all) where
  within : (ds rest : List ℕ) (u : ℕ) → AllDigits 10 (ds ++ u ∷ rest) → digit_value u < 10
  within [] rest u all = all.0
  within (d ∷ ds) rest u all = within ds rest u all.1

pub times_once : (text : List ℕ) (a b : ℕ) → SpellsTime text a → SpellsTime text b → a ≡ b
times_once text a b (of_seconds one) (of_seconds two) = sym one.value ∙ two.value
times_once text a b (of_seconds one) (of_units some two) = absurd (digits_no_units text b one.digits.1 some (in_units two))
times_once text a b (of_units some one) (of_seconds two) = absurd (digits_no_units text a two.digits.1 some (in_units one))
times_once text a b (of_units some one) (of_units some' two) = units_once (in_units one) (in_units two) refl
