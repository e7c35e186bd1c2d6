-- Texts that spell names, label after label.
use Rattle.std.proofs.Common.{◌≡◌, ◌≢◌, ◌↔◌, ◌⊎◌, inl, inr, ℕ, zero, suc, ◌+◌, ◌-◌, ◌<◌, ◌≤◌, ◌==◌, Bool, true, false, cond, ltb, List, [], ◌∷◌, ◌++◌, length, take, drop, Some, None, refl, sym, ap, ◌∙◌, subst, arith, append_assoc, length-append}
use Rattle.std.specs.Prelude.{unwrap_or}
use Rattle.std.specs.List.{AllByRecursion, position, position_or_len}
use Rattle.std.proofs.lemmas.Bool.{cases_lt, cases_eq, lt-ltb, le-ltb, ne_eqb, eq-eqb}
use Rattle.std.proofs.lemmas.List.{append-nil, take_at, drop_at, take_rest}
use Rattle.std.proofs.lemmas.List.Elements.{recursion_from_All, All-from_recursion}
use Rattle.wire_names.specs.rr.domain.DomainName.{DomainName, IsLabel, wire_form, name_len}
use Rattle.wire_names.specs.rr.domain.NameText.{IsNameByte, IsTextLabel, name_text, IsNameText}
use Rattle.wire_names.proofs.lemmas.rr.domain.WireForm.{name_len-wire_form, wire-append}

-- where the first dot stands, or the end
abbrev pub dot_at : List ℕ → ℕ
dot_at text = position_or_len (λ b. b == 46) text

abbrev NoDot : List ℕ → Type 0
NoDot label = AllByRecursion (λ b. b ≢ 46) label

no_dot_at : (l : List ℕ) → NoDot l → dot_at l ≡ length l
no_dot_at [] h = refl
no_dot_at (b ∷ l) h = rw (ne_eqb b 46 h.0) (ap (λ n. 1 + n) (no_dot_at l h.1) ∙ omega arith)

dot_behind : (l more : List ℕ) → NoDot l → dot_at (l ++ 46 ∷ more) ≡ length l
dot_behind [] more h = refl
dot_behind (b ∷ l) more h = rw (ne_eqb b 46 h.0) (ap (λ n. 1 + n) (dot_behind l more h.1) ∙ omega arith)

dot_here : (b : ℕ) (bs : List ℕ) → b ≡ 46 → dot_at (b ∷ bs) ≡ 0
dot_here b bs e = rw (eq-eqb b 46 e) refl

dot_later : (b : ℕ) (bs : List ℕ) → b ≢ 46 → dot_at (b ∷ bs) ≡ suc (dot_at bs)
dot_later b bs ne = rw (ne_eqb b 46 ne) (omega arith)

-- at the first dot, or at the end
pub first_dot : (xs : List ℕ) → (drop (dot_at xs) xs ≡ []) ⊎ ((more : List ℕ) × (drop (dot_at xs) xs ≡ 46 ∷ more))
first_dot [] = inl refl
first_dot (b ∷ bs) = elim (cases_eq b 46) [
  | inl e ↦ inr (bs, ap (λ n. drop n (b ∷ bs)) (dot_here b bs e) ∙ ap (λ x. x ∷ bs) e)
  | inr ne ↦
      let at : drop (dot_at (b ∷ bs)) (b ∷ bs) ≡ drop (dot_at bs) bs = ap (λ n. drop n (b ∷ bs)) (dot_later b bs ne) in
      elim (first_dot bs) [ inl none ↦ inl (at ∙ none) | inr some ↦ inr (some.0, at ∙ some.1) ]
]

pub dot_within : (xs : List ℕ) → dot_at xs ≤ length xs
dot_within [] = omega arith
dot_within (b ∷ bs) = elim (cases_eq b 46) [
  | inl e ↦ omega (arith, dot_here b bs e)
  | inr ne ↦ omega (arith, dot_later b bs ne, dot_within bs)
]

within : (a n : ℕ) → a ≤ n → unwrap_or (cond (ltb a n) (Some a) None) n ≡ a
within a n h = elim (cases_lt a n) [ inl lt ↦ rw (lt-ltb a n lt) refl | inr le ↦ rw (le-ltb a n le) (omega arith) ]

pub position_is : (xs : List ℕ) → unwrap_or (position (λ b. b == 46) xs) (length xs) ≡ dot_at xs
position_is xs = within (dot_at xs) (length xs) (dot_within xs)

-- ---- labels of texts

name_byte_is_no_dot : (b : ℕ) → IsNameByte b → b ≢ 46
name_byte_is_no_dot b h e = grind arith

bytes_have_no_dot : (l : List ℕ) → AllByRecursion IsNameByte l → NoDot l
bytes_have_no_dot [] h = tt
bytes_have_no_dot (b ∷ l) h = (name_byte_is_no_dot b h.0, bytes_have_no_dot l h.1)

star_has_no_dot : NoDot (42 ∷ [])
star_has_no_dot = (λ e. omega arith, tt)

has_no_dot : (l : List ℕ) → IsTextLabel l → NoDot l
has_no_dot l h = elim h [
  | inl e ↦ subst NoDot (sym e) star_has_no_dot
  | inr is ↦ bytes_have_no_dot l (recursion_from_All IsNameByte l is.1)
]

pub is_label : (l : List ℕ) → IsTextLabel l → IsLabel l
is_label l h = elim h [
  | inl e ↦ (omega (arith, ap length e), omega (arith, ap length e))
  | inr is ↦ is.0
]

-- The text spells these labels and this mark.
pub record Spells (text : List ℕ) (labels : List (List ℕ)) (is_fqdn : Bool) : Type 0 where
  pub some : labels ≢ []
  pub each : AllByRecursion IsTextLabel labels
  pub spelled : text ≡ name_text labels is_fqdn

-- what stands behind a label, the other labels being these
abbrev pub Behind : List ℕ → List (List ℕ) → Bool → Type 0
Behind behind [] false = behind ≡ []
Behind behind [] true = behind ≡ 46 ∷ []
Behind behind (m ∷ ms) is_fqdn = (more : List ℕ) × (behind ≡ 46 ∷ more) × Spells more (m ∷ ms) is_fqdn

-- The text spells a label first, which ends at the first dot.
pub record Front (text l : List ℕ) (ls : List (List ℕ)) (is_fqdn : Bool) : Type 0 where
  pub is : take (dot_at text) text ≡ l
  pub label : IsTextLabel l
  pub behind : Behind (drop (dot_at text) text) ls is_fqdn

parts : (text l behind : List ℕ) → dot_at (l ++ behind) ≡ length l → text ≡ l ++ behind → (take (dot_at text) text ≡ l) × (drop (dot_at text) text ≡ behind)
parts text l behind d e =
    let at : dot_at text ≡ length l = ap dot_at e ∙ d in (
      ap (λ n. take n text) at ∙ ap (take (length l)) e ∙ take_at l behind (length l) refl,
      ap (λ n. drop n text) at ∙ ap (drop (length l)) e ∙ drop_at l behind (length l) refl,
    )

pub split : (text l : List ℕ) (ls : List (List ℕ)) (is_fqdn : Bool) → Spells text (l ∷ ls) is_fqdn → Front text l ls is_fqdn
split text l [] false s =
    let p = parts text l [] (ap dot_at (append-nil l) ∙ no_dot_at l (has_no_dot l s.each.0)) (s.spelled ∙ sym (append-nil l)) in
    record { is = p.0; label = s.each.0; behind = p.1 }
split text l [] true s =
    let p = parts text l (46 ∷ []) (dot_behind l [] (has_no_dot l s.each.0)) s.spelled in
    record { is = p.0; label = s.each.0; behind = p.1 }
split text l (m ∷ ms) is_fqdn s =
    let more : List ℕ = name_text (m ∷ ms) is_fqdn in
    let p = parts text l (46 ∷ more) (dot_behind l more (has_no_dot l s.each.0)) s.spelled in
    let rest : Spells more (m ∷ ms) is_fqdn = record { some = λ e. cc; each = s.each.1; spelled = refl } in
    record { is = p.0; label = s.each.0; behind = (more, p.1, rest) }

pub join : (text label behind : List ℕ) (ls : List (List ℕ)) (is_fqdn : Bool) → text ≡ label ++ behind → IsTextLabel label → Behind behind ls is_fqdn → Spells text (label ∷ ls) is_fqdn
join text label behind [] false e is b = record { some = λ e. cc; each = (is, tt); spelled = e ∙ ap (λ r. label ++ r) b ∙ append-nil label }
join text label behind [] true e is b = record { some = λ e. cc; each = (is, tt); spelled = e ∙ ap (λ r. label ++ r) b }
join text label behind (m ∷ ms) is_fqdn e is b =
    record { some = λ e. cc; each = (is, b.2.each); spelled = e ∙ ap (λ r. label ++ r) (b.1 ∙ ap (λ r. 46 ∷ r) b.2.spelled) }

append-pos : (a b : List ℕ) → 0 < length a → a ++ b ≢ []
append-pos a b h e = let n = ap length e in absurd (omega (arith, length-append a b))

-- a text that spells labels is not empty
text-some : (text : List ℕ) (ls : List (List ℕ)) (is_fqdn : Bool) → Spells text ls is_fqdn → text ≢ []
text-some text [] is_fqdn s e = s.some refl
text-some text (l ∷ []) false s e = let k = is_label l s.each.0 in absurd (omega (arith, k.0, ap length s.spelled, ap length e))
text-some text (l ∷ []) true s e = append-pos l (46 ∷ []) (is_label l s.each.0).0 (sym s.spelled ∙ e)
text-some text (l ∷ m ∷ ms) is_fqdn s e = append-pos l (46 ∷ name_text (m ∷ ms) is_fqdn) (is_label l s.each.0).0 (sym s.spelled ∙ e)

-- ---- the labels before a place in the text

pub record Reads (text rest : List ℕ) (labels : List (List ℕ)) : Type 0 where
  pub back : (ls : List (List ℕ)) (is_fqdn : Bool) → Spells rest ls is_fqdn → Spells text (labels ++ ls) is_fqdn
  pub forth : (ms : List (List ℕ)) (is_fqdn : Bool) → Spells text ms is_fqdn → (ls : List (List ℕ)) × (ms ≡ labels ++ ls) × Spells rest ls is_fqdn

pub reads_none : (text : List ℕ) → Reads text text []
reads_none text = record { back = λ ls m s. s; forth = λ ms m s. (ms, refl, s) }

spells_of : (text : List ℕ) (n : DomainName) → IsNameText text n → Spells text n.labels n.is_fqdn
spells_of text n t = record { some = t.some; each = recursion_from_All IsTextLabel n.labels t.each; spelled = t.spelled }

size_of : (labels : List (List ℕ)) (l : List ℕ) (ls : List (List ℕ)) → name_len (labels ++ l ∷ ls) ≤ 255 → length (wire_form labels) + 1 + length l < 255
size_of labels l ls h =
    omega (arith, name_len-wire_form (labels ++ l ∷ ls), ap length (wire-append labels (l ∷ ls)), length-append (wire_form labels) (wire_form (l ∷ ls)), length-append l (wire_form ls))

fits_on : (text rest : List ℕ) (labels : List (List ℕ)) (n : DomainName) (ls : List (List ℕ)) → name_len n.labels ≤ 255 → n.labels ≡ labels ++ ls → Spells rest ls n.is_fqdn
    → IsTextLabel (take (dot_at rest) rest) × (length (wire_form labels) + 1 + length (take (dot_at rest) rest) < 255)
fits_on text rest labels n [] short e s = absurd (s.some refl)
fits_on text rest labels n (l ∷ ls) short e s =
    let f = split rest l ls n.is_fqdn s in
    let size = size_of labels l ls (subst (λ ks. name_len ks ≤ 255) e short) in
    (subst IsTextLabel (sym f.is) f.label, omega (arith, size, ap length f.is))

-- the next label of any name that the text spells
pub fits : (text rest : List ℕ) (labels : List (List ℕ)) → Reads text rest labels → (n : DomainName) → IsNameText text n
    → IsTextLabel (take (dot_at rest) rest) × (length (wire_form labels) + 1 + length (take (dot_at rest) rest) < 255)
fits text rest labels r n t =
    let f = r.forth n.labels n.is_fqdn (spells_of text n t) in
    fits_on text rest labels n f.0 t.short f.1 f.2

same_mark : (behind : List ℕ) (a b : Bool) → Behind behind [] a → Behind behind [] b → a ≡ b
same_mark behind false false p q = refl
same_mark behind true true p q = refl
same_mark behind false true p q = absurd cc
same_mark behind true false p q = absurd cc

not_more : (behind : List ℕ) (a : Bool) (m : List ℕ) (ms : List (List ℕ)) (b : Bool) → Behind behind [] a → Behind behind (m ∷ ms) b → ⊥
not_more behind false m ms b p q = cc
not_more behind true m ms b p q = let e : q.0 ≡ [] = cc in text-some q.0 (m ∷ ms) b q.2 e

last_only : (rest : List ℕ) (labels : List (List ℕ)) (mark : Bool) (n : DomainName) (ls : List (List ℕ)) → Behind (drop (dot_at rest) rest) [] mark → n.labels ≡ labels ++ ls → Spells rest ls n.is_fqdn
    → n ≡ record { labels = labels ++ take (dot_at rest) rest ∷ []; is_fqdn = mark }
last_only rest labels mark n [] b e s = absurd (s.some refl)
last_only rest labels mark n (l ∷ []) b e s =
    let f = split rest l [] n.is_fqdn s in
    let m : n.is_fqdn ≡ mark = same_mark (drop (dot_at rest) rest) n.is_fqdn mark f.behind b in
    let ls : n.labels ≡ labels ++ take (dot_at rest) rest ∷ [] = e ∙ ap (λ x. labels ++ x ∷ []) (sym f.is) in
    ap (λ (ks : List (List ℕ)). let d : DomainName = record { labels = ks; is_fqdn = n.is_fqdn } in d) ls
    ∙ ap (λ (x : Bool). let d : DomainName = record { labels = labels ++ take (dot_at rest) rest ∷ []; is_fqdn = x } in d) m
last_only rest labels mark n (l ∷ k ∷ ks) b e s =
    let f = split rest l (k ∷ ks) n.is_fqdn s in
    absurd (not_more (drop (dot_at rest) rest) mark k ks n.is_fqdn b f.behind)

name_of : (text : List ℕ) (n : DomainName) → Spells text n.labels n.is_fqdn → name_len n.labels ≤ 255 → IsNameText text n
name_of text n s short = record { some = s.some; each = All-from_recursion IsTextLabel n.labels s.each; short = short; spelled = s.spelled }

take_drop : (n : ℕ) (xs : List ℕ) → xs ≡ take n xs ++ drop n xs
take_drop zero xs = refl
take_drop (suc n) [] = refl
take_drop (suc n) (x ∷ xs) = ap (λ r. x ∷ r) (take_drop n xs)

-- the label at a place is the last
pub ends_text : (text rest : List ℕ) (labels : List (List ℕ)) (mark : Bool) → Reads text rest labels → IsTextLabel (take (dot_at rest) rest)
    → length (wire_form labels) + 1 + length (take (dot_at rest) rest) < 255 → Behind (drop (dot_at rest) rest) [] mark
    → (n : DomainName) → IsNameText text n ↔ (n ≡ record { labels = labels ++ take (dot_at rest) rest ∷ []; is_fqdn = mark })
ends_text text rest labels mark r is short b n =
    let label : List ℕ = take (dot_at rest) rest in
    let whole : DomainName = record { labels = labels ++ label ∷ []; is_fqdn = mark } in
    let s : Spells text (labels ++ label ∷ []) mark = r.back (label ∷ []) mark (join rest label (drop (dot_at rest) rest) [] mark (take_drop (dot_at rest) rest) is b) in
    let size : name_len (labels ++ label ∷ []) ≤ 255 =
    omega (arith, name_len-wire_form (labels ++ label ∷ []), ap length (wire-append labels (label ∷ [])), length-append (wire_form labels) (wire_form (label ∷ [])), length-append label (wire_form [])) in
    let t : IsNameText text whole = name_of text whole s size in (
      λ h. let f = r.forth n.labels n.is_fqdn (spells_of text n h) in last_only rest labels mark n f.0 b f.1 f.2,
      λ e. subst (IsNameText text) (sym e) t,
    )

forth_on : (rest more : List ℕ) (labels : List (List ℕ)) (ms ls : List (List ℕ)) (mark : Bool) → drop (dot_at rest) rest ≡ 46 ∷ more → more ≢ [] → ms ≡ labels ++ ls → Spells rest ls mark
    → (ks : List (List ℕ)) × (ms ≡ (labels ++ take (dot_at rest) rest ∷ []) ++ ks) × Spells more ks mark
forth_on rest more labels ms [] mark d ne e s = absurd (s.some refl)
forth_on rest more labels ms (l ∷ []) false d ne e s = let f = split rest l [] false s in absurd (let k = f.behind in cc)
forth_on rest more labels ms (l ∷ []) true d ne e s =
    let f = split rest l [] true s in
    let k : 46 ∷ [] ≡ 46 ∷ more = sym f.behind ∙ d in
    absurd (ne cc)
forth_on rest more labels ms (l ∷ k ∷ ks) mark d ne e s =
    let f = split rest l (k ∷ ks) mark s in
    let same : 46 ∷ f.behind.0 ≡ 46 ∷ more = sym f.behind.1 ∙ d in
    let is : f.behind.0 ≡ more = cc in
    (k ∷ ks, e ∙ ap (λ x. labels ++ x ∷ k ∷ ks) (sym f.is) ∙ sym (append_assoc labels (take (dot_at rest) rest ∷ []) (k ∷ ks)), subst (λ t. Spells t (k ∷ ks) mark) is f.behind.2)

behind_some : (behind more : List ℕ) (ls : List (List ℕ)) (mark : Bool) → behind ≡ 46 ∷ more → Spells more ls mark → Behind behind ls mark
behind_some behind more [] mark e s = absurd (s.some refl)
behind_some behind more (m ∷ ms) mark e s = (more, e, s)

-- other labels stand behind the label and a dot
pub reads_on : (text rest more : List ℕ) (labels : List (List ℕ)) → Reads text rest labels → IsTextLabel (take (dot_at rest) rest) → drop (dot_at rest) rest ≡ 46 ∷ more → more ≢ []
    → Reads text more (labels ++ take (dot_at rest) rest ∷ [])
reads_on text rest more labels r is d ne =
    let label : List ℕ = take (dot_at rest) rest in
    record {
      back = λ ls mark s. subst (λ ks. Spells text ks mark) (sym (append_assoc labels (label ∷ []) ls)) (r.back (label ∷ ls) mark (join rest label (drop (dot_at rest) rest) ls mark (take_drop (dot_at rest) rest) is (behind_some (drop (dot_at rest) rest) more ls mark d s)));
      forth = λ ms mark s. let f = r.forth ms mark s in forth_on rest more labels ms f.0 mark d ne f.1 f.2;
    }

-- ---- what stands at a dot

pub empty_is : (xs : List ℕ) → length xs < 1 → xs ≡ []
empty_is [] h = refl
empty_is (x ∷ xs) h = absurd (omega arith)

pub one_dot : (xs : List ℕ) → (xs ≡ []) ⊎ ((more : List ℕ) × (xs ≡ 46 ∷ more)) → 1 ≤ length xs → length xs < 2 → xs ≡ 46 ∷ []
one_dot xs d low high = elim d [
  | inl none ↦ absurd (omega (arith, ap length none))
  | inr some ↦ some.1 ∙ ap (λ r. 46 ∷ r) (empty_is some.0 (omega (arith, ap length some.1)))
]

pub more_at : (xs : List ℕ) → (xs ≡ []) ⊎ ((more : List ℕ) × (xs ≡ 46 ∷ more)) → 2 ≤ length xs → (xs ≡ 46 ∷ take (length xs - 1) (drop 1 xs)) × (take (length xs - 1) (drop 1 xs) ≢ [])
more_at xs d low = elim d [
  | inl none ↦ absurd (omega (arith, ap length none))
  | inr some ↦
      let rest : take (length xs - 1) (drop 1 xs) ≡ some.0 = take_rest xs 1 ∙ ap (drop 1) some.1 in
      (some.1 ∙ ap (λ r. 46 ∷ r) (sym rest), λ e. let k = ap length (sym rest ∙ e) in absurd (omega (arith, ap length some.1, k)))
]
