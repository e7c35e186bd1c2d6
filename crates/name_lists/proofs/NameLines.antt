-- Names by their texts: a text spells one name, and its plain line is its text with the last dot.
use Rattle.std.proofs.Common.{◌≡◌, ◌≢◌, inl, inr, ℕ, ◌≤◌, ◌&&◌, Bool, true, false, cond, List, [], ◌∷◌, ◌++◌, length, drop, Option, Some, None, Result, Ok, Err, refl, sym, ap, ◌∙◌, subst, arith, append_assoc}
use Rattle.std.specs.Prelude.{IsSomeAnd, IsAscii, OnOk, is_ok, is_some, MatchOption}
use Rattle.std.specs.Char.{is_ascii}
use Rattle.std.specs.List.{list_all, list_any}
use Rattle.std.proofs.lemmas.Bool.{cases_Bool}
use Rattle.std.proofs.lemmas.List.{append-nil}
use Rattle.std.proofs.lemmas.List.Elements.{recursion_from_All}
use Rattle.std.proofs.lemmas.Str.Ascii.{IsAscii-nil, IsAscii-cons}
use borrow.Author.Tests.{ltb-true}
use Rattle.wire_names.specs.rr.domain.DomainName.{DomainName, name_len}
use Rattle.wire_names.specs.rr.domain.NameText.{IsTextLabel, IsNameText, name_text}
use Rattle.wire_names.proofs.lemmas.rr.domain.NameSpelling.{Spells as SpellsLabels, Behind, split, is_label, dot_at}
use Rattle.name_lists.specs.Names.{Spells, IsCovered, ascii_text, qualified, wildcard_over, GivesName, GivesBelow, is_asterisk, plain_line, plain_lines}

-- ---- one name

spells_labels : (text : List ℕ) (n : DomainName) → IsNameText text n → SpellsLabels text n.labels n.is_fqdn
spells_labels text n t = record { some = t.some; each = recursion_from_All IsTextLabel n.labels t.each; spelled = t.spelled }

empty_spells_none : (l : List ℕ) (ls : List (List ℕ)) (mark : Bool) → SpellsLabels [] (l ∷ ls) mark → ⊥
empty_spells_none l ls mark s = let f = split [] l ls mark s in let some = is_label l f.label in absurd (omega (arith, some.0, ap length f.is))

behind_label : (text : List ℕ) (ls ms : List (List ℕ)) (p q : Bool) → ((more : List ℕ) → SpellsLabels more ls p → SpellsLabels more ms q → (ls ≡ ms) × (p ≡ q))
    → Behind text ls p → Behind text ms q → (ls ≡ ms) × (p ≡ q)
behind_label text [] [] false false again a b = (refl, refl)
behind_label text [] [] true true again a b = (refl, refl)
behind_label text [] [] false true again a b = absurd cc
behind_label text [] [] true false again a b = absurd cc
behind_label text [] (m ∷ ms) false q again a b = let e = b.1 in absurd cc
behind_label text [] (m ∷ ms) true q again a b =
    let f = b.1 in let e : b.0 ≡ [] = cc in absurd (empty_spells_none m ms q (subst (λ (x : List ℕ). SpellsLabels x (m ∷ ms) q) e b.2))
behind_label text (l ∷ ls) [] p false again a b = let e = a.1 in absurd cc
behind_label text (l ∷ ls) [] p true again a b =
    let f = a.1 in let e : a.0 ≡ [] = cc in absurd (empty_spells_none l ls p (subst (λ (x : List ℕ). SpellsLabels x (l ∷ ls) p) e a.2))
behind_label text (l ∷ ls) (m ∷ ms) p q again a b =
    let f = a.1 in let g = b.1 in
    let e : a.0 ≡ b.0 = cc in again b.0 (subst (λ (x : List ℕ). SpellsLabels x (l ∷ ls) p) e a.2) b.2

one_spelling : (text : List ℕ) (ls ms : List (List ℕ)) (p q : Bool) → SpellsLabels text ls p → SpellsLabels text ms q → (ls ≡ ms) × (p ≡ q)
one_spelling text [] ms p q s t = absurd (s.some refl)
one_spelling text (l ∷ ls) [] p q s t = absurd (t.some refl)
one_spelling text (l ∷ ls) (m ∷ ms) p q s t =
    let f = split text l ls p s in
    let g = split text m ms q t in
    let first : l ≡ m = sym f.is ∙ g.is in
    let rest = behind_label (drop (dot_at text) text) ls ms p q (λ more u v. one_spelling more ls ms p q u v) f.behind g.behind in
    (ap (λ x. x ∷ ls) first ∙ ap (λ xs. m ∷ xs) rest.0, rest.1)

-- a text is the text of one name
pub one_text_name : (text : List ℕ) (a b : DomainName) → IsNameText text a → IsNameText text b → a ≡ b
one_text_name text a b s t =
    let e = one_spelling text a.labels b.labels a.is_fqdn b.is_fqdn (spells_labels text a s) (spells_labels text b t) in
    ap (λ (ls : List (List ℕ)). let d : DomainName = record { labels = ls; is_fqdn = a.is_fqdn } in d) e.0
    ∙ ap (λ (p : Bool). let d : DomainName = record { labels = b.labels; is_fqdn = p } in d) e.1

pub one_name : (text : List ℕ) (a b : DomainName) → Spells text a → Spells text b → a ≡ b
one_name text a b s t = s.full ∙ ap qualified (one_text_name text s.written t.written s.spelled t.spelled) ∙ sym t.full

-- ---- what words give

pub some_and : {T : Type 0} (o : Option T) (P : T → Type 0) → IsSomeAnd o P → (x : T) × (o ≡ Some x) × P x
some_and None P h = absurd h
some_and (Some x) P h = (x, refl, h)

pub and_some : {T : Type 0} (o : Option T) (P : T → Type 0) (x : T) → o ≡ Some x → P x → IsSomeAnd o P
and_some o P x e h = subst (λ r. IsSomeAnd r P) (sym e) h

pub same_text : (word a b : List ℕ) → ascii_text word ≡ Some a → ascii_text word ≡ Some b → a ≡ b
same_text word a b d e = let f : Some a ≡ Some b = sym d ∙ e in cc

pub gives_name : (word text : List ℕ) (name : DomainName) → ascii_text word ≡ Some text → Spells text name → GivesName word (name ∷ [])
gives_name word text name e s = and_some (ascii_text word) (λ t. (n : DomainName) × Spells t n × (name ∷ [] ≡ n ∷ [])) text e (name, s, refl)

pub gives_below : (word text : List ℕ) (name : DomainName) → ascii_text word ≡ Some text → IsCovered text name → GivesBelow word (name ∷ wildcard_over name.labels ∷ [])
gives_below word text name e s =
    and_some (ascii_text word) (λ t. (n : DomainName) × IsCovered t n × (name ∷ wildcard_over name.labels ∷ [] ≡ n ∷ wildcard_over n.labels ∷ [])) text e (name, s, refl)

module _ (word : List ℕ) (none : (text : List ℕ) (name : DomainName) → ascii_text word ≡ Some text → ¬ (Spells text name)) (names : List DomainName) where
  pub no_name : ¬ (GivesName word names)
  no_name g = let a = some_and (ascii_text word) (λ t. (n : DomainName) × Spells t n × (names ≡ n ∷ [])) g in none a.0 a.2.0 a.1 a.2.1

  pub none_below : ¬ (GivesBelow word names)
  none_below g =
      let a = some_and (ascii_text word) (λ t. (n : DomainName) × IsCovered t n × (names ≡ n ∷ wildcard_over n.labels ∷ [])) g in none a.0 a.2.0 a.1 a.2.1.spells

-- the name of a word is not covered
pub not_covered : (word text : List ℕ) (name : DomainName) → ascii_text word ≡ Some text → Spells text name
    → ((list_any is_asterisk text ≡ false) × (name_len name.labels ≤ 253) → ⊥) → (names : List DomainName) → ¬ (GivesBelow word names)
not_covered word text name e s not names g =
    let a = some_and (ascii_text word) (λ t. (n : DomainName) × IsCovered t n × (names ≡ n ∷ wildcard_over n.labels ∷ [])) g in
    let t : a.0 ≡ text = same_text word a.0 text a.1 e in
    let covered : IsCovered text a.2.0 = subst (λ (x : List ℕ). IsCovered x a.2.0) t a.2.1 in
    let n : a.2.0 ≡ name = one_name text a.2.0 name covered.spells s in
    not (covered.plain, subst (λ (d : DomainName). name_len d.labels ≤ 253) n covered.room)

-- ---- lines

pub dotted : (labels : List (List ℕ)) → labels ≢ [] → name_text labels false ++ 46 ∷ [] ≡ name_text labels true
dotted [] some = absurd (some refl)
dotted (l ∷ []) some = refl
dotted (l ∷ m ∷ ls) some = append_assoc l (46 ∷ name_text (m ∷ ls) false) (46 ∷ []) ∙ ap (λ r. l ++ 46 ∷ r) (dotted (m ∷ ls) (λ e. cc))

with_mark : (labels : List (List ℕ)) (mark : Bool) → labels ≢ [] → name_text labels mark ++ cond mark (10 ∷ []) (46 ∷ 10 ∷ []) ≡ name_text labels true ++ 10 ∷ []
with_mark labels true some = refl
with_mark labels false some = sym (append_assoc (name_text labels false) (46 ∷ []) (10 ∷ [])) ∙ ap (λ r. r ++ 10 ∷ []) (dotted labels some)

-- a text with what ends its line is the plain line of its name
pub line_is : (text : List ℕ) (name : DomainName) → IsNameText text name → text ++ cond name.is_fqdn (10 ∷ []) (46 ∷ 10 ∷ []) ≡ plain_line (qualified name)
line_is text name t = ap (λ r. r ++ cond name.is_fqdn (10 ∷ []) (46 ∷ 10 ∷ [])) t.spelled ∙ with_mark name.labels name.is_fqdn t.some

wildcard_line : (labels : List (List ℕ)) → labels ≢ [] → plain_line (wildcard_over labels) ≡ (42 ∷ 46 ∷ []) ++ plain_line (record { labels = labels; is_fqdn = true })
wildcard_line [] some = absurd (some refl)
wildcard_line (l ∷ ls) some = refl

pub line_of_one : (name : DomainName) → plain_lines (name ∷ []) ≡ plain_line name
line_of_one name = append-nil (plain_line name)

pub lines_of_two : (old : List ℕ) (name : DomainName) → name.labels ≢ []
    → ((old ++ plain_line (qualified name)) ++ (42 ∷ 46 ∷ [])) ++ plain_line (qualified name) ≡ old ++ plain_lines (qualified name ∷ wildcard_over name.labels ∷ [])
lines_of_two old name some =
    let line = plain_line (qualified name) in
    append_assoc (old ++ line) (42 ∷ 46 ∷ []) line ∙ append_assoc old line ((42 ∷ 46 ∷ []) ++ line)
    ∙ ap (λ r. old ++ (line ++ r)) (sym (wildcard_line name.labels some) ∙ sym (append-nil (plain_line (wildcard_over name.labels))))

-- ---- bytes

pub on_ok : {T E : Type 0} (r : Result T E) (new front same want : List ℕ) → new ≡ cond (is_ok r) front same → front ≡ want → OnOk r (new ≡ want)
on_ok (Ok x) new front same want e f = e ∙ f
on_ok (Err x) new front same want e f = tt

pub ascii_from_all : (bytes : List ℕ) → list_all is_ascii bytes ≡ true → IsAscii bytes
ascii_from_all [] e = IsAscii-nil
ascii_from_all (b ∷ bs) e = elim (cases_Bool (is_ascii b)) [
  | inl low ↦ IsAscii-cons b bs (ltb-true b 128 low) (ascii_from_all bs (sym (ap (λ t. t && list_all is_ascii bs) low) ∙ e))
  | inr high ↦ let f : false ≡ true = sym (ap (λ t. t && list_all is_ascii bs) high) ∙ e in absurd cc
]

-- ---- answers that may be none

pub match_none : {T : Type 0} (o : Option T) (P : Type 0) (Q : T → Type 0) → is_some o ≡ false → MatchOption o P Q → P
match_none None P Q e m = m
match_none (Some x) P Q e m = absurd cc

pub match_some : {T : Type 0} (o : Option T) (P : Type 0) (Q : T → Type 0) → is_some o ≡ true → MatchOption o P Q → (x : T) × Q x
match_some None P Q e m = absurd cc
match_some (Some x) P Q e m = (x, m)
