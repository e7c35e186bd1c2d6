-- The plain lines of names, as lines of a list: each lists its name.
use Rattle.std.proofs.Common.{◌≡◌, ◌≢◌, ◌⊎◌, inl, inr, ℕ, zero, suc, ◌-◌, ◌<◌, ◌==◌, ◌||◌, Bool, true, false, cond, List, [], ◌∷◌, ◌++◌, length, take, Option, Some, None, Any, refl, sym, ap, ◌∙◌, subst, arith, append_assoc, length-append, get_or}
use Rattle.std.specs.Prelude.{◌↔◌, codes, map, MatchBool, MatchOption, slice_index}
use Rattle.std.specs.List.{AllByRecursion, after_first, before_first, list_any, slice_split}
use Rattle.std.specs.Str.{bytes_eq, trim}
use Rattle.std.specs.Str.Lines.{lines, lines_of_parts, strip_carriage_return}
use Rattle.std.proofs.Math.Seq.{get_or-append_seam}
use Rattle.std.proofs.lemmas.Bool.{ne_eqb}
use Rattle.std.proofs.lemmas.List.Elements.{recursion_from_All, All-from_recursion}
use Rattle.std.proofs.lemmas.List.Splits.{slice_split_at}
use Rattle.wire_names.specs.rr.domain.DomainName.{DomainName}
use Rattle.wire_names.specs.rr.domain.NameOrder.{SameName}
use Rattle.wire_names.specs.rr.domain.NameText.{IsNameByte, IsTextLabel, IsNameText, name_text}
use Rattle.hickory_store.specs.blocklist.Entries.{HasEntry}
use Rattle.hickory_store.specs.blocklist.ListLines.{Lists, name_of, name_part, is_comment, is_blank}
use Rattle.name_lists.specs.Counts.{BecomeOf, given_names}
use Rattle.name_lists.specs.Gives.{GivesAlone, GivesHost, GivesHosts, GivesHostsLine, GivesWords, covered_name, is_local, is_root_alias, is_sink}
use Rattle.name_lists.specs.Names.{Spells, IsCovered, GivesName, GivesBelow, ascii_text, qualified, wildcard_over, plain_lines}
use Rattle.name_lists.specs.Words.{words_of_line}
use Rattle.name_lists.proofs.NameLines.{some_and, one_text_name, dotted}
use Rattle.name_lists.proofs.Splitting.{some_parts}

abbrev pub text_of : DomainName → List ℕ
text_of name = name_text name.labels name.is_fqdn

-- a fully qualified name that has a text
pub record IsListable (name : DomainName) : Type 0 where
  pub full : name.is_fqdn ≡ true
  pub spelled : IsNameText (text_of name) name

abbrev pub AreListable : List DomainName → Type 0
AreListable [] = Unit {0}
AreListable (name ∷ names) = IsListable name × AreListable names

both_listable : (names more : List DomainName) → AreListable names → AreListable more → AreListable (names ++ more)
both_listable [] more a b = b
both_listable (name ∷ names) more a b = (a.0, both_listable names more a.1 b)

-- ---- what is given is listable

spelled_listable : (text : List ℕ) (name : DomainName) → Spells text name → IsListable name
spelled_listable text name s =
    let q : IsListable (qualified s.written) = record { full = refl; spelled = record { some = s.spelled.some; each = s.spelled.each; short = s.spelled.short; spelled = refl } } in
    subst IsListable (sym s.full) q

wildcard_listable : (text : List ℕ) (name : DomainName) → IsCovered text name → IsListable (wildcard_over name.labels)
wildcard_listable text name covered =
    let n = spelled_listable text name covered.spells in
    record {
      full = refl;
      spelled = record {
        some = λ e. cc;
        each = All-from_recursion IsTextLabel ((42 ∷ []) ∷ name.labels) (inl refl, recursion_from_All IsTextLabel name.labels n.spelled.each);
        short = omega (arith, covered.room);
        spelled = refl;
      };
    }

name_listable : (word : List ℕ) (names : List DomainName) → GivesName word names → AreListable names
name_listable word names g =
    let a = some_and (ascii_text word) (λ t. (n : DomainName) × Spells t n × (names ≡ n ∷ [])) g in
    subst AreListable (sym a.2.2) (spelled_listable a.0 a.2.0 a.2.1, tt)

below_listable : (word : List ℕ) (names : List DomainName) → GivesBelow word names → AreListable names
below_listable word names g =
    let a = some_and (ascii_text word) (λ t. (n : DomainName) × IsCovered t n × (names ≡ n ∷ wildcard_over n.labels ∷ [])) g in
    subst AreListable (sym a.2.2) (spelled_listable a.0 a.2.0 a.2.1.spells, (wildcard_listable a.0 a.2.0 a.2.1, tt))

host_listable : (is_behind_sink : Bool) (word : List ℕ) (names : List DomainName) → GivesHost is_behind_sink word names → AreListable names
host_listable is_behind_sink word names g = by (is_local word) g where
  by : (t : Bool) → MatchBool t (names ≡ []) ((is_behind_sink ≡ true) × GivesName word names) → AreListable names
  by true h = subst AreListable (sym h) tt
  by false h = name_listable word names h.1

hosts_listable : (is_behind_sink : Bool) (words : List (List ℕ)) (names : List DomainName) → GivesHosts is_behind_sink words names → AreListable names
hosts_listable is_behind_sink [] names g = subst AreListable (sym g) tt
hosts_listable is_behind_sink (word ∷ words) names g =
    subst AreListable (sym g.4) (both_listable g.0 g.1 (host_listable is_behind_sink word g.0 g.2) (hosts_listable is_behind_sink words g.1 g.3))

alone_listable : (word : List ℕ) (names : List DomainName) → GivesAlone word names → AreListable names
alone_listable word names g = by (covered_name word) g where
  by : (o : Option (List ℕ)) → MatchOption o (GivesHost true word names) (λ name. GivesBelow name names) → AreListable names
  by None h = host_listable true word names h
  by (Some name) h = below_listable name names h

words_listable : (words : List (List ℕ)) (names : List DomainName) → GivesWords words names → AreListable names
words_listable [] names g = subst AreListable (sym g) tt
words_listable (word ∷ []) names g = alone_listable word names g
words_listable (word ∷ next ∷ more) names g = by (is_root_alias (next ∷ more)) g where
  by : (t : Bool) → MatchBool t (GivesName word names) (GivesHostsLine word (next ∷ more) names) → AreListable names
  by true h = name_listable word names h
  by false h = hosts_listable (is_sink word) (next ∷ more) names h.1

pub all_listable : (ls : List (List ℕ)) (os : List (Option (List DomainName))) → BecomeOf ls os → AreListable (given_names os)
all_listable [] [] b = tt
all_listable [] (o ∷ os) b = absurd b
all_listable (l ∷ ls) [] b = absurd b
all_listable (l ∷ ls) (None ∷ os) b = all_listable ls os b.1
all_listable (l ∷ ls) (Some names ∷ os) b = both_listable names (given_names os) (words_listable (words_of_line l) names b.0) (all_listable ls os b.1)

-- ---- the bytes of a name's text

abbrev IsPlainByte : ℕ → Type 0
IsPlainByte b = (b ≢ 10) × (b ≢ 32) × (b ≢ 35)

abbrev Plain : List ℕ → Type 0
Plain bytes = AllByRecursion IsPlainByte bytes

plain_byte : (b : ℕ) → IsNameByte b → IsPlainByte b
plain_byte b h = (λ e. grind arith, λ e. grind arith, λ e. grind arith)

plain_bytes : (label : List ℕ) → AllByRecursion IsNameByte label → Plain label
plain_bytes [] h = tt
plain_bytes (b ∷ label) h = (plain_byte b h.0, plain_bytes label h.1)

plain_label : (label : List ℕ) → IsTextLabel label → Plain label
plain_label label h = elim h [
  | inl e ↦ subst Plain (sym e) ((λ z. omega arith, λ z. omega arith, λ z. omega arith), tt)
  | inr is ↦ plain_bytes label (recursion_from_All IsNameByte label is.1)
]

plain_both : (a b : List ℕ) → Plain a → Plain b → Plain (a ++ b)
plain_both [] b p q = q
plain_both (x ∷ a) b p q = (p.0, plain_both a b p.1 q)

plain_dot : Plain (46 ∷ [])
plain_dot = ((λ z. omega arith, λ z. omega arith, λ z. omega arith), tt)

plain_text : (labels : List (List ℕ)) → AllByRecursion IsTextLabel labels → Plain (name_text labels true)
plain_text [] h = tt
plain_text (l ∷ []) h = plain_both l (46 ∷ []) (plain_label l h.0) plain_dot
plain_text (l ∷ m ∷ ls) h = plain_both l (46 ∷ name_text (m ∷ ls) true) (plain_label l h.0) (plain_dot.0, plain_text (m ∷ ls) h.1)

no_feeds : (bytes : List ℕ) → Plain bytes → AllByRecursion (λ b. (b == 10) ≡ false) bytes
no_feeds [] p = tt
no_feeds (b ∷ bytes) p = (ne_eqb b 10 p.0.0, no_feeds bytes p.1)

no_blanks : (bytes : List ℕ) → Plain bytes → list_any is_blank bytes ≡ false
no_blanks [] p = refl
no_blanks (b ∷ bytes) p = ap (λ t. t || list_any is_blank bytes) (ne_eqb b 32 p.0.1) ∙ no_blanks bytes p.1

no_comments : (bytes : List ℕ) → Plain bytes → list_any is_comment bytes ≡ false
no_comments [] p = refl
no_comments (b ∷ bytes) p = ap (λ t. t || list_any is_comment bytes) (ne_eqb b 35 p.0.2) ∙ no_comments bytes p.1

listable_plain : (name : DomainName) → IsListable name → Plain (text_of name)
listable_plain name l =
    subst (λ t. Plain (name_text name.labels t)) (sym l.full) (plain_text name.labels (recursion_from_All IsTextLabel name.labels l.spelled.each))

-- the text ends in a dot
ends_in_dot : (name : DomainName) → IsListable name → text_of name ≡ name_text name.labels false ++ 46 ∷ []
ends_in_dot name l = ap (name_text name.labels) l.full ∙ sym (dotted name.labels l.spelled.some)

kept_line : (front : List ℕ) → strip_carriage_return (front ++ 46 ∷ []) ≡ front ++ 46 ∷ []
kept_line front =
    let line = front ++ 46 ∷ [] in
    let last : length line - 1 ≡ length front = omega (arith, length-append front (46 ∷ [])) in
    let dot : slice_index line (length line - 1) ≡ 46 = ap (slice_index line) last ∙ get_or-append_seam front 46 [] 0 in
    ap (λ b. cond (b == 13) (take (length line - 1) line) line) dot

stays : (name : DomainName) → IsListable name → strip_carriage_return (text_of name) ≡ text_of name
stays name l = subst (λ t. strip_carriage_return t ≡ t) (sym (ends_in_dot name l)) (kept_line (name_text name.labels false))

-- the lines of plain lines are the texts of the names
pub lines_are : (names : List DomainName) → AreListable names → lines (plain_lines names) ≡ map text_of names
lines_are [] l = refl
lines_are (name ∷ names) l =
    let text = text_of name in
    let rest = plain_lines names in
    let some = some_parts (λ b. b == 10) rest in
    let parts : slice_split (λ b. b == 10) (plain_lines (name ∷ names)) ≡ text ∷ slice_split (λ b. b == 10) rest =
    ap (slice_split (λ b. b == 10)) (append_assoc text (10 ∷ []) rest)
    ∙ slice_split_at (λ b. b == 10) text 10 rest (All-from_recursion (λ b. (b == 10) ≡ false) text (no_feeds text (listable_plain name l.0))) refl in
    ap lines_of_parts (parts ∙ ap (λ ps. text ∷ ps) some.2)
    ∙ ap (λ t. t ∷ lines_of_parts (some.0 ∷ some.1)) (stays name l.0)
    ∙ ap (λ ps. text ∷ ps) (ap lines_of_parts (sym some.2) ∙ lines_are names l.1)

-- ---- such a line lists its name

part_is : (name : DomainName) → IsListable name → name_part (text_of name) ≡ Some (text_of name)
part_is name l =
    let text = text_of name in
    let plain = listable_plain name l in
    ap name_of (ap (λ b. cond b (trim (before_first is_comment text)) text) (no_comments text plain))
    ∙ ap (λ b. cond b (cond (bytes_eq (trim (before_first is_blank text)) (codes "0.0.0.0")) (Some (after_first is_blank text)) None) (Some text)) (no_blanks text plain)

pub lists_it : (name : DomainName) → IsListable name → (q : DomainName) → Lists (text_of name) q ↔ SameName name q
lists_it name l q = (
  λ h.
      let e : Some (text_of name) ≡ Some h.text = sym (part_is name l) ∙ h.part in
      let t : h.text ≡ text_of name = cc in
      let is : h.written ≡ name = one_text_name (text_of name) h.written name (subst (λ x. IsNameText x h.written) t h.spelled) l.spelled in
      let same : SameName (qualified name) q = subst (λ (d : DomainName). SameName (qualified d) q) is h.same in
      record { labels = same.labels; marks = l.full ∙ same.marks },
  λ s. record {
    text = text_of name;
    written = name;
    part = part_is name l;
    spelled = l.spelled;
    same = record { labels = s.labels; marks = sym l.full ∙ s.marks };
  },
)

-- ---- some element

module _ {X : Type 0} (P : X → Type 0) where
  any_head : (x : X) (xs : List X) → P x → Any P (x ∷ xs)
  any_head x xs p = (0, x, omega arith, refl, p)

  any_tail : (x : X) (xs : List X) → Any P xs → Any P (x ∷ xs)
  any_tail x xs a = (suc a.0, a.1, omega (arith, a.2), a.3, a.4)

  any_at : (x : X) (xs : List X) (k : ℕ) (y : X) → k < length (x ∷ xs) → get_or (x ∷ xs) k y ≡ y → P y → P x ⊎ Any P xs
  any_at x xs zero y lt e p = inl (subst P (sym e) p)
  any_at x xs (suc k) y lt e p = inr (k, y, omega arith, e, p)

  any_split : (x : X) (xs : List X) → Any P (x ∷ xs) → P x ⊎ Any P xs
  any_split x xs a = any_at x xs a.0 a.1 a.2 a.3 a.4

  pub any_of_front : (n : ℕ) (xs : List X) → Any P (take n xs) → Any P xs
  any_of_front zero xs a = absurd (omega (arith, a.2))
  any_of_front (suc n) [] a = a
  any_of_front (suc n) (x ∷ xs) a = elim (any_split x (take n xs) a) [ inl here ↦ any_head x xs here | inr later ↦ any_tail x xs (any_of_front n xs later) ]

-- the texts of names list them
pub listed : (names : List DomainName) → AreListable names → (q : DomainName) → Any (λ line. Lists line q) (map text_of names) → HasEntry names q
listed [] l q a = absurd (omega (arith, a.2))
listed (name ∷ names) l q a = elim (any_split (λ line. Lists line q) (text_of name) (map text_of names) a) [
  | inl here ↦ any_head (λ entry. SameName entry q) name names ((lists_it name l.0 q).0 here)
  | inr later ↦ any_tail (λ entry. SameName entry q) name names (listed names l.1 q later)
]

pub listing : (names : List DomainName) → AreListable names → (q : DomainName) → HasEntry names q → Any (λ line. Lists line q) (map text_of names)
listing [] l q a = absurd (omega (arith, a.2))
listing (name ∷ names) l q a = elim (any_split (λ entry. SameName entry q) name names a) [
  | inl here ↦ any_head (λ line. Lists line q) (text_of name) (map text_of names) ((lists_it name l.0 q).1 here)
  | inr later ↦ any_tail (λ line. Lists line q) (text_of name) (map text_of names) (listing names l.1 q later)
]
