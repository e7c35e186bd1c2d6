-- Labels that are refused where some of their text is read.
use Rattle.std.proofs.Common.{◌≡◌, ◌≢◌, ◌∙◌, ◌⊎◌, inl, inr, ℕ, ◌+◌, ◌-◌, ◌<◌, ◌≤◌, Bool, true, false, List, [], ◌∷◌, ◌++◌, length, take, drop, get_or, sym, ap, subst, refl, arith, append_assoc, length-append, length-drop}
use Rattle.std.proofs.lemmas.Bool.{cases_lt}
use Rattle.std.proofs.lemmas.List.{drop-drop, drop_more, take-append-drop, take_all, take_rest}
use Rattle.std.specs.Prelude.{IsTrue}
use Rattle.wire_names.specs.rr.domain.DomainName.{IsLabel, name_len, wire_form}
use Rattle.wire_names.proofs.lemmas.rr.domain.WireForm.{name_len-wire_form, wire-append}
use Rattle.text_words.specs.Spelling.{AreLabelsWithDot, HasNoFirstByte, HasNoLabel, HasNoLabels, Spells, SpellsByte, bare_in_label}
use Rattle.text_words.specs.Spelling.SpellsByte.{bare}
use Rattle.text_words.specs.Spelling.AreLabelsWithDot.{dot_last, no_dot}
use Rattle.text_words.proofs.SpelledOnce.{InLabels, Reads, in_labels, in_order, no_dot_first, no_dot_within, no_piece, once, reads_of, same_piece, until_dot}
use Rattle.text_words.proofs.SpelledOnce.Reads.{done, byte}
use Rattle.text_words.proofs.SpelledOnce.InLabels.{none_left, last, first}
use Rattle.text_words.proofs.NoBytes.{parted}

-- No byte of a label stands at the front of a text, which is not empty, nor a dot.
pub record IsStuck (text : List ℕ) : Type 0 where
  pub some : 0 < length text
  pub no_byte : (piece behind : List ℕ) (b : ℕ) (is_bare : Bool) → SpellsByte piece b is_bare → (IsTrue is_bare → IsTrue (bare_in_label b)) → text ≡ (piece ++ behind) → ⊥
  pub not_dot : (behind : List ℕ) → text ≡ (46 ∷ behind) → ⊥

-- behind bytes of a label such a text ends no label
stuck_whole : {p q a b : List ℕ} (r : List ℕ) → IsStuck r → Reads bare_in_label p a → Reads bare_in_label q b → (p ++ r) ≡ q → ⊥
stuck_whole r stuck done done e = omega (arith, stuck.some, ap length e)
stuck_whole r stuck done (byte {piece = q} {rest = s} {b = b} {is_bare = y} two bare_b more_q) e = stuck.no_byte q s b y two bare_b e
stuck_whole r stuck (byte {piece = p} {rest = p'} {b = a} {is_bare = x} one bare_a more_p) done e = no_piece p (p' ++ r) a x one (sym e ∙ append_assoc p p' r)
stuck_whole r stuck (byte {piece = p} {rest = p'} {b = a} {is_bare = x} one bare_a more_p) (byte {piece = q} {rest = q'} {b = b} {is_bare = y} two bare_b more_q) e =
    stuck_whole r stuck more_p more_q (same_piece p q (p' ++ r) q' a b x y one two (sym (append_assoc p p' r) ∙ e)).3

stuck_dot : {p q a b : List ℕ} (r s : List ℕ) → IsStuck r → Reads bare_in_label p a → Reads bare_in_label q b → (p ++ r) ≡ (q ++ 46 ∷ s) → ⊥
stuck_dot r s stuck done done e = stuck.not_dot s e
stuck_dot r s stuck done (byte {piece = q} {rest = q'} {b = b} {is_bare = y} two bare_b more_q) e = stuck.no_byte q (q' ++ 46 ∷ s) b y two bare_b (e ∙ append_assoc q q' (46 ∷ s))
stuck_dot r s stuck (byte {piece = p} {rest = p'} {b = a} {is_bare = x} one bare_a more_p) done e = no_dot_first p (p' ++ r) s a x one bare_a (sym e ∙ append_assoc p p' r)
stuck_dot r s stuck (byte {piece = p} {rest = p'} {b = a} {is_bare = x} one bare_a more_p) (byte {piece = q} {rest = q'} {b = b} {is_bare = y} two bare_b more_q) e =
    stuck_dot r s stuck more_p more_q (same_piece p q (p' ++ r) (q' ++ 46 ∷ s) a b x y one two (sym (append_assoc p p' r) ∙ e ∙ append_assoc q q' (46 ∷ s))).3

no_label_behind : (front r a : List ℕ) → IsStuck r → Reads bare_in_label front a → HasNoLabel (front ++ r)
no_label_behind front r a stuck read piece label one (inl e) = stuck_whole r stuck read (reads_of one) e
no_label_behind front r a stuck read piece label one (inr (behind, e)) = stuck_dot r behind stuck read (reads_of one) e

-- the same of a text of which some is read
pub no_label_at : (text bytes : List ℕ) (place : ℕ) → IsStuck (drop place text) → Spells bare_in_label (take place text) bytes → HasNoLabel text
no_label_at text bytes place stuck read =
    subst HasNoLabel (take-append-drop place text) (no_label_behind (take place text) (drop place text) bytes stuck (in_order bare_in_label read))

-- where no first byte is spelled
pub stuck_at_none : (text : List ℕ) (place : ℕ) → place < length text → HasNoFirstByte (take (length text - place) (drop place text)) → IsStuck (drop place text)
stuck_at_none text place within none =
    let none_here : HasNoFirstByte (drop place text) = subst HasNoFirstByte (take_rest text place) none in
    record {
      some = omega (arith, length-drop place text);
      no_byte = λ piece behind b is_bare one bare_b e. none_here piece behind b is_bare one e;
      not_dot = λ behind e. none_here (46 ∷ []) behind 46 true (bare (omega arith)) e;
    }

-- where the first byte may not stand bare, and is no dot
pub stuck_at_byte : (text : List ℕ) (place len a : ℕ) → SpellsByte (take len (take (length text - place) (drop place text))) a true → place < length text → bare_in_label a ≡ false → a ≢ 46 → IsStuck (drop place text)
stuck_at_byte text place len a one within may_not no_dot_here =
    let parts = parted bare_in_label text place len in
    record {
      some = omega (arith, length-drop place text);
      no_byte = λ piece behind b is_bare two bare_b e.
          let same = same_piece (take len (take (length text - place) (drop place text))) piece (drop (place + len) text) behind a b true is_bare one two (sym parts ∙ e) in
          let may : IsTrue (bare_in_label b) = bare_b (sym same.2) in
          let may_a : bare_in_label a ≡ true = ap bare_in_label same.1 ∙ may in
          cc;
      not_dot = λ behind e.
          let same = same_piece (take len (take (length text - place) (drop place text))) (46 ∷ []) (drop (place + len) text) behind a 46 true true one (bare (omega arith)) (sym parts ∙ e) in
          no_dot_here same.1;
    }

-- bytes of a label are no more than the label
longer_whole : {p q a b : List ℕ} (r : List ℕ) → Reads bare_in_label p a → Reads bare_in_label q b → (p ++ r) ≡ q → length a ≤ length b
longer_whole r done two e = omega arith
longer_whole r (byte {piece = p} {rest = p'} {b = a} {is_bare = x} one bare_a more_p) done e = absurd (no_piece p (p' ++ r) a x one (sym e ∙ append_assoc p p' r))
longer_whole r (byte {piece = p} {rest = p'} {b = a} {is_bare = x} one bare_a more_p) (byte {piece = q} {rest = q'} {b = b} {is_bare = y} two bare_b more_q) e =
    let behind = longer_whole r more_p more_q (same_piece p q (p' ++ r) q' a b x y one two (sym (append_assoc p p' r) ∙ e)).3 in
    omega (arith, behind)

longer_dot : {p q a b : List ℕ} (r s : List ℕ) → Reads bare_in_label p a → Reads bare_in_label q b → (p ++ r) ≡ (q ++ 46 ∷ s) → length a ≤ length b
longer_dot r s done two e = omega arith
longer_dot r s (byte {piece = p} {rest = p'} {b = a} {is_bare = x} one bare_a more_p) done e = absurd (no_dot_first p (p' ++ r) s a x one bare_a (sym e ∙ append_assoc p p' r))
longer_dot r s (byte {piece = p} {rest = p'} {b = a} {is_bare = x} one bare_a more_p) (byte {piece = q} {rest = q'} {b = b} {is_bare = y} two bare_b more_q) e =
    let behind = longer_dot r s more_p more_q (same_piece p q (p' ++ r) (q' ++ 46 ∷ s) a b x y one two (sym (append_assoc p p' r) ∙ e ∙ append_assoc q q' (46 ∷ s))).3 in
    omega (arith, behind)

-- more than 63 bytes are no label
too_long_front : (front r a : List ℕ) → 63 < length a → Reads bare_in_label front a → HasNoLabel (front ++ r)
too_long_front front r a long read piece label one (inl e) = omega (arith, long, longer_whole r read (reads_of one) e, one.sized.1)
too_long_front front r a long read piece label one (inr (behind, e)) = omega (arith, long, longer_dot r behind read (reads_of one) e, one.sized.1)

pub too_long_label : (text bytes : List ℕ) (place : ℕ) → 63 < length bytes → Spells bare_in_label (take place text) bytes → HasNoLabel text
too_long_label text bytes place long read = subst HasNoLabel (take-append-drop place text) (too_long_front (take place text) (drop place text) bytes long (in_order bare_in_label read))

-- What is left of the labels of a text of which some are read, as all labels say that the text may have.
pub record AreLeft (text : List ℕ) (place : ℕ) (read : List (List ℕ)) (dot : Bool) (all : List (List ℕ)) : Type 0 where
  pub behind : List (List ℕ)
  pub are : InLabels (drop place text) dot behind
  pub some : behind ≢ []
  pub together : all ≡ (read ++ behind)

abbrev pub AllLeft : List ℕ → ℕ → List (List ℕ) → Type 0
AllLeft text place read = (dot : Bool) (all : List (List ℕ)) → AreLabelsWithDot dot text all → AreLeft text place read dot all

not_empty : (dot : Bool) (text : List ℕ) (ls : List (List ℕ)) → AreLabelsWithDot dot text ls → ls ≢ []
not_empty dot text ls (dot_last spelled some) = some
not_empty dot text ls (no_dot {labels = []} spelled one) = λ e. cc
not_empty dot text ls (no_dot {labels = l ∷ labels} spelled one) = λ e. cc

pub all_left : (text : List ℕ) (read : List (List ℕ)) → read ≡ [] → AllLeft text 0 read
all_left text read none dot all h = record { behind = all; are = in_labels dot text all h; some = not_empty dot text all h; together = rw none refl }

-- where no label stands at the front, no labels do
no_labels_front : (t : List ℕ) (dot : Bool) (ls : List (List ℕ)) → HasNoLabel t → InLabels t dot ls → ls ≢ [] → ⊥
no_labels_front t dot ls none none_left some = some refl
no_labels_front t dot ls none (last {piece = p} {label = l} one) some = none p l one (inl refl)
no_labels_front t dot ls none (first {piece = p} {label = l} {rest = r} one then) some = none p l one (inr (r, refl))

pub no_label_left : (text : List ℕ) (place : ℕ) (read : List (List ℕ)) → AllLeft text place read → HasNoLabel (take (length text - place) (drop place text)) → HasNoLabels text
no_label_left text place read left none dot all h short =
    let l = left dot all h in no_labels_front (drop place text) dot l.behind (subst HasNoLabel (take_rest text place) none) l.are l.some

-- the first label of what is left
pub record IsFront (t : List ℕ) (used : ℕ) (dot : Bool) (label : List ℕ) (ls : List (List ℕ)) : Type 0 where
  pub behind : List (List ℕ)
  pub is : ls ≡ (label ∷ behind)
  pub sized : IsLabel label
  pub rest : used < length t → InLabels (drop (used + 1) t) dot behind

front_whole : (t p a : List ℕ) (used : ℕ) (dot : Bool) (ls : List (List ℕ)) → Reads bare_in_label p a → t ≡ p → length t ≤ used → InLabels t dot ls → ls ≢ [] → IsFront t used dot a ls
front_whole t p a used dot ls read e over none_left some = absurd (some refl)
front_whole t p a used dot ls read e over (last {piece = q} {label = l} one) some =
    let same : l ≡ a = once bare_in_label (reads_of one) read e in
    record { behind = []; is = rw same refl; sized = subst IsLabel same one.sized; rest = λ below. absurd (omega (arith, over, below)) }
front_whole t p a used dot ls read e over (first {piece = q} {rest = r} one then) some = absurd (no_dot_within r read (reads_of one) (sym e))

front_dot : (t p a r : List ℕ) (used : ℕ) (dot : Bool) (ls : List (List ℕ)) → Reads bare_in_label p a → t ≡ (p ++ 46 ∷ r) → r ≡ drop (used + 1) t → InLabels t dot ls → ls ≢ [] → IsFront t used dot a ls
front_dot t p a r used dot ls read e rest none_left some = absurd (some refl)
front_dot t p a r used dot ls read e rest (last {piece = q} {label = l} one) some = absurd (no_dot_within r (reads_of one) read e)
front_dot t p a r used dot ls read e rest (first {piece = q} {label = l} {rest = s} {behind = bs} one then) some =
    let same : (l ≡ a) × (s ≡ r) = until_dot s r (reads_of one) read e in
    record { behind = bs; is = ap (λ (c : List ℕ). c ∷ bs) same.0; sized = subst IsLabel same.0 one.sized; rest = λ below. subst (λ (u : List ℕ). InLabels u dot bs) (same.1 ∙ rest) then }

front_of : (t a : List ℕ) (used : ℕ) (dot : Bool) (ls : List (List ℕ)) → used ≤ length t → Spells bare_in_label (take used t) a → (used < length t → get_or t used 0 ≡ 46) → InLabels t dot ls → ls ≢ [] → IsFront t used dot a ls
front_of t a used dot ls within read dot_at left some = by_order (cases_lt used (length t)) where
  by_order : (used < length t) ⊎ (length t ≤ used) → IsFront t used dot a ls
  by_order (inl below) =
      let parts : t ≡ (take used t ++ 46 ∷ drop (used + 1) t) =
      sym (take-append-drop used t) ∙ ap (λ (u : List ℕ). take used t ++ u) (drop_more t used 0 below) ∙ ap (λ (b : ℕ). take used t ++ b ∷ drop (used + 1) t) (dot_at below) in
      front_dot t (take used t) a (drop (used + 1) t) used dot ls (in_order bare_in_label read) parts refl left some
  by_order (inr over) = front_whole t (take used t) a used dot ls (in_order bare_in_label read) (sym (take_all used t over)) over left some

-- the label that is read next is the first of those that are left
pub next_label : (text a : List ℕ) (place used : ℕ) (read : List (List ℕ)) (dot : Bool) (all : List (List ℕ)) → used ≤ length (take (length text - place) (drop place text)) → Spells bare_in_label (take used (take (length text - place) (drop place text))) a
    → (used < length (take (length text - place) (drop place text)) → get_or (take (length text - place) (drop place text)) used 0 ≡ 46) → (left : AreLeft text place read dot all) → IsFront (drop place text) used dot a left.behind
next_label text a place used read dot all within spelled dot_at left =
    front_of (drop place text) a used dot left.behind (subst (λ (u : List ℕ). used ≤ length u) (take_rest text place) within) (subst (λ (u : List ℕ). Spells bare_in_label (take used u) a) (take_rest text place) spelled)
    (subst (λ (u : List ℕ). used < length u → get_or u used 0 ≡ 46) (take_rest text place) dot_at) left.are left.some

-- an empty one is none
pub empty_label : (t : List ℕ) (used : ℕ) (dot : Bool) (a : List ℕ) (ls : List (List ℕ)) → length a ≡ 0 → IsFront t used dot a ls → ⊥
empty_label t used dot a ls none front = omega (arith, none, front.sized.0)

-- with it the name has more than 255 bytes
pub too_long_name : (t : List ℕ) (used : ℕ) (dot : Bool) (a : List ℕ) (read ls all : List (List ℕ)) → 254 < length (wire_form read) + 1 + length a → all ≡ (read ++ ls) → IsFront t used dot a ls → name_len all ≤ 255 → ⊥
too_long_name t used dot a read ls all long together front short =
    let whole : all ≡ (read ++ a ∷ front.behind) = together ∙ ap (λ (x : List (List ℕ)). read ++ x) front.is in
    omega (arith, long, short, name_len-wire_form all, ap (λ (x : List (List ℕ)). length (wire_form x)) whole, ap length (wire-append read (a ∷ front.behind)), length-append (wire_form read) (length a ∷ (a ++ wire_form front.behind)), length-append a (wire_form front.behind))

some_behind : (t : List ℕ) (dot : Bool) (ls : List (List ℕ)) → 0 < length t → InLabels t dot ls → ls ≢ []
some_behind t dot ls some none_left = absurd (omega (arith, some))
some_behind t dot ls some (last one) = λ e. cc
some_behind t dot ls some (first one then) = λ e. cc

-- the labels that are left behind it
pub one_label_left : (text a : List ℕ) (place used : ℕ) (read after : List (List ℕ)) (dot : Bool) (all : List (List ℕ)) → place + used + 1 < length text → after ≡ (read ++ a ∷ []) → (left : AreLeft text place read dot all) → IsFront (drop place text) used dot a left.behind
    → AreLeft text (place + used + 1) after dot all
one_label_left text a place used read after dot all within pushed left front =
    let below : used < length (drop place text) = omega (arith, length-drop place text, within) in
    let moved : drop (used + 1) (drop place text) ≡ drop (place + used + 1) text = drop-drop (used + 1) place text ∙ ap (λ (n : ℕ). drop n text) (omega arith) in
    let rest : InLabels (drop (place + used + 1) text) dot front.behind = subst (λ (u : List ℕ). InLabels u dot front.behind) moved (front.rest below) in
    record {
      behind = front.behind;
      are = rest;
      some = some_behind (drop (place + used + 1) text) dot front.behind (omega (arith, length-drop (place + used + 1) text, within)) rest;
      together = left.together ∙ ap (λ (x : List (List ℕ)). read ++ x) front.is ∙ sym (append_assoc read (a ∷ []) front.behind) ∙ ap (λ (x : List (List ℕ)). x ++ front.behind) (sym pushed);
    }
