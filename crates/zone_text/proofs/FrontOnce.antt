-- What stands behind an owner name is told in one way.
use Rattle.std.proofs.Common.{◌≡◌, ◌∙◌, ℕ, List, ◌∷◌, ◌++◌, Option, Some, None, sym, ap, subst, refl}
use Rattle.text_words.specs.declared.words.Word.{Word}
use Rattle.text_words.proofs.SpelledOnce.{times_once}
use Rattle.record_text.specs.RecordText.{HasNone}
use Rattle.zone_text.specs.ZoneFiles.{AreTtlAndClass, BeginsWith, IsClassIn, IsFrontOf, IsTtl, IsTypeWord}
use Rattle.zone_text.specs.ZoneFiles.AreTtlAndClass.{neither, class, ttl, class_ttl, ttl_class}
use Rattle.zone_text.specs.ZoneFaults.{BeginsWithNoFront}
use Rattle.zone_text.proofs.WordKinds.{class_no_type, ttl_no_class, ttl_no_type}

heads : (a b : Word) (r s : List Word) → (a ∷ r) ≡ (b ∷ s) → (a ≡ b) × (r ≡ s)
heads a b r s e = (cc, cc)

same_ttl : (a b : Word) (n m : ℕ) → a ≡ b → IsTtl a n → IsTtl b m → n ≡ m
same_ttl a b n m same one two = let two_a : IsTtl a m = subst (λ (w : Word). IsTtl w m) (sym same) two in times_once a.bytes.now n m one.spelled two_a.spelled

abbrev AtType : ℕ → List Word → List Word → Type 0
AtType number words behind = BeginsWith (IsTypeWord number) words behind

-- the first word is no type, where it is a TTL, the class, or none that may stand there
abbrev pub NoType : Word → Type 0
NoType word = (number : ℕ) → IsTypeWord number word → ⊥

not_type : (word : Word) (words rest : List Word) (number : ℕ) (behind : List Word) → words ≡ (word ∷ rest) → NoType word → AtType number words behind → ⊥
not_type word words rest number behind is none at = none number (subst (IsTypeWord number) (sym (heads word at.0 rest behind (sym is ∙ at.1)).0) at.2)

not_class : (word c : Word) (words rest more : List Word) → words ≡ (word ∷ rest) → words ≡ (c ∷ more) → (IsClassIn word → ⊥) → IsClassIn c → ⊥
not_class word c words rest more is at none c_is = none (subst IsClassIn (sym (heads word c rest more (sym is ∙ at)).0) c_is)

not_ttl : (word t : Word) (n : ℕ) (words rest more : List Word) → words ≡ (word ∷ rest) → words ≡ (t ∷ more) → HasNone (IsTtl word) → IsTtl t n → ⊥
not_ttl word t n words rest more is at none is_ttl = none n (subst (λ (w : Word). IsTtl w n) (sym (heads word t rest more (sym is ∙ at)).0) is_ttl)

ttl_of_none : (word : Word) → IsClassIn word → HasNone (IsTtl word)
ttl_of_none word k_is n is = ttl_no_class word n is k_is

-- no TTL and no class stand first: all words are those behind them
pub after_nothing : (words : List Word) → ((seconds : ℕ) → HasNone (BeginsWith (λ word. IsTtl word seconds) words)) → HasNone (BeginsWith IsClassIn words) → (own : Option ℕ) (number : ℕ) (behind : List Word) → IsFrontOf words own number behind → (own ≡ None) × AtType number words behind
after_nothing words no_ttl no_class own number behind f = by_timed f.front f.rest own f.in_order f.timed f.typed where
  by_timed : (front rest : List Word) (own : Option ℕ) → words ≡ (front ++ rest) → AreTtlAndClass front own → AtType number rest behind → (own ≡ None) × AtType number words behind
  by_timed front rest own at neither typed = (refl, subst (λ (ws : List Word). AtType number ws behind) (sym at) typed)
  by_timed front rest own at (class {word = c} is) typed = absurd (no_class rest (c, at, is))
  by_timed front rest own at (ttl {word = t} {seconds = n} is) typed = absurd (no_ttl n rest (t, at, is))
  by_timed front rest own at (class_ttl {first = c} {second = t} is is') typed = absurd (no_class (t ∷ rest) (c, at, is))
  by_timed front rest own at (ttl_class {first = t} {second = c} {seconds = n} is is') typed = absurd (no_ttl n (c ∷ rest) (t, at, is))

-- a TTL stands first, and no class behind it
pub after_ttl : (words fields : List Word) (w : Word) (s : ℕ) → words ≡ (w ∷ fields) → IsTtl w s → HasNone (BeginsWith IsClassIn fields) → (own : Option ℕ) (number : ℕ) (behind : List Word) → IsFrontOf words own number behind → (own ≡ Some s) × AtType number fields behind
after_ttl words fields w s here w_is no_class own number behind f = by_timed f.front f.rest own f.in_order f.timed f.typed where
  by_timed : (front rest : List Word) (own : Option ℕ) → words ≡ (front ++ rest) → AreTtlAndClass front own → AtType number rest behind → (own ≡ Some s) × AtType number fields behind
  by_timed front rest own at neither typed = absurd (not_type w rest fields number behind (sym at ∙ here) (λ m type. ttl_no_type w s m w_is type) typed)
  by_timed front rest own at (class {word = c} is) typed = absurd (not_class w c words fields rest here at (ttl_no_class w s w_is) is)
  by_timed front rest own at (ttl {word = t} {seconds = n} is) typed =
      let same = heads w t fields rest (sym here ∙ at) in
      (ap (λ (k : ℕ). Some k) (sym (same_ttl w t s n same.0 w_is is)), subst (λ (ws : List Word). AtType number ws behind) (sym same.1) typed)
  by_timed front rest own at (class_ttl {first = c} {second = t} is is') typed = absurd (not_class w c words fields (t ∷ rest) here at (ttl_no_class w s w_is) is)
  by_timed front rest own at (ttl_class {first = t} {second = c} {seconds = n} is is') typed = absurd (no_class rest (c, (heads w t fields (c ∷ rest) (sym here ∙ at)).1, is'))

-- a TTL and the class stand first
pub after_ttl_class : (words fields rest_of : List Word) (w k : Word) (s : ℕ) → words ≡ (w ∷ fields) → IsTtl w s → fields ≡ (k ∷ rest_of) → IsClassIn k → (own : Option ℕ) (number : ℕ) (behind : List Word) → IsFrontOf words own number behind → (own ≡ Some s) × AtType number rest_of behind
after_ttl_class words fields rest_of w k s here w_is next k_is own number behind f = by_timed f.front f.rest own f.in_order f.timed f.typed where
  by_timed : (front rest : List Word) (own : Option ℕ) → words ≡ (front ++ rest) → AreTtlAndClass front own → AtType number rest behind → (own ≡ Some s) × AtType number rest_of behind
  by_timed front rest own at neither typed = absurd (not_type w rest fields number behind (sym at ∙ here) (λ m type. ttl_no_type w s m w_is type) typed)
  by_timed front rest own at (class {word = c} is) typed = absurd (not_class w c words fields rest here at (ttl_no_class w s w_is) is)
  by_timed front rest own at (ttl {word = t} {seconds = n} is) typed =
      let same = heads w t fields rest (sym here ∙ at) in
      absurd (not_type k rest rest_of number behind (sym same.1 ∙ next) (class_no_type k k_is) typed)
  by_timed front rest own at (class_ttl {first = c} {second = t} is is') typed = absurd (not_class w c words fields (t ∷ rest) here at (ttl_no_class w s w_is) is)
  by_timed front rest own at (ttl_class {first = t} {second = c} {seconds = n} is is') typed =
      let same = heads w t fields (c ∷ rest) (sym here ∙ at) in
      let last = heads k c rest_of rest (sym next ∙ same.1) in
      (ap (λ (m : ℕ). Some m) (sym (same_ttl w t s n same.0 w_is is)), subst (λ (ws : List Word). AtType number ws behind) (sym last.1) typed)

-- the class stands first, and no TTL behind it
pub after_class : (words rest_of : List Word) (k : Word) → words ≡ (k ∷ rest_of) → IsClassIn k → ((seconds : ℕ) → HasNone (BeginsWith (λ word. IsTtl word seconds) rest_of)) → (own : Option ℕ) (number : ℕ) (behind : List Word) → IsFrontOf words own number behind → (own ≡ None) × AtType number rest_of behind
after_class words rest_of k here k_is no_ttl own number behind f = by_timed f.front f.rest own f.in_order f.timed f.typed where
  by_timed : (front rest : List Word) (own : Option ℕ) → words ≡ (front ++ rest) → AreTtlAndClass front own → AtType number rest behind → (own ≡ None) × AtType number rest_of behind
  by_timed front rest own at neither typed = absurd (not_type k rest rest_of number behind (sym at ∙ here) (class_no_type k k_is) typed)
  by_timed front rest own at (class {word = c} is) typed = (refl, subst (λ (ws : List Word). AtType number ws behind) (sym (heads k c rest_of rest (sym here ∙ at)).1) typed)
  by_timed front rest own at (ttl {word = t} {seconds = n} is) typed = absurd (not_ttl k t n words rest_of rest here at (ttl_of_none k k_is) is)
  by_timed front rest own at (class_ttl {first = c} {second = t} {seconds = n} is is') typed = absurd (no_ttl n rest (t, (heads k c rest_of (t ∷ rest) (sym here ∙ at)).1, is'))
  by_timed front rest own at (ttl_class {first = t} {second = c} {seconds = n} is is') typed = absurd (not_ttl k t n words rest_of (c ∷ rest) here at (ttl_of_none k k_is) is)

-- the class and a TTL stand first
pub after_class_ttl : (words fields rest_of : List Word) (k w : Word) (s : ℕ) → words ≡ (k ∷ fields) → IsClassIn k → fields ≡ (w ∷ rest_of) → IsTtl w s → (own : Option ℕ) (number : ℕ) (behind : List Word) → IsFrontOf words own number behind → (own ≡ Some s) × AtType number rest_of behind
after_class_ttl words fields rest_of k w s here k_is next w_is own number behind f = by_timed f.front f.rest own f.in_order f.timed f.typed where
  by_timed : (front rest : List Word) (own : Option ℕ) → words ≡ (front ++ rest) → AreTtlAndClass front own → AtType number rest behind → (own ≡ Some s) × AtType number rest_of behind
  by_timed front rest own at neither typed = absurd (not_type k rest fields number behind (sym at ∙ here) (class_no_type k k_is) typed)
  by_timed front rest own at (class {word = c} is) typed =
      let same = heads k c fields rest (sym here ∙ at) in
      absurd (not_type w rest rest_of number behind (sym same.1 ∙ next) (λ m type. ttl_no_type w s m w_is type) typed)
  by_timed front rest own at (ttl {word = t} {seconds = n} is) typed = absurd (not_ttl k t n words fields rest here at (ttl_of_none k k_is) is)
  by_timed front rest own at (class_ttl {first = c} {second = t} {seconds = n} is is') typed =
      let same = heads k c fields (t ∷ rest) (sym here ∙ at) in
      let last = heads w t rest_of rest (sym next ∙ same.1) in
      (ap (λ (m : ℕ). Some m) (sym (same_ttl w t s n last.0 w_is is')), subst (λ (ws : List Word). AtType number ws behind) (sym last.1) typed)
  by_timed front rest own at (ttl_class {first = t} {second = c} {seconds = n} is is') typed = absurd (not_ttl k t n words fields (c ∷ rest) here at (ttl_of_none k k_is) is)

-- a word that may not stand there stands first
pub no_front : (words : List Word) → BeginsWithNoFront words → (own : Option ℕ) (number : ℕ) → HasNone (IsFrontOf words own number)
no_front words (fields, (w, here, none)) own number behind f = by_timed f.front f.rest own f.in_order f.timed f.typed where
  by_timed : (front rest : List Word) (own : Option ℕ) → words ≡ (front ++ rest) → AreTtlAndClass front own → AtType number rest behind → ⊥
  by_timed front rest own at neither typed = not_type w rest fields number behind (sym at ∙ here) none.no_type typed
  by_timed front rest own at (class {word = c} is) typed = not_class w c words fields rest here at none.not_in is
  by_timed front rest own at (ttl {word = t} {seconds = n} is) typed = not_ttl w t n words fields rest here at none.no_ttl is
  by_timed front rest own at (class_ttl {first = c} {second = t} is is') typed = not_class w c words fields (t ∷ rest) here at none.not_in is
  by_timed front rest own at (ttl_class {first = t} {second = c} {seconds = n} is is') typed = not_ttl w t n words fields (c ∷ rest) here at none.no_ttl is

-- the same behind the class
pub no_front_behind_class : (words fields : List Word) (k : Word) → words ≡ (k ∷ fields) → IsClassIn k → BeginsWithNoFront fields → (own : Option ℕ) (number : ℕ) → HasNone (IsFrontOf words own number)
no_front_behind_class words fields k here k_is (rest_of, (w, next, none)) own number behind f = by_timed f.front f.rest own f.in_order f.timed f.typed where
  by_timed : (front rest : List Word) (own : Option ℕ) → words ≡ (front ++ rest) → AreTtlAndClass front own → AtType number rest behind → ⊥
  by_timed front rest own at neither typed = not_type k rest fields number behind (sym at ∙ here) (class_no_type k k_is) typed
  by_timed front rest own at (class {word = c} is) typed = not_type w rest rest_of number behind (sym (heads k c fields rest (sym here ∙ at)).1 ∙ next) none.no_type typed
  by_timed front rest own at (ttl {word = t} {seconds = n} is) typed = not_ttl k t n words fields rest here at (ttl_of_none k k_is) is
  by_timed front rest own at (class_ttl {first = c} {second = t} {seconds = n} is is') typed = not_ttl w t n fields rest_of rest next (heads k c fields (t ∷ rest) (sym here ∙ at)).1 none.no_ttl is'
  by_timed front rest own at (ttl_class {first = t} {second = c} {seconds = n} is is') typed = not_ttl k t n words fields (c ∷ rest) here at (ttl_of_none k k_is) is
