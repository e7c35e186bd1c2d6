-- Settings that are put one by one: what the rest gives from here, the whole gives from the start.
use Rattle.std.proofs.Common.{◌≡◌, ◌++◌, ◌∷◌, [], ℕ, List, Option, Some, None, MatchOption, Bool, codes, option_map, refl, sym, ap, ◌∙◌, append_assoc, append-nil, true, false}
use Rattle.std.proofs.lemmas.Bool.{false≢true}
use Rattle.server_settings.specs.Settings.{Pair, join, under, with_text, with_word}

abbrev pub Leads : Option (List (List ℕ)) → Option (List (List ℕ)) → List ℕ → List Pair → List Pair → Type 0
Leads rest whole name old new = MatchOption rest (whole ≡ None)
    (λ texts. (all : List (List ℕ)) × (whole ≡ Some all) × (old ++ under name all ≡ new ++ under name texts))

pub leads-start : (whole : Option (List (List ℕ))) (name : List ℕ) (old : List Pair) → Leads whole whole name old old
leads-start None name old = refl
leads-start (Some texts) name old = (texts, refl, refl)

pub leads-on : (rest whole : Option (List (List ℕ))) (text name : List ℕ) (old new after : List Pair) → after ≡ new ++ under name (text ∷ [])
    → Leads (with_text (Some text) rest) whole name old new → Leads rest whole name old after
leads-on None whole text name old new after put leads = leads
leads-on (Some texts) whole text name old new after put (all, is, same) =
    (all, is, same ∙ sym (append_assoc new ((name, text) ∷ []) (under name texts)) ∙ ap (λ front. front ++ under name texts) (sym put))

pub leads-end : (whole : Option (List (List ℕ))) (name : List ℕ) (old new : List Pair) → Leads (Some []) whole name old new
    → MatchOption whole (true ≡ false) (λ texts. (true ≡ true) × (new ≡ old ++ under name texts))
leads-end whole name old new (all, is, same) = rw is (refl, sym (append-nil new) ∙ sym same)

pub leads-stuck : (whole rest : Option (List (List ℕ))) (name : List ℕ) (old new after : List Pair) → Leads (with_text None rest) whole name old new
    → MatchOption whole (false ≡ false) (λ texts. (false ≡ true) × (after ≡ old ++ under name texts))
leads-stuck whole rest name old new after none = rw none refl

-- the settings of the rest of a document, behind those that were put, are those of the whole
abbrev pub Sums : Option (List Pair) → Option (List Pair) → List Pair → Type 0
Sums rest whole put = MatchOption rest (whole ≡ None) (λ settings. whole ≡ Some (put ++ settings))

pub sums-start : (whole : Option (List Pair)) → Sums whole whole []
sums-start None = refl
sums-start (Some settings) = refl

pub sums-on : (rest whole : Option (List Pair)) (those put after : List Pair) → after ≡ put ++ those
    → Sums (join (Some those) rest) whole put → Sums rest whole after
sums-on None whole those put after is sums = sums
sums-on (Some settings) whole those put after is sums =
    sums ∙ ap Some (sym (append_assoc put those settings) ∙ ap (λ front. front ++ settings) (sym is))

pub sums-end : (whole : Option (List Pair)) (put : List Pair) → Sums (Some []) whole put → whole ≡ Some put
sums-end whole put sums = sums ∙ ap Some (append-nil put)

-- the same behind settings that were there
abbrev pub SumsOn : Option (List Pair) → Option (List Pair) → List Pair → List Pair → Type 0
SumsOn rest whole old new = MatchOption rest (whole ≡ None)
    (λ those. (all : List Pair) × (whole ≡ Some all) × (old ++ all ≡ new ++ those))

pub sums_on-start : (whole : Option (List Pair)) (old : List Pair) → SumsOn whole whole old old
sums_on-start None old = refl
sums_on-start (Some settings) old = (settings, refl, refl)

pub sums_on-on : (rest whole : Option (List Pair)) (those old new after : List Pair) → after ≡ new ++ those
    → SumsOn (join (Some those) rest) whole old new → SumsOn rest whole old after
sums_on-on None whole those old new after put sums = sums
sums_on-on (Some settings) whole those old new after put (all, is, same) =
    (all, is, same ∙ sym (append_assoc new those settings) ∙ ap (λ front. front ++ settings) (sym put))

pub sums_on-end : (whole : Option (List Pair)) (old new : List Pair) → SumsOn (Some []) whole old new
    → MatchOption whole (true ≡ false) (λ those. (true ≡ true) × (new ≡ old ++ those))
sums_on-end whole old new (all, is, same) = rw is (refl, sym (append-nil new) ∙ sym same)

pub sums_on-stuck : (whole rest : Option (List Pair)) (old new after : List Pair) → SumsOn (join None rest) whole old new
    → MatchOption whole (false ≡ false) (λ those. (false ≡ true) × (after ≡ old ++ those))
sums_on-stuck whole rest old new after none = rw none refl

-- the words of the rest of an array, behind those that were put, are those of the whole
abbrev pub Words : Option (List ℕ) → Option (List ℕ) → List ℕ → List ℕ → Type 0
Words rest whole old new = MatchOption rest (whole ≡ None)
    (λ words. (all : List ℕ) × (whole ≡ Some all) × (old ++ all ≡ new ++ words))

pub words-start : (whole : Option (List ℕ)) (old : List ℕ) → Words whole whole old old
words-start None old = refl
words-start (Some words) old = (words, refl, refl)

pub words-on : (rest whole : Option (List ℕ)) (word old new after : List ℕ) → after ≡ new ++ (codes " " ++ word)
    → Words (with_word (Some word) rest) whole old new → Words rest whole old after
words-on None whole word old new after put words = words
words-on (Some those) whole word old new after put (all, is, same) =
    (all, is, same ∙ sym (append_assoc new (codes " " ++ word) those) ∙ ap (λ front. front ++ those) (sym put))

pub words-end : (whole : Option (List ℕ)) (old new : List ℕ) → Words (Some []) whole old new
    → MatchOption whole (true ≡ false) (λ words. (true ≡ true) × (new ≡ old ++ words))
words-end whole old new (all, is, same) = rw is (refl, sym (append-nil new) ∙ sym same)

pub words-stuck : (whole rest : Option (List ℕ)) (old new after : List ℕ) → Words (with_word None rest) whole old new
    → MatchOption whole (false ≡ false) (λ words. (false ≡ true) × (after ≡ old ++ words))
words-stuck whole rest old new after none = rw none refl

-- what holds of texts holds of the settings under a name that they are
pub under-texts : (texts : Option (List (List ℕ))) (name : List ℕ) (taken : Bool) (old new : List Pair)
    → MatchOption texts (taken ≡ false) (λ those. (taken ≡ true) × (new ≡ old ++ under name those))
    → MatchOption (option_map (under name) texts) (taken ≡ false) (λ those. (taken ≡ true) × (new ≡ old ++ those))
under-texts None name taken old new h = h
under-texts (Some texts) name taken old new h = h

-- a step of either: what was put was given, since it was taken
pub sums_on-step : (those rest whole : Option (List Pair)) (taken : Bool) (old new after : List Pair) → taken ≡ true
    → MatchOption those (taken ≡ false) (λ put. (taken ≡ true) × (after ≡ new ++ put))
    → SumsOn (join those rest) whole old new → SumsOn rest whole old after
sums_on-step None rest whole taken old new after was not_taken sums = absurd (false≢true (sym not_taken ∙ was))
sums_on-step (Some those) rest whole taken old new after was (_, put) sums = sums_on-on rest whole those old new after put sums

pub leads-step : (text : Option (List ℕ)) (rest whole : Option (List (List ℕ))) (name : List ℕ) (taken : Bool) (old new after : List Pair) → taken ≡ true
    → MatchOption text (taken ≡ false) (λ put. (taken ≡ true) × (after ≡ new ++ under name (put ∷ [])))
    → Leads (with_text text rest) whole name old new → Leads rest whole name old after
leads-step None rest whole name taken old new after was not_taken leads = absurd (false≢true (sym not_taken ∙ was))
leads-step (Some text) rest whole name taken old new after was (_, put) leads = leads-on rest whole text name old new after put leads
