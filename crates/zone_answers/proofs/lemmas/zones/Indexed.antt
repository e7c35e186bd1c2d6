-- Sets that are searched by numbers.
use Rattle.std.proofs.Common.{◌≡◌, ℕ, zero, suc, ◌+◌, ◌<◌, Bool, true, false, cond, List, [], ◌∷◌, ◌++◌, length, drop, get_or, Some, refl, sym, ap, subst, ◌∙◌, arith}
use Rattle.std.specs.Prelude.{◌==◌, nat_lt, slice_get}
use Rattle.std.specs.List.{Contains}
use Rattle.std.specs.Ordering.{is_lt, nat_cmp, ordering_then}
use Rattle.std.specs.declared.cmp.Ordering.{Ordering}
use Rattle.std.specs.declared.cmp.Ordering.TheVariants.{Less, Equal, Greater}
use Rattle.std.proofs.lemmas.Grind.{common_steps}
use Rattle.std.proofs.Math.Seq.{drop-cons}
use Rattle.wire_names.specs.rr.domain.DomainName.{DomainName}
use Rattle.wire_names.specs.rr.domain.NameOrder.{name_cmp}
use Rattle.wire_names.specs.representation.OrderKey.{order_word}
use Rattle.wire_names.proofs.lemmas.rr.domain.OrderWords.{word_order}
use Rattle.wire_messages.specs.declared.rr.rr_key.RrKey.{RrKey}
use Rattle.wire_messages.specs.rr.RrKeys.{key_cmp}
use Rattle.zone_answers.specs.representation.Indexes.{AreWordsOf, IsWordOf}
use Rattle.hickory_base.specs.zone_store.ZoneSets.{shared_sets}
use Rattle.zone_answers.specs.representation.KeysBeside.{Entry}

some_same : {A : Type 0} {x y : A} → Some x ≡ Some y → x ≡ y
some_same e = cc

-- what stands at a place
pub entry_at : {X : Type 0} (xs : List X) (i : ℕ) → i < length xs → (x : X) × (slice_get xs i ≡ Some x)
entry_at [] i h = absurd (omega arith)
entry_at (x ∷ xs) zero h = (x, refl)
entry_at (x ∷ xs) (suc i) h = entry_at xs i (omega arith)

pub entry_is : {X : Type 0} (xs : List X) (i : ℕ) (x d : X) → slice_get xs i ≡ Some x → get_or xs i d ≡ x
entry_is [] i x d h = absurd cc
entry_is (y ∷ xs) zero x d h = some_same h
entry_is (y ∷ xs) (suc i) x d h = entry_is xs i x d h

pub word_there : (apex : DomainName) (es : List Entry) (words : List ℕ) (i : ℕ) (e : Entry) → AreWordsOf apex es words → slice_get es i ≡ Some e → IsWordOf apex e.0 (get_or words i 0)
word_there apex [] words i e all is = absurd cc
word_there apex (x ∷ es) [] i e all is = absurd all
word_there apex (x ∷ es) (w ∷ words) zero e all is = subst (λ (y : Entry). IsWordOf apex y.0 w) (some_same is) all.0
word_there apex (x ∷ es) (w ∷ words) (suc i) e all is = word_there apex es words i e all.1 is

pub as_many : (apex : DomainName) (es : List Entry) (words : List ℕ) → AreWordsOf apex es words → length words ≡ length es
as_many apex [] [] all = refl
as_many apex [] (w ∷ words) all = absurd all
as_many apex (x ∷ es) [] all = absurd all
as_many apex (x ∷ es) (w ∷ words) all = let rest = as_many apex es words all.1 in omega (arith, rest)

pub one_more : (apex : DomainName) (es : List Entry) (words : List ℕ) (e : Entry) (word : ℕ) → AreWordsOf apex es words → IsWordOf apex e.0 word → AreWordsOf apex (es ++ e ∷ []) (words ++ word ∷ [])
one_more apex [] [] e word all is = (is, tt)
one_more apex [] (w ∷ words) e word all is = absurd all
one_more apex (x ∷ es) [] e word all is = absurd all
one_more apex (x ∷ es) (w ∷ words) e word all is = (all.0, one_more apex es words e word all.1 is)

pub lt_is : (x : Ordering) → is_lt x ≡ true → x ≡ Less
lt_is Less h = refl
lt_is Equal h = absurd cc
lt_is Greater h = absurd cc

lt_by_tests : (below same : Bool) → is_lt (cond below Less (cond same Equal Greater)) ≡ below
lt_by_tests true same = refl
lt_by_tests false true = refl
lt_by_tests false false = refl

lt_numbers : (a b : ℕ) → is_lt (nat_cmp a b) ≡ nat_lt a b
lt_numbers a b = lt_by_tests (nat_lt a b) (a == b)

-- what is not a tie decides
first_decides : (x y o : Ordering) → x ≡ o → (o ≡ Equal → ⊥) → is_lt (ordering_then x y) ≡ is_lt o
first_decides x y Less e f = ap (λ z. is_lt (ordering_then z y)) e
first_decides x y Equal e f = absurd (f refl)
first_decides x y Greater e f = ap (λ z. is_lt (ordering_then z y)) e

apart : (v w : ℕ) → (v ≡ w → ⊥) → nat_cmp v w ≡ Equal → ⊥
apart v w f e = f (grind (arith, common_steps, e))

-- keys whose names have other numbers are in the order of these
pub by_words : (apex : DomainName) (key first : RrKey) (other word : ℕ) → IsWordOf apex key other → IsWordOf apex first word → (other ≡ word → ⊥) → nat_lt other word ≡ is_lt (key_cmp key first)
by_words apex key first other word own asked f =
    let differ : order_word apex.labels key.name.labels ≡ order_word apex.labels first.name.labels → ⊥ = λ e. f (own.is ∙ e ∙ sym asked.is) in
    let names : name_cmp key.name first.name ≡ nat_cmp other word =
    word_order apex key.name first.name own.top own.lower asked.lower own.within asked.within own.bytes asked.bytes differ
    ∙ ap (λ n. nat_cmp n (order_word apex.labels first.name.labels)) (sym own.is) ∙ ap (nat_cmp other) (sym asked.is) in
    sym (first_decides (name_cmp key.name first.name) (nat_cmp key.record_type first.record_type) (nat_cmp other word) names (apart other word f) ∙ lt_numbers other word)

-- what stands at a place is the first from there on
pub in_turn : {X : Type 0} (xs : List X) (i : ℕ) (x : X) → i < length xs → x ≡ get_or xs i x → drop i xs ≡ x ∷ drop (i + 1) xs
in_turn xs i x h is =
    let next : suc i ≡ i + 1 = omega arith in
    drop-cons xs i x h ∙ ap (λ y. y ∷ drop (suc i) xs) (sym is) ∙ ap (λ n. x ∷ drop n xs) next

-- an entry of an index is one of its sets
pub among_sets : (es : List Entry) (i : ℕ) (e : Entry) → i < length es → get_or es i e ≡ e → Contains (shared_sets es) (e.0, e.1.value)
among_sets [] i e h is = absurd (omega arith)
among_sets (x ∷ es) zero e h is = (0, omega arith, ap (λ (y : Entry). (y.0, y.1.value)) is)
among_sets (x ∷ es) (suc i) e h is = let rest = among_sets es i e (omega arith) is in (suc rest.0, omega (arith, rest.1), rest.2)

-- what stands behind a place is there
pub among_rest : (es : List Entry) (s i : ℕ) (e : Entry) → i < length (drop s es) → get_or (drop s es) i e ≡ e → Contains es e
among_rest es zero i e h is = (i, h, is)
among_rest [] (suc s) i e h is = absurd (omega arith)
among_rest (x ∷ es) (suc s) i e h is = let rest = among_rest es s i e h is in (suc rest.0, omega (arith, rest.1), rest.2)
