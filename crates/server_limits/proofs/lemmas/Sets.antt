-- A set of networks as two tries, one for each family, and an insert of many networks one by one.
use Rattle.std.proofs.Common.{◌≡◌, ℕ, ◌+◌, ◌<◌, ◌≤◌, ◌↔◌, Bool, true, false, not, IsTrue, OnOk, OnErr, Result, Ok, Err, List, [], ◌∷◌, ◌++◌, length, take, get_or, Option, Some, None, Any, All, Contains, inl, inr, refl, sym, ap, ◌∙◌, subst, arith}
use Rattle.std.proofs.lemmas.List.{take_more, take_all}
use Rattle.std.proofs.lemmas.List.Elements.{Contains-get_or, Contains-append_left, Contains-append_right, Contains-append_cases, All-contains, All-append, All-weaker}
use Rattle.server_limits.specs.declared.access_control.Address.{Address}
use Rattle.server_limits.specs.declared.access_control.Family.{Family}
use Rattle.server_limits.specs.Access.{Network, Matches, IsLongestMatch, HasFamily, Inserts, InsertsFirst}
use Rattle.server_limits.specs.Prefixes.{IsOfFamily}
use Rattle.server_limits.proofs.lemmas.Tries.{one_in_single}

any_at : (P : Network → Type 0) (xs : List Network) (x : Network) → Contains xs x → P x → Any P xs
any_at P xs x h p = (h.0, x, h.1, h.2, p)

Any-left : (P : Network → Type 0) (xs ys : List Network) → Any P xs → Any P (xs ++ ys)
Any-left P xs ys (k, x, low, is, p) = any_at P (xs ++ ys) x (Contains-append_left xs ys x (k, low, is)) p

Any-right : (P : Network → Type 0) (xs ys : List Network) → Any P ys → Any P (xs ++ ys)
Any-right P xs ys (k, x, low, is, p) = any_at P (xs ++ ys) x (Contains-append_right xs ys x (k, low, is)) p

-- ---- an insert into one of the two
module _ (x : Network) (old new other : List Network) (h : Inserts old (x ∷ []) new) where
  pub inserts_left : Inserts (old ++ other) (x ∷ []) (new ++ other)
  inserts_left = λ m. (
    λ is. elim (Contains-append_cases new other m is) [
      | inl n ↦ elim ((h m).0 n) [ inl o ↦ inl (Contains-append_left old other m o) | inr g ↦ inr g ]
      | inr o ↦ inl (Contains-append_right old other m o)
    ],
    λ is. elim is [
      | inl both ↦ elim (Contains-append_cases old other m both) [
        | inl o ↦ Contains-append_left new other m ((h m).1 (inl o))
        | inr o ↦ Contains-append_right new other m o
      ]
      | inr g ↦ Contains-append_left new other m ((h m).1 (inr g))
    ],
  )

  pub inserts_right : Inserts (other ++ old) (x ∷ []) (other ++ new)
  inserts_right = λ m. (
    λ is. elim (Contains-append_cases other new m is) [
      | inl o ↦ inl (Contains-append_left other old m o)
      | inr n ↦ elim ((h m).0 n) [ inl o ↦ inl (Contains-append_right other old m o) | inr g ↦ inr g ]
    ],
    λ is. elim is [
      | inl both ↦ elim (Contains-append_cases other old m both) [
        | inl o ↦ Contains-append_left other new m o
        | inr o ↦ Contains-append_right other new m ((h m).1 (inl o))
      ]
      | inr g ↦ Contains-append_right other new m ((h m).1 (inr g))
    ],
  )

  pub family_kept : (family : Family) → x.family ≡ family → IsOfFamily family old → IsOfFamily family new
  family_kept family is all = λ k d low. elim ((h (get_or new k d)).0 (Contains-get_or new k d low)) [
    | inl o ↦ All-contains (λ (n : Network). n.family ≡ family) old _ all o
    | inr g ↦ ap (λ (n : Network). n.family) (one_in_single x _ g) ∙ is
  ]

-- ---- one network after another
pub inserts_none : (old : List Network) → Inserts old [] old
inserts_none old = λ m. (λ h. inl h, λ h. elim h [ inl o ↦ o | inr g ↦ absurd (omega (arith, g.1)) ])

pub inserts_next : (old given now new : List Network) (index : ℕ) (x : Network) → index < length given → x ≡ get_or given index x
    → Inserts old (take index given) now → Inserts now (x ∷ []) new → Inserts old (take (index + 1) given) new
inserts_next old given now new index x within is before step =
    let more : take (index + 1) given ≡ take index given ++ x ∷ [] = take_more given index x within ∙ ap (λ (n : Network). take index given ++ n ∷ []) (sym is) in
    subst (λ (g : List Network). Inserts old g new) (sym more) (λ m. (
      λ h. elim ((step m).0 h) [
        | inl n ↦ elim ((before m).0 n) [ inl o ↦ inl o | inr g ↦ inr (Contains-append_left (take index given) (x ∷ []) m g) ]
        | inr g ↦ inr (Contains-append_right (take index given) (x ∷ []) m g)
      ],
      λ h. elim h [
        | inl o ↦ (step m).1 (inl ((before m).1 (inl o)))
        | inr g ↦ elim (Contains-append_cases (take index given) (x ∷ []) m g) [
          | inl f ↦ (step m).1 (inl ((before m).1 (inr f)))
          | inr l ↦ (step m).1 (inr l)
        ]
      ],
    ))

-- ---- what is of the other family does not count
module _ (family : Family) (set other : List Network) (others : (m : Network) → Contains other m → m.family ≡ family → ⊥) where
  no_match : (address : Address) → address.family ≡ family → All (λ n. ¬ (Matches address n)) other
  no_match address is = λ k d low matches. others _ (Contains-get_or other k d low) (matches.family ∙ is)

  pub longest_left : (address : Address) (longest : Option ℕ) → address.family ≡ family → IsLongestMatch set address longest → IsLongestMatch (set ++ other) address longest
  longest_left address None is h = All-append (λ n. ¬ (Matches address n)) set other h (no_match address is)
  longest_left address (Some longest) is h = (
    Any-left _ set other h.0,
    All-append (λ n. Matches address n → n.prefix_length ≤ longest) set other h.1
        (All-weaker (λ n. ¬ (Matches address n)) (λ n. Matches address n → n.prefix_length ≤ longest) (λ n no m. absurd (no m)) other (no_match address is)),
  )

  pub longest_right : (address : Address) (longest : Option ℕ) → address.family ≡ family → IsLongestMatch set address longest → IsLongestMatch (other ++ set) address longest
  longest_right address None is h = All-append (λ n. ¬ (Matches address n)) other set (no_match address is) h
  longest_right address (Some longest) is h = (
    Any-right _ other set h.0,
    All-append (λ n. Matches address n → n.prefix_length ≤ longest) other set
        (All-weaker (λ n. ¬ (Matches address n)) (λ n. Matches address n → n.prefix_length ≤ longest) (λ n no m. absurd (no m)) other (no_match address is)) h.1,
  )

  some_of : (xs : List Network) → IsOfFamily family xs → ¬ (xs ≡ []) → Any (λ n. n.family ≡ family) xs
  some_of [] all differ = absurd (differ refl)
  some_of (x ∷ xs) all differ = (0, x, omega arith, refl, all 0 x (omega arith))

  not_empty : (xs : List Network) (m : Network) → Contains xs m → xs ≡ [] → ⊥
  not_empty xs m h empty = let none = subst (λ (l : List Network). Contains l m) empty h in omega (arith, none.1)

  pub family_left : IsOfFamily family set → (¬ (set ≡ [])) ↔ HasFamily (set ++ other) family
  family_left all = (
    λ differ. Any-left _ set other (some_of set all differ),
    λ (k, x, low, is, of) empty. elim (Contains-append_cases set other x (k, low, is)) [ inl h ↦ not_empty set x h empty | inr h ↦ others x h of ],
  )

  pub family_right : IsOfFamily family set → (¬ (set ≡ [])) ↔ HasFamily (other ++ set) family
  family_right all = (
    λ differ. Any-right _ other set (some_of set all differ),
    λ (k, x, low, is, of) empty. elim (Contains-append_cases other set x (k, low, is)) [ inl h ↦ others x h of | inr h ↦ not_empty set x h empty ],
  )

pub told : (is_empty : Bool) (set : List Network) (F : Type 0) → (IsTrue is_empty ↔ (set ≡ [])) → ((¬ (set ≡ [])) ↔ F) → IsTrue (not is_empty) ↔ F
told true set F empty h = (λ e. absurd (cc), λ f. absurd (h.1 f (empty.0 refl)))
told false set F empty h = (λ e. h.0 (λ none. let t = empty.1 none in cc), λ f. refl)

module _ {E : Type 0} where
  pub grown_family : (r : Result (Unit {0}) E) (x : Network) (old new : List Network) (family : Family) → x.family ≡ family → OnOk r (Inserts old (x ∷ []) new) → OnErr r (new ≡ old)
      → IsOfFamily family old → IsOfFamily family new
  grown_family (Ok u) x old new family is ok err all = family_kept x old new [] ok family is all
  grown_family (Err e) x old new family is ok err all = subst (IsOfFamily family) (sym err) all

  pub grown_left : (r : Result (Unit {0}) E) (x : Network) (old new other : List Network) → OnOk r (Inserts old (x ∷ []) new) → OnOk r (Inserts (old ++ other) (x ∷ []) (new ++ other))
  grown_left (Ok u) x old new other ok = inserts_left x old new other ok
  grown_left (Err e) x old new other ok = tt

  pub grown_right : (r : Result (Unit {0}) E) (x : Network) (old new other : List Network) → OnOk r (Inserts old (x ∷ []) new) → OnOk r (Inserts (other ++ old) (x ∷ []) (other ++ new))
  grown_right (Ok u) x old new other ok = inserts_right x old new other ok
  grown_right (Err e) x old new other ok = tt

pub not_both : (family other : Family) (set : List Network) → IsOfFamily other set → ¬ (other ≡ family) → (m : Network) → Contains set m → m.family ≡ family → ⊥
not_both family other set all differ m h is = differ (sym (All-contains (λ (n : Network). n.family ≡ other) set m all h) ∙ is)

pub inserted_before : {E : Type 0} (r : Result (Unit {0}) E) (old given now new : List Network) (index : ℕ) → index < length given → new ≡ now → Inserts old (take index given) now → OnErr r (InsertsFirst old given new)
inserted_before (Ok u) old given now new index within same h = tt
inserted_before (Err e) old given now new index within same h = (index, within, subst (λ (s : List Network). Inserts old (take index given) s) (sym same) h)

pub inserted_all : (old given now : List Network) (index : ℕ) → length given ≤ index → Inserts old (take index given) now → Inserts old given now
inserted_all old given now index past h = subst (λ (g : List Network). Inserts old g now) (take_all index given past) h

-- ---- the two are empty where all of it is
pub first_empty : (xs ys : List Network) → xs ++ ys ≡ [] → xs ≡ []
first_empty [] ys none = refl
first_empty (x ∷ xs) ys none = absurd (cc)
