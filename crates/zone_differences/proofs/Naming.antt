-- Names that are put last with their records.
use Rattle.std.proofs.Common.{◌≡◌, ◌∙◌, ◌≤◌, ◌<◌, ap, arith, get_or, length, sym, refl, Bool, true, false, ◌||◌, ◌++◌, [], ◌∷◌, List}
use Rattle.wire_names.specs.rr.domain.DomainName.{DomainName}
use Rattle.wire_names.specs.rr.domain.NameOrder.{lower_name, name_eq}
use Rattle.wire_names.proofs.lemmas.rr.domain.SameNames.{eq_from_same, lower_same}
use Rattle.hickory_store.proofs.lemmas.updates.ApexNs.{names}
use Rattle.zone_differences.specs.Standing.{are_among}
use Rattle.zone_differences.specs.declared.names.NameRecords.{NameRecords}

-- a name is equal to itself in lower case
pub lowered : (n : DomainName) → name_eq (lower_name n) n ≡ true
lowered n = eq_from_same (lower_name n) n (lower_same n)

either : (a b : Bool) → b ≡ true → (a || b) ≡ true
either true b h = refl
either false b h = h

-- who is among names is so by an equal name
pub among_equal : (a b : DomainName) → name_eq a b ≡ true → (es : List NameRecords) → are_among es a ≡ are_among es b
among_equal a b h [] = refl
among_equal a b h (e ∷ es) = λ i. same i || among_equal a b h es i
  where
    same : name_eq e.name a ≡ name_eq e.name b
    same = names.symm e.name a ∙ names.congr a b e.name h ∙ names.symm b e.name

pub among_last : (es : List NameRecords) (e : NameRecords) (n : DomainName) → name_eq e.name n ≡ true → are_among (es ++ e ∷ []) n ≡ true
among_last [] e n h = ap (λ b. b || false) h
among_last (x ∷ es) e n h = either (name_eq x.name n) (are_among (es ++ e ∷ []) n) (among_last es e n h)

-- the records of a zone under a key, where there is one alone
pub only_one : {T : Type 0} (xs : List T) (x : T) → 1 ≤ length xs → length xs < 2 → x ≡ get_or xs 0 x → xs ≡ x ∷ []
only_one [] x least few is = absurd (omega (arith, least))
only_one {T} (y ∷ []) x least few is = ap (λ (z : T). z ∷ []) (sym is)
only_one (y ∷ z ∷ xs) x least few is = absurd (omega (arith, few))
