-- That records and data which compare as equal are the same, and the other way round.
use Rattle.std.proofs.Common.{◌≡◌, ℕ, Bool, true, false, ◌&&◌, nat_eq, List, [], ◌∷◌, refl, ap, ◌∙◌}
use Rattle.std.specs.Bool.{IsTrue, beq}
use Rattle.std.specs.Cmp.Lexicographic.{pointwise}
use Rattle.std.proofs.lemmas.Bool.{eq-eqb, eqb-true}
use Rattle.wire_names.specs.rr.domain.DomainName.{DomainName}
use Rattle.wire_names.specs.representation.NameHash.{same_from_eq}
use Rattle.wire_names.specs.rr.domain.NameOrder.{lower_name, lower_labels, name_eq, SameName}
use Rattle.wire_names.proofs.lemmas.rr.domain.SameNames.{eq_from_same}
use Rattle.wire_messages.specs.rr.RecordSameness.{lower_tsig}
use Rattle.wire_messages.specs.declared.op.edns.EdnsOption.{EdnsOption}
use Rattle.wire_messages.specs.declared.rr.tsig.TSIG.{TSIG}

-- two tests hold where their conjunction does
pub both_hold : (a b : Bool) → (a && b) ≡ true → (a ≡ true) × (b ≡ true)
both_hold true b h = (refl, h)
both_hold false b h = absurd (cc)

pub hold_both : (a b : Bool) → a ≡ true → b ≡ true → (a && b) ≡ true
hold_both true b p q = q
hold_both false b p q = p

-- names that compare as equal are one in lower case
pub lower_from_eq : (a b : DomainName) → IsTrue (name_eq a b) → lower_name a ≡ lower_name b
lower_from_eq a b h =
    let s : SameName a b = same_from_eq a b h in
    ap (λ (ls : List (List ℕ)). let d : DomainName = record { labels = ls; is_fqdn = a.is_fqdn } in d) s.labels
    ∙ ap (λ (m : Bool). let d : DomainName = record { labels = lower_labels b.labels; is_fqdn = m } in d) s.marks

pub eq_from_lower : (a b : DomainName) → lower_name a ≡ lower_name b → IsTrue (name_eq a b)
eq_from_lower a b e = eq_from_same a b (record { labels = ap (λ (d : DomainName). d.labels) e; marks = ap (λ (d : DomainName). d.is_fqdn) e })

-- lists that compare as equal element by element are one, if their elements are
pub list_from_eq : {A : Type 0} (E : A → A → Bool) → ((a b : A) → E a b ≡ true → a ≡ b) → (xs ys : List A) → pointwise E xs ys ≡ true → xs ≡ ys
list_from_eq E exact [] [] h = refl
list_from_eq E exact [] (y ∷ ys) h = absurd (cc)
list_from_eq E exact (x ∷ xs) [] h = absurd (cc)
list_from_eq E exact (x ∷ xs) (y ∷ ys) h =
    let both : (E x y ≡ true) × (pointwise E xs ys ≡ true) = both_hold _ _ h in
    cc (exact x y both.0, list_from_eq E exact xs ys both.1)

self_equal : {A : Type 0} (E : A → A → Bool) → ((a : A) → E a a ≡ true) → (zs : List A) → pointwise E zs zs ≡ true
self_equal E itself [] = refl
self_equal E itself (z ∷ zs) = hold_both _ _ (itself z) (self_equal E itself zs)

pub eq_from_list : {A : Type 0} (E : A → A → Bool) → ((a : A) → E a a ≡ true) → (xs ys : List A) → xs ≡ ys → pointwise E xs ys ≡ true
eq_from_list E itself xs ys e = rw (← e) (self_equal E itself xs)

pub octets_from_eq : (xs ys : List ℕ) → pointwise nat_eq xs ys ≡ true → xs ≡ ys
octets_from_eq = list_from_eq nat_eq eqb-true

pub octets_equal : (xs : List ℕ) → pointwise nat_eq xs xs ≡ true
octets_equal xs = eq_from_list nat_eq (λ a. eq-eqb a a refl) xs xs refl

pub texts_from_eq : (xs ys : List (List ℕ)) → pointwise (pointwise nat_eq) xs ys ≡ true → xs ≡ ys
texts_from_eq = list_from_eq (pointwise nat_eq) octets_from_eq

pub texts_equal : (xs : List (List ℕ)) → pointwise (pointwise nat_eq) xs xs ≡ true
texts_equal xs = eq_from_list (pointwise nat_eq) octets_equal xs xs refl

-- numbers that compare as equal are one
pub number_from_eq : (a b : ℕ) → nat_eq a b ≡ true → a ≡ b
number_from_eq a b = eqb-true a b

pub number_equal : (a b : ℕ) → a ≡ b → nat_eq a b ≡ true
number_equal a b = eq-eqb a b

-- flags that compare as equal are one
pub flag_from_eq : (a b : Bool) → beq a b ≡ true → a ≡ b
flag_from_eq true true h = refl
flag_from_eq true false h = absurd (cc)
flag_from_eq false true h = absurd (cc)
flag_from_eq false false h = refl

flag_itself : (a : Bool) → beq a a ≡ true
flag_itself true = refl
flag_itself false = refl

pub flag_equal : (a b : Bool) → a ≡ b → beq a b ≡ true
flag_equal a b e = rw (← e) (flag_itself a)

abbrev pub option_eq : EdnsOption → EdnsOption → Bool
option_eq a b = nat_eq a.code b.code && pointwise nat_eq a.bytes b.bytes

option_from_eq : (a b : EdnsOption) → option_eq a b ≡ true → a ≡ b
option_from_eq a b h =
    let both : (nat_eq a.code b.code ≡ true) × (pointwise nat_eq a.bytes b.bytes ≡ true) = both_hold _ _ h in
    ap (λ (n : ℕ). let o : EdnsOption = record { code = n; bytes = a.bytes } in o) (number_from_eq _ _ both.0)
    ∙ ap (λ (bytes : List ℕ). let o : EdnsOption = record { code = b.code; bytes = bytes } in o) (octets_from_eq _ _ both.1)

pub options_from_eq : (xs ys : List EdnsOption) → pointwise option_eq xs ys ≡ true → xs ≡ ys
options_from_eq = list_from_eq option_eq option_from_eq

pub options_equal : (xs : List EdnsOption) → pointwise option_eq xs xs ≡ true
options_equal xs = eq_from_list option_eq (λ a. hold_both _ _ (number_equal a.code a.code refl) (octets_equal a.bytes)) xs xs refl

-- data of signatures that compare as equal are one in lower case
abbrev pub signature_eq : TSIG → TSIG → Bool
signature_eq a b = name_eq a.algorithm b.algorithm && (nat_eq a.time b.time && (nat_eq a.fudge b.fudge && (pointwise nat_eq a.mac b.mac && (nat_eq a.oid b.oid && (nat_eq a.error b.error && pointwise nat_eq a.other b.other)))))

pub signature_from_eq : (a b : TSIG) → signature_eq a b ≡ true → lower_tsig a ≡ lower_tsig b
signature_from_eq a b h =
    let b0 : (name_eq a.algorithm b.algorithm ≡ true) × ((nat_eq a.time b.time && (nat_eq a.fudge b.fudge && (pointwise nat_eq a.mac b.mac && (nat_eq a.oid b.oid && (nat_eq a.error b.error && pointwise nat_eq a.other b.other))))) ≡ true) = both_hold _ _ h in
    let b1 : (nat_eq a.time b.time ≡ true) × ((nat_eq a.fudge b.fudge && (pointwise nat_eq a.mac b.mac && (nat_eq a.oid b.oid && (nat_eq a.error b.error && pointwise nat_eq a.other b.other)))) ≡ true) = both_hold _ _ b0.1 in
    let b2 : (nat_eq a.fudge b.fudge ≡ true) × ((pointwise nat_eq a.mac b.mac && (nat_eq a.oid b.oid && (nat_eq a.error b.error && pointwise nat_eq a.other b.other))) ≡ true) = both_hold _ _ b1.1 in
    let b3 : (pointwise nat_eq a.mac b.mac ≡ true) × ((nat_eq a.oid b.oid && (nat_eq a.error b.error && pointwise nat_eq a.other b.other)) ≡ true) = both_hold _ _ b2.1 in
    let b4 : (nat_eq a.oid b.oid ≡ true) × ((nat_eq a.error b.error && pointwise nat_eq a.other b.other) ≡ true) = both_hold _ _ b3.1 in
    let b5 : (nat_eq a.error b.error ≡ true) × ((pointwise nat_eq a.other b.other) ≡ true) = both_hold _ _ b4.1 in
    let p0 : lower_name a.algorithm ≡ lower_name b.algorithm = lower_from_eq _ _ b0.0 in
    let p1 : a.time ≡ b.time = number_from_eq _ _ b1.0 in
    let p2 : a.fudge ≡ b.fudge = number_from_eq _ _ b2.0 in
    let p3 : a.mac ≡ b.mac = octets_from_eq _ _ b3.0 in
    let p4 : a.oid ≡ b.oid = number_from_eq _ _ b4.0 in
    let p5 : a.error ≡ b.error = number_from_eq _ _ b5.0 in
    let p6 : a.other ≡ b.other = octets_from_eq _ _ b5.1 in
    cc

pub signature_equal : (a b : TSIG) → lower_tsig a ≡ lower_tsig b → signature_eq a b ≡ true
signature_equal a b e =
    let p0 : lower_name a.algorithm ≡ lower_name b.algorithm = ap (λ (t : TSIG). t.algorithm) e in
    let p1 : a.time ≡ b.time = ap (λ (t : TSIG). t.time) e in
    let p2 : a.fudge ≡ b.fudge = ap (λ (t : TSIG). t.fudge) e in
    let p3 : a.mac ≡ b.mac = ap (λ (t : TSIG). t.mac) e in
    let p4 : a.oid ≡ b.oid = ap (λ (t : TSIG). t.oid) e in
    let p5 : a.error ≡ b.error = ap (λ (t : TSIG). t.error) e in
    let p6 : a.other ≡ b.other = ap (λ (t : TSIG). t.other) e in
    hold_both _ _ (eq_from_lower _ _ p0) (hold_both _ _ (number_equal _ _ p1) (hold_both _ _ (number_equal _ _ p2) (hold_both _ _ (rw (← p3) (octets_equal a.mac)) (hold_both _ _ (number_equal _ _ p4) (hold_both _ _ (number_equal _ _ p5) (rw (← p6) (octets_equal a.other)))))))
