-- Reading questions never goes back.
use Rattle.std.proofs.Common.{◌≡◌, ℕ, zero, suc, ◌≤◌, List, [], ◌∷◌, ◌++◌, length, ltb, Ok, ap, take, arith}
use Rattle.std.specs.Int.{Width, w16, byte_len, from_be_bytes}
use Rattle.wire_messages.specs.serialize.reading.Cursor.{Cursor}
use Rattle.wire_names.specs.rr.domain.DomainName.{DomainName}
use Rattle.wire_messages.specs.serialize.reading.NameReading.{name}
use Rattle.wire_messages.specs.serialize.reading.Reading.{◌>>=◌, number, rest_of, moved}
use Rattle.wire_messages.specs.serialize.reading.RecordReading.{question}
use Rattle.wire_messages.specs.serialize.reading.SectionReading.{items}
use Rattle.wire_names.specs.declared.error.DecodeError.TheVariants.{InsufficientBytes}
use Rattle.wire_messages.specs.declared.op.query.Query.{Query}
use Rattle.wire_messages.proofs.lemmas.serialize.layout.FormKeeps.{LabelsAt-longer}
use Rattle.wire_reading.proofs.lemmas.serialize.reading.NameLaws.{name_found}
use Rattle.wire_messages.proofs.lemmas.serialize.reading.StringSteps.{bind_ok, guard_ok, ok_is}

name_moves : (c : Cursor) (x : DomainName × Cursor) → name c ≡ Ok x → c.place ≤ x.1.place
name_moves c x e =
    let at = name_found c x.0 x.1 e in
    let l = LabelsAt-longer at.0.labels in
    omega (arith, l.0)

number_moves : (w : Width) (c : Cursor) (x : ℕ × Cursor) → number w c ≡ Ok x → c.place ≤ x.1.place
number_moves w c x e =
    let g = guard_ok (ltb (length (rest_of c)) (byte_len w)) InsufficientBytes (from_be_bytes w (take (byte_len w) (rest_of c)), moved c (byte_len w)) x e in
    let p : (moved c (byte_len w)).place ≡ x.1.place = ap (λ (y : ℕ × Cursor). y.1.place) g.1 in
    omega arith

-- the question of what was read
abbrev question_of : DomainName → ℕ → ℕ → Query
question_of n kind class = record { name = n; query_type = kind; query_class = class }

place_of : {y z : Query × Cursor} → y ≡ z → y.1.place ≡ z.1.place
place_of e = ap (λ (y : Query × Cursor). y.1.place) e

question_moves : (c : Cursor) (x : Query × Cursor) → question c ≡ Ok x → c.place ≤ x.1.place
unfolding question
question_moves c x e =
    let a = bind_ok (name c) (λ n. number w16 n.1 >>= λ kind. number w16 kind.1 >>= λ class. Ok (question_of n.0 kind.0 class.0, class.1)) x e in
    let b = bind_ok (number w16 a.0.1) (λ kind. number w16 kind.1 >>= λ class. Ok (question_of a.0.0 kind.0 class.0, class.1)) x a.2 in
    let d = bind_ok (number w16 b.0.1) (λ class. Ok (question_of a.0.0 b.0.0 class.0, class.1)) x b.2 in
    let m1 = name_moves c a.0 a.1 in
    let m2 = number_moves w16 a.0.1 b.0 b.1 in
    let m3 = number_moves w16 b.0.1 d.0 d.1 in
    let made : Query × Cursor = (question_of a.0.0 b.0.0 d.0.0, d.0.1) in
    let p : made.1.place ≡ x.1.place = place_of (ok_is made x d.2) in
    omega arith

pub questions_move : (n : ℕ) (before : List Query) (c : Cursor) (x : List Query × Cursor) → items question n before c ≡ Ok x → c.place ≤ x.1.place
unfolding items
questions_move zero before c x e =
    let y : List Query × Cursor = (before, c) in
    let p : c.place ≡ x.1.place = ap (λ (z : List Query × Cursor). z.1.place) (ok_is y x e) in
    omega arith
questions_move (suc n) before c x e =
    let a = bind_ok (question c) (λ y. items question n (before ++ y.0 ∷ []) y.1) x e in
    let m1 = question_moves c a.0 a.1 in
    let m2 = questions_move n (before ++ a.0.0 ∷ []) a.0.1 x a.2 in
    omega arith
