-- Records that were put stand one behind the other, and as they are read.
use Rattle.std.proofs.Common.{ℕ, zero, suc, ◌+◌, ◌≤◌, List, [], ◌∷◌, ◌++◌, length, map, take, refl, sym, ap, subst, arith}
use Rattle.std.specs.List.{AllByRecursion}
use Rattle.wire_names.specs.serialize.layout.Bytes.{KeepsFrom}
use Rattle.hickory_wire.specs.serialize.writing.Decoding.{without_proof, IsReadable}
use Rattle.wire_messages.specs.serialize.layout.FieldRanges.{IsRecordInRange, IsReadAsItsType}
use Rattle.wire_messages.specs.serialize.layout.NameLayout.{IsFullyQualified}
use Rattle.wire_messages.specs.serialize.layout.MessageLayout.{ItemsAt, IsPlainRecord, QuestionRead}
use Rattle.wire_messages.specs.serialize.layout.QuestionLayout.{QuestionAt, IsFormedQuestion}
use Rattle.wire_messages.specs.serialize.layout.RecordLayout.{FormAt, IsFormedRecord, RecordAt}
use Rattle.wire_writing.specs.serialize.writing.Writing.{Puts, PutsAll}
use Rattle.wire_messages.specs.declared.op.query.Query.{Query}
use Rattle.wire_messages.specs.declared.rr.rdata.RData.{RData}
use Rattle.wire_messages.specs.declared.rr.record.Record.{Record}
use Rattle.wire_messages.proofs.lemmas.serialize.layout.FormKeeps.{LabelsAt-longer, FormAt-keeps, QuestionAt-keeps}
use Rattle.wire_writing.proofs.lemmas.serialize.writing.RecordLists.{Puts-longer}
use Rattle.wire_reading.proofs.lemmas.serialize.reading.RecordsAgree.{formed_record}
use Rattle.wire_messages.proofs.lemmas.serialize.layout.Ranges.{record_formed}
use Rattle.wire_messages.proofs.lemmas.serialize.layout.Stable.{KeepsFrom-append, KeepsFrom-same, KeepsFrom-trans}

Puts-keeps : {limit : ℕ} {old new : List ℕ} {r : Record RData} → Puts limit old r new → KeepsFrom 12 old new
Puts-keeps {limit} {old} p = subst (λ m. KeepsFrom 12 old m) (sym p.appended) (KeepsFrom-append 12 old p.more)

-- what was put leaves what was there
pub PutsAll-keeps : (limit : ℕ) (rs : List (Record RData)) (old new : List ℕ) → PutsAll limit old rs new → KeepsFrom 12 old new
PutsAll-keeps limit [] old new e = subst (λ m. KeepsFrom 12 old m) (sym e) (KeepsFrom-same 12 old)
PutsAll-keeps limit (r ∷ rs) old new (middle, one, more) = KeepsFrom-trans (Puts-keeps one) (PutsAll-keeps limit rs middle new more)

-- each record takes a byte at least
pub PutsAll-longer : (limit : ℕ) (rs : List (Record RData)) (old new : List ℕ) → PutsAll limit old rs new → length old + length rs ≤ length new
PutsAll-longer limit [] old new e = omega (arith, ap length e)
PutsAll-longer limit (r ∷ rs) old new (middle, one, more) = omega (arith, Puts-longer one, PutsAll-longer limit rs middle new more)

pub PutsAll-within : (limit : ℕ) (rs : List (Record RData)) (old new : List ℕ) → length old ≤ limit → PutsAll limit old rs new → length new ≤ limit
PutsAll-within limit [] old new h e = omega (arith, ap length e)
PutsAll-within limit (r ∷ rs) old new h (middle, one, more) = PutsAll-within limit rs middle new one.within more

-- what was put stands in whatever keeps the bytes
pub put_stand : (limit : ℕ) (rs : List (Record RData)) (old new final : List ℕ) → PutsAll limit old rs new → KeepsFrom 12 new final → ItemsAt (FormAt 12 final) (length old) rs (length new)
put_stand limit [] old new final e k = ap length e
put_stand limit (r ∷ rs) old new final (middle, one, more) k =
    (length middle, FormAt-keeps (KeepsFrom-trans (PutsAll-keeps limit rs middle new more) k) (omega arith) one.form, put_stand limit rs middle new final more k)

-- a record's form says nothing of its proof
pub form_without_proof : {floor : ℕ} {bytes : List ℕ} {place next : ℕ} (r : Record RData) → FormAt floor bytes place r next → FormAt floor bytes place (without_proof r) next
form_without_proof r at = record { middle = at.middle; len = at.len; owner = at.owner; fixed = at.fixed; small = at.small; rdata = at.rdata; counted = at.counted }

-- what was put has its numbers in range
pub put_in_range : (limit : ℕ) (rs : List (Record RData)) (old new : List ℕ) → PutsAll limit old rs new → AllByRecursion IsRecordInRange rs
put_in_range limit [] old new e = tt
put_in_range limit (r ∷ rs) old new (middle, one, more) = (one.in_range, put_in_range limit rs middle new more)

-- a record that was put, and is readable, is one that is read
pub readable_formed : (r : Record RData) → IsRecordInRange r → IsFullyQualified r.name → IsReadAsItsType r.rdata → IsFormedRecord (without_proof r)
readable_formed r i n t = record_formed (without_proof r) (record { class = i.class; ttl = i.ttl; rdata = i.rdata }) n t refl

-- readable records that stand so are read
pub readable_stand : (bytes : List ℕ) (rs : List (Record RData)) (place next : ℕ) → AllByRecursion IsReadable rs → AllByRecursion IsRecordInRange rs → ItemsAt (FormAt 12 bytes) place rs next → ItemsAt (RecordAt bytes) place (map without_proof rs) next
readable_stand bytes [] place next h i e = e
readable_stand bytes (r ∷ rs) place next h i (middle, one, more) =
    (middle, formed_record 12 bytes place middle (without_proof r) (readable_formed r i.0 h.0.name h.0.rdata) (form_without_proof r one), readable_stand bytes rs middle next h.1 i.1 more)

pub readable_plain : (rs : List (Record RData)) → AllByRecursion IsReadable rs → AllByRecursion IsPlainRecord (map without_proof rs)
readable_plain [] h = tt
readable_plain (r ∷ rs) h = (h.0.section, readable_plain rs h.1)

pub readable_front : (n : ℕ) (rs : List (Record RData)) → AllByRecursion IsReadable rs → AllByRecursion IsReadable (take n rs)
readable_front zero rs h = tt
readable_front (suc n) [] h = tt
readable_front (suc n) (r ∷ rs) h = (h.0, readable_front n rs h.1)

pub readable_both : (rs qs : List (Record RData)) → AllByRecursion IsReadable rs → AllByRecursion IsReadable qs → AllByRecursion IsReadable (rs ++ qs)
readable_both [] qs h k = k
readable_both (r ∷ rs) qs h k = (h.0, readable_both rs qs h.1 k)

pub items_both : {A : Type 0} (at : ℕ → A → ℕ → Type 0) (xs ys : List A) (place middle next : ℕ) → ItemsAt at place xs middle → ItemsAt at middle ys next → ItemsAt at place (xs ++ ys) next
items_both at [] ys place middle next e h = subst (λ (k : ℕ). ItemsAt at k ys next) e h
items_both at (x ∷ xs) ys place middle next (m, one, more) h = (m, one, items_both at xs ys m middle next more h)

-- questions that stand there stand in whatever keeps the bytes, and are read
pub questions_stand : (old new : List ℕ) (queries : List Query) (place next : ℕ) → KeepsFrom 12 old new → AllByRecursion IsFormedQuestion queries → ItemsAt (QuestionAt 12 old) place queries next → ItemsAt (QuestionRead new) place queries next
questions_stand old new [] place next k h e = e
questions_stand old new (q ∷ qs) place next k h (middle, one, more) =
    (middle, record { stands = QuestionAt-keeps k (omega arith) one; formed = h.0 }, questions_stand old new qs middle next k h.1 more)

-- a question takes a byte at least
pub questions_few : (floor : ℕ) (bytes : List ℕ) (queries : List Query) (place next : ℕ) → ItemsAt (QuestionAt floor bytes) place queries next → place + length queries ≤ next
questions_few floor bytes [] place next e = omega arith
questions_few floor bytes (q ∷ qs) place next (middle, one, more) =
    let l = LabelsAt-longer one.name.labels in
    omega (arith, l.0, one.after, questions_few floor bytes qs middle next more)
