-- So many records of the additional section are read exactly where they stand one behind the other and make an
-- additional section.
use Rattle.std.proofs.Common.{◌≡◌, ℕ, zero, suc, List, [], ◌∷◌, length, Ok, refl, sym, ap, subst, arith}
use Rattle.wire_names.specs.serialize.layout.Bytes.{AreBytes}
use Rattle.wire_messages.specs.serialize.reading.Cursor.{Cursor}
use Rattle.wire_messages.specs.serialize.layout.MessageLayout.{ItemsAt, AdditionalSection}
use Rattle.wire_messages.specs.serialize.reading.Reading.{◌>>=◌}
use Rattle.wire_messages.specs.serialize.layout.RecordLayout.{RecordAt}
use Rattle.wire_messages.specs.serialize.reading.RecordReading.{resource}
use Rattle.wire_messages.specs.serialize.reading.SectionReading.{Additionals, add_record, additionals_after, no_additionals}
use Rattle.wire_messages.specs.declared.rr.rdata.RData.{RData}
use Rattle.wire_messages.specs.declared.rr.record.Record.{Record}
use Rattle.wire_messages.proofs.lemmas.serialize.layout.Additional.{placed_all, then_placed, section_found, section_placed}
use Rattle.wire_messages.proofs.lemmas.serialize.layout.ByteTexts.{here, read_here}
use Rattle.wire_reading.proofs.lemmas.serialize.reading.CountedItems.{at_place}
use Rattle.wire_messages.proofs.lemmas.serialize.reading.RecordSorts.{sorts_of}
use Rattle.wire_reading.proofs.lemmas.serialize.reading.SectionItems.{records_find, records_reach}
use Rattle.wire_messages.proofs.lemmas.serialize.reading.StringSteps.{wrap, ok_is, bind_ok}

-- records that stand one behind the other, and what they make of what was read before
record Placed (bytes : List ℕ) (n : ℕ) (x : Additionals) (place : ℕ) (y : Additionals) (next : Cursor) : Type 0 where
  pub all : List (Record RData)
  pub stand : ItemsAt (RecordAt bytes) place all next.place
  pub count : length all ≡ n
  pub made : placed_all x all ≡ Ok y
  pub kept : next.bytes ≡ bytes

-- so many records that are read stand there, and were placed one after another
additionals_found : (bytes : List ℕ) → AreBytes bytes → (n : ℕ) (x : Additionals) (place : ℕ) (y : Additionals) (next : Cursor) → additionals_after n x (here bytes place) ≡ Ok (y, next) → Placed bytes n x place y next
unfolding additionals_after
additionals_found bytes a zero x place y next e =
    let z : Additionals × Cursor = (x, here bytes place) in
    let same : z ≡ (y, next) = ok_is z (y, next) e in
    record {
      all = [];
      stand = ap (λ (z : Additionals × Cursor). z.1.place) (sym same);
      count = refl;
      made = ap (λ (z : Additionals × Cursor). wrap z.0) same;
      kept = ap (λ (z : Additionals × Cursor). z.1.bytes) (sym same);
    }
additionals_found bytes a (suc n) x place y next e =
    let b = bind_ok (resource (here bytes place)) (λ r. add_record x r.0 >>= λ z. additionals_after n z r.1) (y, next) e in
    let d = bind_ok (add_record x b.0.0) (λ z. additionals_after n z b.0.1) (y, next) b.2 in
    let f = records_find bytes a place b.0.0 b.0.1 b.1 in
    let h = at_place (additionals_after n d.0) b.0.1 f.1 (y, next) d.2 in
    let r = additionals_found bytes a n d.0 b.0.1.place y next h in
    record {
      all = b.0.0 ∷ r.all;
      stand = (b.0.1.place, f.0, r.stand);
      count = omega (arith, r.count);
      made = then_placed x d.0 y b.0.0 r.all d.1 r.made;
      kept = r.kept;
    }

-- records that stand there and are placed one after another are read
additionals_here : (bytes : List ℕ) → AreBytes bytes → (all : List (Record RData)) (x y : Additionals) (place next : ℕ) → ItemsAt (RecordAt bytes) place all next → placed_all x all ≡ Ok y
    → additionals_after (length all) x (here bytes place) ≡ read_here y bytes next
unfolding additionals_after
additionals_here bytes a [] x y place next e made =
    let same : x ≡ y = ok_is x y made in
    rw (same, e) refl
additionals_here bytes a (r ∷ rs) x y place next (middle, at, more) made =
    let b = bind_ok (add_record x r) (λ z. placed_all z rs) y made in
    rw (records_reach bytes a place r middle at, b.1) (additionals_here bytes a rs b.0 y middle next more b.2)

-- an additional section that is read
pub record Section (bytes : List ℕ) (n place : ℕ) (x : Additionals) (next : Cursor) : Type 0 where
  pub all : List (Record RData)
  pub stand : ItemsAt (RecordAt bytes) place all next.place
  pub count : length all ≡ n
  pub section : AdditionalSection all x.records x.edns x.signature
  pub kept : next.bytes ≡ bytes

-- an additional section that is read stands there
pub section_read : (bytes : List ℕ) → AreBytes bytes → (n place : ℕ) (x : Additionals) (next : Cursor) → additionals_after n no_additionals (here bytes place) ≡ Ok (x, next) → Section bytes n place x next
section_read bytes a n place x next e =
    let f = additionals_found bytes a n no_additionals place x next e in
    record { all = f.all; stand = f.stand; count = f.count; section = section_found f.all x (sorts_of bytes place f.all next.place f.stand) f.made; kept = f.kept }

-- an additional section that stands there is read
pub section_here : (bytes : List ℕ) → AreBytes bytes → (all : List (Record RData)) (n place : ℕ) (x : Additionals) (next : ℕ) → length all ≡ n → ItemsAt (RecordAt bytes) place all next → AdditionalSection all x.records x.edns x.signature
    → additionals_after n no_additionals (here bytes place) ≡ read_here x bytes next
section_here bytes a all n place x next count stand section =
    subst (λ (k : ℕ). additionals_after k no_additionals (here bytes place) ≡ read_here x bytes next) count
    (additionals_here bytes a all no_additionals x place next stand (section_placed all x (sorts_of bytes place all next stand) section))
