-- Data whose names are written with pointers.
use Rattle.std.proofs.Common.{◌≡◌, ℕ, ◌+◌, ◌≤◌, List, [], ◌++◌, length, sym, ap, subst, ◌∙◌, arith, length-append}
use Rattle.std.proofs.lemmas.List.{append_assoc, append-nil}
use Rattle.std.specs.Int.{w16, to_be_bytes}
use Rattle.wire_messages.specs.rr.RecordData.{soa_numbers}
use Rattle.wire_names.specs.rr.domain.DomainName.{DomainName, AreLabels, wire_form, name_len}
use Rattle.wire_messages.specs.serialize.layout.NameLayout.{LabelsAt, NameAt}
use Rattle.wire_messages.specs.serialize.layout.RecordLayout.{OctetsAt, DataAt}
use Rattle.wire_messages.specs.serialize.writing.FullForm.{data_octets, EndsInFull, HasNames}
use Rattle.wire_writing.specs.representation.Noted.{Notes, AreNotes, AddsNotes, KeepsNotes, WritesLabels}
use Rattle.wire_messages.specs.serialize.writing.RecordSize.{data_len}
use Rattle.wire_writing.specs.representation.WritingByNotes.{WritesData}
use Rattle.wire_messages.specs.declared.rr.rdata.MX.{MX}
use Rattle.wire_messages.specs.declared.rr.rdata.SOA.{SOA}
use Rattle.wire_messages.specs.declared.rr.rdata.RData.{RData}
use Rattle.wire_messages.specs.declared.rr.rdata.RData.TheVariants as rdata
use Rattle.wire_names.proofs.lemmas.rr.domain.WireForm.{cut-wire, name_len-wire_form}
use Rattle.wire_messages.proofs.lemmas.serialize.layout.ByteTexts.{BytesAt-left}
use Rattle.wire_messages.proofs.lemmas.serialize.layout.Stable.{NameAt-keeps, KeepsFrom-append}
use Rattle.wire_writing.proofs.lemmas.serialize.writing.FullForms.{data_stand, data_octets-len, ends_in_full}
use Rattle.wire_writing.proofs.lemmas.serialize.writing.NameSteps.{AreNotes-keeps, BytesAt-behind}

pub keeps_all : (notes : Notes) → KeepsNotes notes notes
keeps_all notes = record { more = []; is = sym (append-nil notes) }

pub keeps_added : {longest : ℕ} {notes notes' : Notes} → AddsNotes longest notes notes' → KeepsNotes notes notes'
keeps_added a = record { more = a.more; is = a.is }

pub keeps_both : (notes between notes' : Notes) → KeepsNotes notes between → KeepsNotes between notes' → KeepsNotes notes notes'
keeps_both notes between notes' a b = record { more = a.more ++ b.more; is = b.is ∙ ap (λ ns. ns ++ b.more) a.is ∙ append_assoc notes a.more b.more }

-- data in full
pub plain_data : (old new : List ℕ) (notes : Notes) (d : RData) → 12 ≤ length old → HasNames d → new ≡ old ++ data_octets d → WritesData old new notes notes d
plain_data old new notes d low names e =
    let size : length new ≡ length old + data_len d = omega (arith, ap length e, length-append old (data_octets d), data_octets-len d) in
    record {
      more = data_octets d;
      is = e;
      short = omega (arith, data_octets-len d);
      in_full = ends_in_full d [];
      adds = keeps_all notes;
      stand = λ base len h. (
        data_stand (base ++ data_octets d) 12 (length old) (length new) d names low (BytesAt-behind base (data_octets d) (length old) len) size,
        AreNotes-keeps (KeepsFrom-append 12 base (data_octets d)) (omega (arith, size)) notes h,
      );
    }

-- a name behind other bytes
module _ (old new : List ℕ) (notes notes' : Notes) (name : DomainName) (are : AreLabels name.labels) (w : WritesLabels old new notes notes' (wire_form name.labels)) where
  pub name_stands_behind : (base : List ℕ) → length base ≡ length old → AreNotes base (length old) notes → NameAt 12 (base ++ w.more) (length old) name (length new) × AreNotes (base ++ w.more) (length new) notes'
  name_stands_behind base len h =
      let r = w.stand base (length old) len (omega arith) h in
      (record { labels = subst (λ ls. LabelsAt 12 (base ++ w.more) (length old) (length old) ls (length new)) (cut-wire name.labels) r.0; short = are.short }, r.1)

  pub name_short : length w.more ≤ name_len name.labels
  name_short = omega (arith, w.short, name_len-wire_form name.labels)

  pub name_size : length new ≡ length old + length w.more
  name_size = omega (arith, ap length w.is, length-append old w.more)

  -- data that are a name
  pub name_data : (d : RData) → ((bytes : List ℕ) (place next : ℕ) → NameAt 12 bytes place name next → DataAt 12 bytes place d next) → data_len d ≡ name_len name.labels → ((octets : List ℕ) → EndsInFull d octets) → WritesData old new notes notes' d
  name_data d stands size full = record {
    more = w.more;
    is = w.is;
    short = omega (arith, name_short, size);
    in_full = full w.more;
    adds = keeps_added w.adds;
    stand = λ base len h. let r = name_stands_behind base len h in (stands (base ++ w.more) (length old) (length new) r.0, r.1);
  }

-- preference and exchange
pub mx_data : (old mid new : List ℕ) (notes notes' : Notes) (mx : MX) → 12 ≤ length old → AreLabels mx.exchange.labels → mid ≡ old ++ to_be_bytes w16 mx.preference → WritesLabels mid new notes notes' (wire_form mx.exchange.labels) → WritesData old new notes notes' (rdata.MX mx)
mx_data old mid new notes notes' mx low are e w =
    let text = to_be_bytes w16 mx.preference in
    let size : length mid ≡ length old + 2 = omega (arith, ap length e, length-append old text) in
    record {
      more = text ++ w.more;
      is = w.is ∙ ap (λ b. b ++ w.more) e ∙ append_assoc old text w.more;
      short = omega (arith, length-append text w.more, name_short mid new notes notes' mx.exchange are w);
      in_full = tt;
      adds = keeps_added w.adds;
      stand = λ base len h.
          let behind : AreNotes (base ++ text) (length mid) notes = AreNotes-keeps (KeepsFrom-append 12 base text) (omega (arith, size)) notes h in
          let behind_len : length (base ++ text) ≡ length mid = omega (arith, length-append base text, size, len) in
          let r = name_stands_behind mid new notes notes' mx.exchange are w (base ++ text) behind_len behind in
          let same : (base ++ text) ++ w.more ≡ base ++ (text ++ w.more) = append_assoc base text w.more in (
            record {
              middle = length mid;
              preference = record { above = low; stands = BytesAt-left (base ++ (text ++ w.more)) (length old) text w.more (BytesAt-behind base (text ++ w.more) (length old) len); after = size };
              exchange = subst (λ b. NameAt 12 b (length mid) mx.exchange (length new)) same r.0;
            },
            subst (λ b. AreNotes b (length new) notes') same r.1,
          );
    }

-- both names, and the numbers
pub soa_data : (old one two new : List ℕ) (notes between notes' : Notes) (soa : SOA) → AreLabels soa.mname.labels → AreLabels soa.rname.labels → 12 ≤ length old → WritesLabels old one notes between (wire_form soa.mname.labels) → WritesLabels one two between notes' (wire_form soa.rname.labels)
    → new ≡ two ++ soa_numbers soa → WritesData old new notes notes' (rdata.SOA soa)
soa_data old one two new notes between notes' soa are1 are2 low w1 w2 e =
    let numbers = soa_numbers soa in
    let size1 = name_size old one notes between soa.mname are1 w1 in
    let size2 = name_size one two between notes' soa.rname are2 w2 in
    let size : length new ≡ length two + 20 = omega (arith, ap length e, length-append two numbers) in
    let short1 = name_short old one notes between soa.mname are1 w1 in
    let short2 = name_short one two between notes' soa.rname are2 w2 in
    let all = w1.more ++ w2.more ++ numbers in
    record {
      more = all;
      is = e ∙ ap (λ b. b ++ numbers) (w2.is ∙ ap (λ b. b ++ w2.more) w1.is ∙ append_assoc old w1.more w2.more) ∙ append_assoc old (w1.more ++ w2.more) numbers;
      short = omega (arith, length-append (w1.more ++ w2.more) numbers, length-append w1.more w2.more, short1, short2);
      in_full = tt;
      adds = keeps_both notes between notes' (keeps_added w1.adds) (keeps_added w2.adds);
      stand = λ base len h.
          let r1 = name_stands_behind old one notes between soa.mname are1 w1 base len h in
          let base1 = base ++ w1.more in
          let r2 = name_stands_behind one two between notes' soa.rname are2 w2 base1 (omega (arith, length-append base w1.more, size1)) r1.1 in
          let base2 = base1 ++ w2.more in
          let len2 : length base2 ≡ length two = omega (arith, length-append base1 w2.more, length-append base w1.more, size1, size2) in
          let same : base2 ++ numbers ≡ base ++ all = ap (λ b. b ++ numbers) (append_assoc base w1.more w2.more) ∙ append_assoc base (w1.more ++ w2.more) numbers in
          let kept = KeepsFrom-append 12 base2 numbers in
          let at_two : 12 ≤ length two = omega (arith, size1, size2) in
          let stands : OctetsAt 12 (base2 ++ numbers) (length two) numbers (length new) = record { above = at_two; stands = BytesAt-behind base2 numbers (length two) len2; after = size } in (
            subst (λ b. DataAt 12 b (length old) (rdata.SOA soa) (length new)) same (record {
              one = length one;
              two = length two;
              mname = NameAt-keeps kept (omega arith) (NameAt-keeps (KeepsFrom-append 12 base1 w2.more) (omega arith) r1.0);
              rname = NameAt-keeps kept (omega arith) r2.0;
              numbers = stands;
            }),
            subst (λ b. AreNotes b (length new) notes') same (AreNotes-keeps kept (omega (arith, size)) notes' r2.1),
          );
    }
