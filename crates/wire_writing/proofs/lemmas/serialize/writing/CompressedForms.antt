-- A record whose names are written with pointers, and whose length is put in behind them.
use Rattle.std.proofs.Common.{◌≡◌, inl, inr, ℕ, ◌+◌, ◌-◌, ◌<◌, ◌≤◌, List, ◌++◌, length, take, drop, get_or, None, refl, sym, ap, subst, ◌∙◌, arith, length-append}
use Rattle.std.proofs.lemmas.List.{append_assoc, take_at, drop_at, get_or_append_left, get_or_past}
use Rattle.std.proofs.lemmas.Bool.{cases_lt}
use Rattle.std.specs.Int.{w16, w32, to_be_bytes}
use Rattle.wire_messages.specs.rr.RecordData.{type_of}
use Rattle.wire_names.specs.rr.domain.DomainName.{AreLabels, wire_form, name_len}
use Rattle.wire_names.specs.serialize.layout.Bytes.{BytesAt, KeepsFrom}
use Rattle.wire_messages.specs.serialize.layout.FieldRanges.{IsRecordInRange}
use Rattle.wire_messages.specs.serialize.layout.NameLayout.{LabelsAt}
use Rattle.wire_messages.specs.serialize.layout.RecordLayout.{DataAt, FormAt, fixed_fields}
use Rattle.wire_writing.specs.representation.Endings.{OwnerNoted}
use Rattle.wire_messages.specs.serialize.writing.FullForm.{EndsInFull, tsig_octets}
use Rattle.wire_writing.specs.representation.Noted.{Notes, AreNotes, WritesLabels, Compresses}
use Rattle.wire_messages.specs.serialize.writing.RecordSize.{data_len, full_size, unwritable_reason}
use Rattle.wire_writing.specs.serialize.writing.Writing.{Puts}
use Rattle.wire_writing.specs.representation.WritingByNotes.{WritesData, WritesRecord}
use Rattle.wire_messages.specs.declared.rr.rdata.RData.{RData}
use Rattle.wire_messages.specs.declared.rr.rdata.RData.TheVariants as rdata
use Rattle.wire_messages.specs.declared.rr.record.Record.{Record}
use Rattle.wire_names.proofs.lemmas.rr.domain.WireForm.{cut-wire, name_len-wire_form}
use Rattle.wire_messages.proofs.lemmas.serialize.layout.ByteTexts.{BytesAt-left}
use Rattle.wire_messages.proofs.lemmas.serialize.layout.Stable.{BytesAt-append, LabelsAt-keeps, KeepsFrom-append}
use Rattle.wire_writing.proofs.lemmas.serialize.writing.CompressedData.{keeps_added, keeps_both}
use Rattle.wire_writing.proofs.lemmas.serialize.writing.NameSteps.{AreNotes-keeps, HasNote-more}

pub name_len-pos : (ls : List (List ℕ)) → 1 ≤ name_len ls
name_len-pos ls = omega (arith, name_len-wire_form ls)

-- data in full, behind other octets
full_behind : (d : RData) (front octets : List ℕ) → EndsInFull d octets → EndsInFull d (front ++ octets)
full_behind (rdata.TSIG t) front octets (before, e) = (front ++ before, ap (λ b. front ++ b) e ∙ sym (append_assoc front before (tsig_octets t)))
full_behind (rdata.A address) front octets h = tt
full_behind (rdata.AAAA address) front octets h = tt
full_behind (rdata.NS name) front octets h = tt
full_behind (rdata.CNAME name) front octets h = tt
full_behind (rdata.PTR name) front octets h = tt
full_behind (rdata.MX mx) front octets h = tt
full_behind (rdata.SOA soa) front octets h = tt
full_behind (rdata.TXT strings) front octets h = tt
full_behind (rdata.OPT options) front octets h = tt
full_behind (rdata.NULL bytes) front octets h = tt
full_behind (rdata.Update0 code) front octets h = tt
full_behind (rdata.Unknown code bytes) front octets h = tt

-- what the length is put into
patched : (named front more full new : List ℕ) (place len : ℕ) → full ≡ (named ++ (front ++ to_be_bytes w16 0)) ++ more → place ≡ length named + length front → new ≡ take place full ++ (to_be_bytes w16 len ++ drop (place + 2) full) → new ≡ (named ++ (front ++ to_be_bytes w16 len)) ++ more
patched named front more full new place len e at is =
    let zeros = to_be_bytes w16 0 in
    let number = to_be_bytes w16 len in
    let head : full ≡ (named ++ front) ++ (zeros ++ more) = e ∙ ap (λ b. b ++ more) (sym (append_assoc named front zeros)) ∙ append_assoc (named ++ front) zeros more in
    let back : full ≡ (named ++ (front ++ zeros)) ++ more = e in
    let one : take place full ≡ named ++ front = ap (λ b. take place b) head ∙ take_at (named ++ front) (zeros ++ more) place (omega (arith, at, length-append named front)) in
    let two : drop (place + 2) full ≡ more = ap (λ b. drop (place + 2) b) back ∙ drop_at (named ++ (front ++ zeros)) more (place + 2) (omega (arith, at, length-append named (front ++ zeros), length-append front zeros)) in
    is ∙ rw (one, two) (sym (append_assoc (named ++ front) number more)) ∙ ap (λ b. b ++ more) (append_assoc named front number)

-- the bytes before a record, with its owner name, with its fixed fields, with its data, and with the length put in
module _ (old named fixed full new : List ℕ) (notes between notes' : Notes) (r : Record RData) (kind class ttl start place len : ℕ) (low : 12 ≤ length old) (owner : AreLabels r.name.labels) (small : data_len r.rdata ≤ 65535) (in_range : IsRecordInRange r)
    (w : WritesLabels old named notes between (wire_form r.name.labels)) (k : Compresses old named notes between (wire_form r.name.labels))
    (e2 : fixed ≡ named ++ (to_be_bytes w16 kind ++ to_be_bytes w16 class ++ to_be_bytes w32 ttl ++ to_be_bytes w16 0)) (ek : kind ≡ type_of r.rdata) (ec : class ≡ r.dns_class) (et : ttl ≡ r.ttl)
    (d : WritesData fixed full between notes' r.rdata) (es : start ≡ length fixed) (at : place ≡ start - 2) (el : len + length fixed ≡ length full) (e : new ≡ take place full ++ (to_be_bytes w16 len ++ drop (place + 2) full)) where
  abbrev front : List ℕ
  front = to_be_bytes w16 (type_of r.rdata) ++ to_be_bytes w16 r.dns_class ++ to_be_bytes w32 r.ttl

  fixed_is : fixed ≡ named ++ (front ++ to_be_bytes w16 0)
  fixed_is = e2 ∙ rw (ek, ec, et) refl

  fixed_len : length fixed ≡ length named + 10
  fixed_len = omega (arith, ap length fixed_is, length-append named (front ++ to_be_bytes w16 0))

  new_is : new ≡ (named ++ fixed_fields r len) ++ d.more
  new_is = patched named front d.more full new place len (d.is ∙ ap (λ b. b ++ d.more) fixed_is) (omega (arith, es, at, fixed_len)) e

  len_is : len ≡ length d.more
  len_is = omega (arith, el, ap length d.is, length-append fixed d.more)

  abbrev more : List ℕ
  more = w.more ++ (fixed_fields r len ++ d.more)

  appended : new ≡ old ++ more
  appended = new_is ∙ append_assoc named (fixed_fields r len) d.more ∙ ap (λ b. b ++ (fixed_fields r len ++ d.more)) w.is ∙ append_assoc old w.more (fixed_fields r len ++ d.more)

  new_len : length new ≡ length full
  new_len = omega (arith, ap length new_is, length-append (named ++ fixed_fields r len) d.more, length-append named (fixed_fields r len), fixed_len, ap length d.is, length-append fixed d.more)

  stands : AreNotes old (length old) notes → FormAt 12 new (length old) r (length new) × AreNotes new (length new) notes'
  stands h =
      let one = w.stand old (length old) refl (omega arith) h in
      let named_is : old ++ w.more ≡ named = sym w.is in
      let labels : LabelsAt 12 named (length old) (length old) r.name.labels (length named) =
      subst (λ b. LabelsAt 12 b (length old) (length old) r.name.labels (length named)) named_is (subst (λ ls. LabelsAt 12 (old ++ w.more) (length old) (length old) ls (length named)) (cut-wire r.name.labels) one.0) in
      let noted : AreNotes named (length named) between = subst (λ b. AreNotes b (length named) between) named_is one.1 in
      let base = named ++ fixed_fields r len in
      let base_len : length base ≡ length fixed = omega (arith, length-append named (fixed_fields r len), fixed_len) in
      let two = d.stand base base_len (AreNotes-keeps (KeepsFrom-append 12 named (fixed_fields r len)) (omega (arith, fixed_len)) between noted) in
      let kept : KeepsFrom 12 named new = subst (λ b. KeepsFrom 12 named b) (sym (new_is ∙ append_assoc named (fixed_fields r len) d.more)) (KeepsFrom-append 12 named (fixed_fields r len ++ d.more)) in
      let fields : BytesAt new (length named) (fixed_fields r len) =
      subst (λ b. BytesAt b (length named) (fixed_fields r len)) (sym (new_is ∙ append_assoc named (fixed_fields r len) d.more)) (BytesAt-left (named ++ (fixed_fields r len ++ d.more)) (length named) (fixed_fields r len) d.more (BytesAt-append named (fixed_fields r len ++ d.more))) in
      let content : DataAt 12 new (length named + 10) r.rdata (length new) =
      subst (λ b. DataAt 12 b (length named + 10) r.rdata (length new)) (sym new_is) (subst (λ p. DataAt 12 (base ++ d.more) p r.rdata (length new)) fixed_len (subst (λ n. DataAt 12 (base ++ d.more) (length fixed) r.rdata n) (sym new_len) two.0)) in (
        record {
          middle = length named;
          len = len;
          owner = record { labels = LabelsAt-keeps kept (omega arith) (omega arith) labels; short = owner.short };
          fixed = fields;
          small = omega (arith, len_is, d.short);
          rdata = content;
          counted = omega (arith, new_len, el, fixed_len);
        },
        subst (λ b. AreNotes b (length new) notes') (sym new_is) (subst (λ n. AreNotes (base ++ d.more) n notes') (sym new_len) two.1),
      )

  pub writes_record : WritesRecord old new notes notes' r
  writes_record = record {
    more = more;
    is = appended;
    short = omega (arith, length-append w.more (fixed_fields r len ++ d.more), length-append (fixed_fields r len) d.more, w.short, d.short, name_len-wire_form r.name.labels);
    in_full = full_behind r.rdata w.more (fixed_fields r len ++ d.more) (full_behind r.rdata (fixed_fields r len) d.more d.in_full);
    in_range = in_range;
    adds = keeps_both notes between notes' (keeps_added w.adds) d.adds;
    stand = stands;
    compresses = record {
      repeats = λ ne had.
          let first : length old < length named = elim (cases_lt (length old) (length named)) [ inl lt ↦ lt | inr le ↦ absurd (omega (arith, k.repeats ne had, get_or_past named (length old) 0 le)) ] in
          let same : get_or new (length old) 0 ≡ get_or named (length old) 0 = ap (λ s. get_or s (length old) 0) (new_is ∙ append_assoc named (fixed_fields r len) d.more) ∙ get_or_append_left named (fixed_fields r len ++ d.more) 0 (length old) first in
          omega (arith, k.repeats ne had, same);
      remembers = λ ne lt. HasNote-more between notes' (wire_form r.name.labels) d.adds (k.remembers ne lt);
    };
  }

-- a record that was written, put and noted
module _ (limit : ℕ) (old new : List ℕ) (notes notes' : Notes) (r : Record RData) (h : AreNotes old (length old) notes) (w : WritesRecord old new notes notes' r) where
  pub puts : unwritable_reason r.rdata ≡ None → length new ≤ limit → Puts limit old r new
  puts formed within = record {
    more = w.more;
    formed = formed;
    in_range = w.in_range;
    appended = w.is;
    in_full = w.in_full;
    small = w.short;
    within = within;
    form = (w.stand h).0;
  }

  pub noted : OwnerNoted old r new notes notes'
  noted = record { hold = (w.stand h).1; adds = w.adds; compresses = w.compresses }

-- The record takes at most its size in full.
pub at_most : (old new : List ℕ) (notes notes' : Notes) (r : Record RData) → WritesRecord old new notes notes' r → length new ≤ length old + full_size r
at_most old new notes notes' r w = omega (arith, ap length w.is, length-append old w.more, w.short)

-- What was written and noted is taken back.
pub cut_back : (old new : List ℕ) (notes notes' : Notes) (r : Record RData) → WritesRecord old new notes notes' r → (take (length old) new ≡ old) × (take (length notes) notes' ≡ notes)
cut_back old new notes notes' r w = (
  ap (λ b. take (length old) b) w.is ∙ take_at old w.more (length old) refl,
  ap (λ ns. take (length notes) ns) w.adds.is ∙ take_at notes w.adds.more (length notes) refl,
)
