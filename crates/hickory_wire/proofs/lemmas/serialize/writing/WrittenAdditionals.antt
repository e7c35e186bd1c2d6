-- The additional section that was written: its records, the OPT and the TSIG.
use Rattle.std.proofs.Common.{◌≡◌, ℕ, zero, suc, ◌+◌, ◌*◌, ◌/◌, ◌%◌, ◌^◌, ◌<◌, ◌≤◌, List, [], ◌∷◌, ◌++◌, length, map, take, Bool, true, false, eqb, Option, Some, None, refl, sym, ap, ◌∙◌, arith}
use Rattle.std.specs.Prelude.{filter, not, option_map, option_to_list, IfSome, ◌||◌}
use Rattle.std.specs.List.{AllByRecursion}
use Rattle.std.proofs.lemmas.List.{append-nil}
use Rattle.std.proofs.lemmas.List.Elements.{filter-append}
use Rattle.hickory_wire.specs.serialize.writing.Decoding.{without_proof, front_of_option, IsReadableSignature}
use Rattle.wire_messages.specs.op.EdnsFields.{EdnsFields}
use Rattle.wire_messages.specs.serialize.layout.FieldRanges.{IsRecordInRange}
use Rattle.wire_messages.specs.serialize.layout.HeaderLayout.{flag}
use Rattle.wire_messages.specs.serialize.layout.MessageLayout.{ItemsAt, IsPlainRecord, is_opt, is_tsig, HasEdns, AdditionalSection, tsig_record, edns_of}
use Rattle.wire_messages.specs.rr.RecordData.{type_of}
use Rattle.wire_messages.specs.serialize.layout.RecordLayout.{FormAt, RecordAt, IsFormedRecord}
use Rattle.wire_messages.specs.serialize.writing.Reply.{opt_record}
use Rattle.wire_messages.specs.serialize.writing.ReplyRanges.{IsEdnsInRange}
use Rattle.wire_messages.specs.declared.rr.rdata.RData.{RData}
use Rattle.wire_messages.specs.declared.rr.record.Record.{Record}
use Rattle.wire_messages.specs.declared.rr.tsig.TSIG.{TSIG}
use Rattle.wire_messages.proofs.lemmas.serialize.layout.Ranges.{record_formed}
use Rattle.wire_reading.proofs.lemmas.serialize.reading.RecordsAgree.{formed_record}
use Rattle.hickory_wire.proofs.lemmas.serialize.writing.WrittenItems.{form_without_proof, readable_formed}

-- a set flag is a bit
flag_bit : (b : Bool) → (n : ℕ) × (n < 2) × (flag b 15 ≡ n * 2 ^ 15) × (eqb n 1 ≡ b)
flag_bit true = (1, omega arith, omega arith, refl)
flag_bit false = (0, omega arith, omega arith, refl)

record TtlParts (ttl high version bit reserved : ℕ) : Type 0 where
  high_is : ttl / 2 ^ 24 ≡ high
  version_is : ttl / 2 ^ 16 % 256 ≡ version
  bit_is : ttl / 2 ^ 15 % 2 ≡ bit
  reserved_is : ttl % 2 ^ 15 ≡ reserved

ttl_parts : (ttl high version bit reserved : ℕ) → high < 2 ^ 8 → version < 2 ^ 8 → bit < 2 → reserved < 2 ^ 15 → ttl ≡ high * 2 ^ 24 + version * 2 ^ 16 + bit * 2 ^ 15 + reserved → TtlParts ttl high version bit reserved
ttl_parts ttl high version bit reserved h v b r e = record { high_is = omega arith; version_is = omega arith; bit_is = omega arith; reserved_is = omega arith }

-- what an OPT record says is what it was made of
opt_says : (e : EdnsFields) → IsEdnsInRange e → e ≡ edns_of (opt_record e) e.options
opt_says e f =
    let b = flag_bit e.dnssec_ok in
    let ttl = e.rcode_high * 2 ^ 24 + e.version * 2 ^ 16 + flag e.dnssec_ok 15 + e.reserved_flags in
    let p = ttl_parts ttl e.rcode_high e.version b.0 e.reserved_flags f.rcode_high f.version b.1 f.reserved_flags (omega (arith, b.2)) in
    rw (p.high_is, p.version_is, p.bit_is, p.reserved_is, b.3) refl

-- an OPT record reads back as itself
opt_formed : (e : EdnsFields) → IsRecordInRange (opt_record e) → IsFormedRecord (opt_record e)
opt_formed e i = record_formed (opt_record e) i refl tt refl

-- what was written of the OPT
pub record OptWritten (bytes : List ℕ) (place : ℕ) (opts : List (Record RData)) (edns : Option EdnsFields) (n next : ℕ) : Type 0 where
  pub stand : ItemsAt (RecordAt bytes) place opts next
  pub says : HasEdns opts edns
  pub unsigned : filter is_tsig opts ≡ []
  pub all_opt : filter is_opt opts ≡ opts
  pub none_other : filter (λ r. not (is_opt r)) opts ≡ []
  pub count : length opts ≡ n

pub opt_written : (bytes : List ℕ) (place next n : ℕ) (edns : Option EdnsFields) → IfSome edns IsEdnsInRange → n ≤ length (option_to_list (option_map opt_record edns)) → AllByRecursion IsRecordInRange (take n (option_to_list (option_map opt_record edns))) → ItemsAt (FormAt 12 bytes) place (take n (option_to_list (option_map opt_record edns))) next
    → OptWritten bytes place (take n (option_to_list (option_map opt_record edns))) (front_of_option n edns) n next
opt_written bytes place next zero None f h i at = record { stand = at; says = refl; unsigned = refl; all_opt = refl; none_other = refl; count = refl }
opt_written bytes place next (suc n) None f h i at = absurd (omega arith)
opt_written bytes place next zero (Some e) f h i at = record { stand = at; says = refl; unsigned = refl; all_opt = refl; none_other = refl; count = refl }
opt_written bytes place next (suc zero) (Some e) f h i (middle, one, more) = record {
  stand = (middle, formed_record 12 bytes place middle (opt_record e) (opt_formed e i.0) one, more);
  says = (e, record { root = refl; rdata = refl; says = opt_says e f }, refl);
  unsigned = refl;
  all_opt = refl;
  none_other = refl;
  count = refl;
}
opt_written bytes place next (suc (suc n)) (Some e) f h i at = absurd (omega arith)

-- what was written of the TSIG
pub record TsigWritten (bytes : List ℕ) (place : ℕ) (last : List (Record RData)) (n next : ℕ) : Type 0 where
  pub stand : ItemsAt (RecordAt bytes) place last next
  pub count : length last ≡ n

pub tsig_written : (bytes : List ℕ) (place next n : ℕ) (signature : Option (Record TSIG)) → IfSome signature IsReadableSignature → n ≤ length (option_to_list (option_map tsig_record signature))
    → AllByRecursion IsRecordInRange (take n (option_to_list (option_map tsig_record signature))) → ItemsAt (FormAt 12 bytes) place (take n (option_to_list (option_map tsig_record signature))) next → TsigWritten bytes place (map tsig_record (option_to_list (option_map without_proof (front_of_option n signature)))) n next
tsig_written bytes place next zero None f h i at = record { stand = at; count = refl }
tsig_written bytes place next (suc n) None f h i at = absurd (omega arith)
tsig_written bytes place next zero (Some s) f h i at = record { stand = at; count = refl }
tsig_written bytes place next (suc zero) (Some s) f h i (middle, one, more) = record {
  stand = (middle, formed_record 12 bytes place middle (tsig_record (without_proof s)) (readable_formed (tsig_record s) i.0 f.name f.algorithm) (form_without_proof (tsig_record s) one), more);
  count = refl;
}
tsig_written bytes place next (suc (suc n)) (Some s) f h i at = absurd (omega arith)

-- a record of a section is no OPT and no TSIG
one_true : (b c : Bool) → (true || b || c) ≡ false → ⊥
one_true b c e = cc

or_parts : (a b c : Bool) → (a || b || c) ≡ false → (a ≡ false) × (b ≡ false)
or_parts true b c e = absurd (one_true b c e)
or_parts false true c e = absurd (one_true false c e)
or_parts false false c e = (refl, refl)

record Sorted (rs : List (Record RData)) : Type 0 where
  unsigned : filter is_tsig rs ≡ []
  no_opt : filter is_opt rs ≡ []
  all_other : filter (λ r. not (is_opt r)) rs ≡ rs

section_sorted : (rs : List (Record RData)) → AllByRecursion IsPlainRecord rs → Sorted rs
section_sorted [] h = record { unsigned = refl; no_opt = refl; all_other = refl }
section_sorted (r ∷ rs) h =
    let p = or_parts (eqb (type_of r.rdata) 41) (eqb (type_of r.rdata) 250) (eqb (type_of r.rdata) 24) h.0 in
    let rest = section_sorted rs h.1 in
    record {
      unsigned = rw p.1 rest.unsigned;
      no_opt = rw p.0 rest.no_opt;
      all_other = rw p.0 (ap (λ xs. r ∷ xs) rest.all_other);
    }

-- the section of these records, the OPT and the TSIG
pub section_made : (bytes : List ℕ) (place next n : ℕ) (rs opts : List (Record RData)) (edns : Option EdnsFields) (signature : Option (Record TSIG)) → AllByRecursion IsPlainRecord rs → OptWritten bytes place opts edns n next
    → AdditionalSection (rs ++ opts ++ map tsig_record (option_to_list signature)) rs edns signature
section_made bytes place next n rs opts edns signature plain o =
    let s = section_sorted rs plain in
    record {
      unsigned = rs ++ opts;
      opts = opts;
      signature_last = refl;
      one_signature = filter-append is_tsig rs opts ∙ rw (s.unsigned, o.unsigned) refl;
      opt_records = filter-append is_opt rs opts ∙ rw (s.no_opt, o.all_opt) refl;
      others = sym (filter-append (λ r. not (is_opt r)) rs opts ∙ rw (s.all_other, o.none_other) (append-nil rs));
      one_opt = o.says;
    }
