-- The faults that a record without a form has.
use Rattle.std.proofs.Common.{◌≡◌, ◌⊎◌, inl, inr, ℕ, List, Bool, true, false, Option, Some, None, refl, sym, ◌∙◌}
use Rattle.std.proofs.lemmas.Bool.{cases_lt}
use Rattle.std.specs.Prelude.{if◌then◌else◌, nat_lt, nat_le, length, ◌^◌}
use Rattle.std.specs.List.{list_any}
use Rattle.wire_messages.specs.serialize.writing.RecordSize.{length_fault, unwritable_reason, data_len}
use Rattle.wire_writing.specs.serialize.writing.Writing.{ListFront, ListsWritten}
use Rattle.wire_writing.specs.serialize.writing.Writing.ListsWritten.{none_left, next_list, stuck_list}
use Rattle.wire_names.specs.declared.error.ProtoError.{ProtoError}
use Rattle.wire_names.specs.declared.error.ProtoError.TheVariants.{CharacterDataTooLong, DataTooLong}
use Rattle.wire_messages.specs.declared.rr.rdata.RData.{RData}
use Rattle.wire_messages.specs.declared.rr.rdata.RData.TheVariants as rdata
use Rattle.wire_messages.specs.declared.rr.record.Record.{Record}
use Rattle.wire_messages.proofs.lemmas.serialize.writing.OctetLengths.{fits, too_long}

abbrev pub IsFormFault : ProtoError → Type 0
IsFormFault e = (e ≡ CharacterDataTooLong) ⊎ (e ≡ DataTooLong)

some_is : {A : Type 0} (x y : A) → Some x ≡ Some y → y ≡ x
some_is x y e = cc

length_kind : (len : ℕ) (e : ProtoError) → length_fault len ≡ Some e → IsFormFault e
length_kind len e h = elim (cases_lt 65535 len) [
  | inl lt ↦ inr (some_is DataTooLong e (sym (too_long len lt) ∙ h))
  | inr le ↦ let none : None ≡ Some e = sym (fits len le) ∙ h in absurd cc
]

either : (b : Bool) (kind e : ProtoError) (others : Option ProtoError) → IsFormFault kind → (others ≡ Some e → IsFormFault e) → (if b then Some kind else others) ≡ Some e → IsFormFault e
either true kind e others k rest (h) = let same : e ≡ kind = some_is kind e h in rw same k
either false kind e others k rest h = rest h

-- a record has no form for one of two reasons
pub fault_kinds : (d : RData) (e : ProtoError) → unwritable_reason d ≡ Some e → IsFormFault e
fault_kinds (rdata.TXT strings) e h = either (list_any (λ text. nat_lt 255 (length text)) strings) CharacterDataTooLong e _ (inl refl) (length_kind (data_len (rdata.TXT strings)) e) h
fault_kinds (rdata.TSIG signature) e h = either (nat_le (2 ^ 48) signature.time) DataTooLong e _ (inr refl) (length_kind (data_len (rdata.TSIG signature)) e) h
fault_kinds (rdata.A address) e h = length_kind _ e h
fault_kinds (rdata.AAAA address) e h = length_kind _ e h
fault_kinds (rdata.NS name) e h = length_kind _ e h
fault_kinds (rdata.CNAME name) e h = length_kind _ e h
fault_kinds (rdata.PTR name) e h = length_kind _ e h
fault_kinds (rdata.MX mx) e h = length_kind _ e h
fault_kinds (rdata.SOA soa) e h = length_kind _ e h
fault_kinds (rdata.OPT options) e h = length_kind _ e h
fault_kinds (rdata.NULL octets) e h = length_kind _ e h
fault_kinds (rdata.Update0 code) e h = length_kind 0 e h
fault_kinds (rdata.Unknown code octets) e h = length_kind _ e h

-- so the writing of lists gets stuck for one of them
pub stuck_kinds : {limit : ℕ} {lists : List (List (Record RData))} {old new : List ℕ} {fronts : List ListFront} {fault : Option ProtoError} (e : ProtoError) → ListsWritten limit lists old new fronts fault → fault ≡ Some e → IsFormFault e
stuck_kinds e none_left h = absurd cc
stuck_kinds e (next_list one more) h = stuck_kinds e more h
stuck_kinds e (stuck_list {e = d} one uncut behind) h = let same : e ≡ d = some_is d e h in rw same (fault_kinds one.ends.next.rdata d one.ends.formless)
