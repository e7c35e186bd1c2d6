-- Data that have a form in bytes fit the length field of sixteen bits.
use Rattle.std.proofs.Common.{◌≡◌, ℕ, ◌^◌, ◌<◌, Bool, true, false, Option, None, Some, arith}
use Rattle.std.specs.Prelude.{if◌then◌else◌}
use Rattle.wire_messages.specs.serialize.writing.RecordSize.{data_len, unwritable_reason, length_fault}
use Rattle.wire_messages.proofs.lemmas.serialize.writing.OctetLengths.{fitted}
use Rattle.wire_names.specs.declared.error.ProtoError.{ProtoError}
use Rattle.wire_messages.specs.declared.rr.rdata.RData.{RData}
use Rattle.wire_messages.specs.declared.rr.rdata.RData.TheVariants as rdata

-- no fault means a length of sixteen bits
pub small_len : (n : ℕ) → length_fault n ≡ None → n < 2 ^ 16
small_len n e = omega (arith, fitted n e)

-- of two faults none means no second one
pub second_none : (b : Bool) (e : ProtoError) (x : Option ProtoError) → (if b then Some e else x) ≡ None → x ≡ None
second_none true e x h = absurd (cc)
second_none false e x h = h

pub small_form : (d : RData) → unwritable_reason d ≡ None → data_len d < 2 ^ 16
small_form (rdata.A a) h = small_len _ h
small_form (rdata.AAAA a) h = small_len _ h
small_form (rdata.NS n) h = small_len _ h
small_form (rdata.CNAME n) h = small_len _ h
small_form (rdata.PTR n) h = small_len _ h
small_form (rdata.MX m) h = small_len _ h
small_form (rdata.SOA s) h = small_len _ h
small_form (rdata.TXT t) h = small_len _ (second_none _ _ _ h)
small_form (rdata.OPT o) h = small_len _ h
small_form (rdata.TSIG t) h = small_len _ (second_none _ _ _ h)
small_form (rdata.NULL o) h = small_len _ h
small_form (rdata.Update0 c) h = small_len _ h
small_form (rdata.Unknown c o) h = small_len _ h
