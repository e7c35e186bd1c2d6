-- A TTL is in force, or none is, whichever way the data of a record are told.
use Rattle.std.proofs.Common.{◌≡◌, ◌∙◌, ℕ, Bool, true, false, Option, Some, None, refl, arith}
use Rattle.std.proofs.lemmas.Bool.{eqb-true}
use Rattle.std.specs.Prelude.{◌==◌, if◌then◌else◌}
use Rattle.wire_messages.specs.declared.rr.rdata.RData.{RData}
use Rattle.wire_messages.specs.declared.rr.rdata.RData.TheVariants as rdata
use Rattle.wire_messages.specs.rr.RecordData.{type_of}
use Rattle.zone_text.specs.ZoneFiles.{ttl_in_force, zone_minimum}

abbrev least : Bool → Option ℕ
least b = if b then Some 0 else None

none_least : (b : Bool) → b ≡ true → least b ≡ None → ⊥
none_least true is e = cc
none_least false is e = cc

some_least : (b : Bool) (m : ℕ) → least b ≡ Some m → b ≡ true
some_least true m e = refl
some_least false m e = absurd (cc)

is_six : (code : ℕ) → code ≡ 6 → (code == 6) ≡ true
is_six code e = rw e refl

-- only data of another type than 6 have no last number
pub no_minimum : (content : RData) → zone_minimum content ≡ None → type_of content ≡ 6 → ⊥
no_minimum (rdata.A address) none six = omega (arith, six)
no_minimum (rdata.AAAA address) none six = omega (arith, six)
no_minimum (rdata.NS name) none six = omega (arith, six)
no_minimum (rdata.CNAME name) none six = omega (arith, six)
no_minimum (rdata.PTR name) none six = omega (arith, six)
no_minimum (rdata.MX mx) none six = omega (arith, six)
no_minimum (rdata.SOA soa) none six = cc
no_minimum (rdata.TXT strings) none six = omega (arith, six)
no_minimum (rdata.OPT options) none six = omega (arith, six)
no_minimum (rdata.TSIG signature) none six = omega (arith, six)
no_minimum (rdata.NULL octets) none six = omega (arith, six)
no_minimum (rdata.Update0 code) none six = none_least (code == 6) (is_six code six) none
no_minimum (rdata.Unknown code octets) none six = none_least (code == 6) (is_six code six) none

pub minimum_type : (content : RData) (m : ℕ) → zone_minimum content ≡ Some m → type_of content ≡ 6
minimum_type (rdata.A address) m some = absurd (cc)
minimum_type (rdata.AAAA address) m some = absurd (cc)
minimum_type (rdata.NS name) m some = absurd (cc)
minimum_type (rdata.CNAME name) m some = absurd (cc)
minimum_type (rdata.PTR name) m some = absurd (cc)
minimum_type (rdata.MX mx) m some = absurd (cc)
minimum_type (rdata.SOA soa) m some = refl
minimum_type (rdata.TXT strings) m some = absurd (cc)
minimum_type (rdata.OPT options) m some = absurd (cc)
minimum_type (rdata.TSIG signature) m some = absurd (cc)
minimum_type (rdata.NULL octets) m some = absurd (cc)
minimum_type (rdata.Update0 code) m some = eqb-true code 6 (some_least (code == 6) m some)
minimum_type (rdata.Unknown code octets) m some = eqb-true code 6 (some_least (code == 6) m some)

-- where no TTL is in force with one minimum, and one is with another, that is this one
pub only_minimum : (own default last one other : Option ℕ) (ttl : ℕ) → ttl_in_force own default last one ≡ None → ttl_in_force own default last other ≡ Some ttl → (one ≡ None) × (other ≡ Some ttl)
only_minimum (Some n) default last one other ttl none some = absurd (cc)
only_minimum None (Some n) last one other ttl none some = absurd (cc)
only_minimum None None (Some n) one other ttl none some = absurd (cc)
only_minimum None None None one other ttl none some = (none, some)

pub no_ttl : (a b : RData) (own default last : Option ℕ) (ttl : ℕ) → type_of a ≡ type_of b → ttl_in_force own default last (zone_minimum a) ≡ None → ttl_in_force own default last (zone_minimum b) ≡ Some ttl → ⊥
no_ttl a b own default last ttl same none some =
    let both = only_minimum own default last (zone_minimum a) (zone_minimum b) ttl none some in
    no_minimum a both.0 (same ∙ minimum_type b ttl both.1)
