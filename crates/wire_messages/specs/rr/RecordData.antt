-- The data of resource records as octets, but for the names in them (RFC 1035 sections 3.3 and 3.4).
use Rattle.std.specs.Prelude.{◌≡◌, ℕ, ◌/◌, ◌%◌, ◌<◌, ◌^◌, List, [], ◌∷◌, ◌++◌, length}
use Rattle.std.specs.List.{AllByRecursion, flat_map}
use Rattle.std.specs.Int.{w16, w32, to_be_bytes}
use Rattle.wire_messages.specs.Numbers.{type_a, type_aaaa, type_cname, type_mx, type_ns, type_null, type_opt, type_ptr, type_soa, type_tsig, type_txt}
use Rattle.wire_messages.specs.declared.op.edns.EdnsOption.{EdnsOption}
use Rattle.wire_messages.specs.declared.rr.rdata.SOA.{SOA}
use Rattle.wire_messages.specs.declared.rr.rdata.RData.{RData}
use Rattle.wire_messages.specs.declared.rr.rdata.RData.TheVariants as rdata
use Rattle.wire_messages.specs.declared.rr.tsig.TSIG.{TSIG}

-- a character string: its length in one octet, and its octets (RFC 1035 section 3.3)
abbrev pub character_string : List ℕ → List ℕ
character_string text = length text ∷ text

-- an option: its code, the length of its data, and its data (RFC 6891 section 6.1.2)
abbrev pub option_octets : EdnsOption → List ℕ
option_octets option = to_be_bytes w16 option.code ++ to_be_bytes w16 (length option.bytes) ++ option.bytes

-- an option whose fields fit the wire
pub record IsOption (option : EdnsOption) : Type 0 where
  pub code : option.code < 2 ^ 16
  pub short : length option.bytes < 2 ^ 16

-- Options that octets hold: those that they are made of, or none where they are not made of options.
pub data OptionsOf (octets : List ℕ) : List EdnsOption → Type 0 where
  well_formed : {options : List EdnsOption} → AllByRecursion IsOption options → octets ≡ flat_map option_octets options → OptionsOf octets options
  malformed : ((options : List EdnsOption) → AllByRecursion IsOption options → octets ≡ flat_map option_octets options → ⊥) → OptionsOf octets []

-- serial, refresh, retry, expire and minimum of an SOA, which stand behind its two names (RFC 1035 section 3.3.13)
abbrev pub soa_numbers : SOA → List ℕ
soa_numbers soa = to_be_bytes w32 soa.serial ++ to_be_bytes w32 soa.refresh ++ to_be_bytes w32 soa.retry ++ to_be_bytes w32 soa.expire ++ to_be_bytes w32 soa.minimum

-- what stands behind the algorithm of a TSIG: the time in 48 bits, fudge, MAC with its length, original id, error, and
-- other data with their length (RFC 8945 section 4.2)
abbrev pub tsig_fields : TSIG → List ℕ
tsig_fields t = to_be_bytes w16 (t.time / 2 ^ 32) ++ to_be_bytes w32 (t.time % 2 ^ 32) ++ to_be_bytes w16 t.fudge ++ to_be_bytes w16 (length t.mac) ++ t.mac
    ++ to_be_bytes w16 t.oid ++ to_be_bytes w16 t.error ++ to_be_bytes w16 (length t.other) ++ t.other

-- the type of data
abbrev pub type_of : RData → ℕ
type_of (rdata.A address) = type_a
type_of (rdata.AAAA address) = type_aaaa
type_of (rdata.NS name) = type_ns
type_of (rdata.CNAME name) = type_cname
type_of (rdata.PTR name) = type_ptr
type_of (rdata.MX exchange) = type_mx
type_of (rdata.SOA soa) = type_soa
type_of (rdata.TXT strings) = type_txt
type_of (rdata.OPT options) = type_opt
type_of (rdata.TSIG signature) = type_tsig
type_of (rdata.NULL octets) = type_null
type_of (rdata.Update0 code) = code
type_of (rdata.Unknown code octets) = code
