-- Resource records and questions as they are read, with the first fault that is met (RFC 1035 sections 4.1.2 and
-- 4.1.3).
use Rattle.std.specs.Prelude.{ℕ, zero, suc, ◌+◌, ◌-◌, ◌*◌, ◌^◌, List, [], ◌∷◌, length, take, drop, Option, Some, None, option_map, unwrap_or, Ok, Err, nat_lt, ◌==◌, ◌&&◌, not, if◌then◌else◌}
use Rattle.std.specs.Int.{w16, w32}
use Rattle.wire_messages.specs.Numbers.{type_a, type_aaaa, type_cname, type_mx, type_ns, type_null, type_opt, type_ptr, type_soa, type_tsig, type_txt}
use Rattle.wire_messages.specs.rr.Addresses.{ipv4_of, ipv6_of}
use Rattle.wire_messages.specs.serialize.reading.Cursor.{Cursor}
use Rattle.wire_messages.specs.serialize.reading.Reading.{Read, ◌>>=◌, number, octets, rest_of, moved}
use Rattle.wire_messages.specs.serialize.reading.OptionReading.{option_code, option_len, ends_early}
use Rattle.wire_messages.specs.serialize.reading.NameReading.{name}
use Rattle.wire_names.specs.declared.error.DecodeError.TheVariants.{InsufficientBytes, IncorrectDataLength}
use Rattle.wire_messages.specs.declared.op.edns.EdnsOption.{EdnsOption}
use Rattle.wire_messages.specs.declared.op.query.Query.{Query}
use Rattle.wire_messages.specs.declared.rr.rdata.RData.{RData}
use Rattle.wire_messages.specs.declared.rr.rdata.RData.TheVariants as rdata
use Rattle.wire_messages.specs.declared.rr.record.Proof.TheVariants.{Indeterminate}
use Rattle.wire_messages.specs.declared.rr.record.Record.{Record}

abbrev pub first_byte : List ℕ → ℕ
first_byte [] = 0
first_byte (b ∷ bs) = b

-- a byte
abbrev pub byte : Cursor → Read ℕ
byte c = if nat_lt (length (rest_of c)) 1 then Err InsufficientBytes else Ok (first_byte (rest_of c), moved c 1)

-- a length byte, and that many bytes
unfoldable pub string : Cursor → Read (List ℕ)
string c = do
  n ← byte c
  octets n.0 n.1

-- strings until a place is reached
unfoldable pub strings_within : ℕ → ℕ → Cursor → Read (List (List ℕ))
strings_within zero stop c = Ok ([], c)
strings_within (suc fuel) stop c =
    if nat_lt c.place stop then (string c >>= λ s. strings_within fuel stop s.1 >>= λ others. Ok (s.0 ∷ others.0, others.1)) else Ok ([], c)

unfoldable pub strings_until : ℕ → Cursor → Read (List (List ℕ))
strings_until stop c = strings_within (stop - c.place) stop c

-- the options that octets are made of, if they are
unfoldable pub options_within : ℕ → List ℕ → Option (List EdnsOption)
options_within fuel [] = Some []
options_within zero (b ∷ bs) = None
options_within (suc fuel) (b ∷ bs) =
    if ends_early (b ∷ bs) then None
    else option_map (λ others. record { code = option_code (b ∷ bs); bytes = take (option_len (b ∷ bs)) (drop 4 (b ∷ bs)) } ∷ others)
    (options_within fuel (drop (option_len (b ∷ bs)) (drop 4 (b ∷ bs))))

-- those options, or none
unfoldable pub options_of : List ℕ → List EdnsOption
options_of bytes = unwrap_or (options_within (length bytes) bytes) []

unfoldable pub soa : Cursor → Read RData
soa c = do
  mname ← name c
  rname ← name mname.1
  serial ← number w32 rname.1
  refresh ← number w32 serial.1
  retry ← number w32 refresh.1
  expire ← number w32 retry.1
  minimum ← number w32 expire.1
  Ok (rdata.SOA (record { mname = mname.0; rname = rname.0; serial = serial.0; refresh = refresh.0; retry = retry.0; expire = expire.0; minimum = minimum.0 }), minimum.1)

unfoldable pub mx : Cursor → Read RData
mx c = do
  preference ← number w16 c
  exchange ← name preference.1
  Ok (rdata.MX (record { preference = preference.0; exchange = exchange.0 }), exchange.1)

-- a length of two bytes, and that many bytes
unfoldable pub counted_octets : Cursor → Read (List ℕ)
counted_octets c = do
  n ← number w16 c
  octets n.0 n.1

unfoldable pub tsig : Cursor → Read RData
tsig c = do
  algorithm ← name c
  high ← number w16 algorithm.1
  low ← number w32 high.1
  fudge ← number w16 low.1
  mac ← counted_octets fudge.1
  oid ← number w16 mac.1
  error ← number w16 oid.1
  other ← counted_octets error.1
  Ok (rdata.TSIG (record { algorithm = algorithm.0; time = high.0 * 2 ^ 32 + low.0; fudge = fudge.0; mac = mac.0; oid = oid.0; error = error.0; other = other.0 }), other.1)

-- data of a type, of so many bytes, in the type's form
unfoldable pub form : ℕ → ℕ → Cursor → Read RData
form kind len c =
    if kind == type_a then (octets 4 c >>= λ x. Ok (rdata.A (ipv4_of x.0), x.1))
    else (if kind == type_aaaa then (octets 16 c >>= λ x. Ok (rdata.AAAA (ipv6_of x.0), x.1))
    else (if kind == type_ns then (name c >>= λ x. Ok (rdata.NS x.0, x.1))
    else (if kind == type_cname then (name c >>= λ x. Ok (rdata.CNAME x.0, x.1))
    else (if kind == type_ptr then (name c >>= λ x. Ok (rdata.PTR x.0, x.1))
    else (if kind == type_mx then mx c
    else (if kind == type_soa then soa c
    else (if kind == type_txt then (strings_until (c.place + len) c >>= λ x. Ok (rdata.TXT x.0, x.1))
    else (if kind == type_opt then (octets len c >>= λ x. Ok (rdata.OPT (options_of x.0), x.1))
    else (if kind == type_tsig then tsig c
    else (if kind == type_null then (octets len c >>= λ x. Ok (rdata.NULL x.0, x.1))
    else (octets len c >>= λ x. Ok (rdata.Unknown kind x.0, x.1))))))))))))

-- Data lie in the message; without a byte they are those of an update, but for OPT and TSIG; and they end where their
-- length says.
unfoldable pub record_data : ℕ → ℕ → Cursor → Read RData
record_data kind len c =
    if nat_lt (length (rest_of c)) len then Err InsufficientBytes
    else (if len == 0 && not (kind == type_opt) && not (kind == type_tsig) then Ok (rdata.Update0 kind, c)
    else (if len == 0 && kind == type_tsig then Err IncorrectDataLength
    else (form kind len c >>= λ x. if x.1.place == c.place + len then Ok x else Err IncorrectDataLength)))

unfoldable pub resource : Cursor → Read (Record RData)
resource c = do
  owner ← name c
  kind ← number w16 owner.1
  class ← number w16 kind.1
  ttl ← number w32 class.1
  len ← number w16 ttl.1
  content ← record_data kind.0 len.0 len.1
  Ok (record { name = owner.0; dns_class = class.0; ttl = ttl.0; rdata = content.0; proof = Indeterminate }, content.1)

unfoldable pub question : Cursor → Read Query
question c = do
  asked ← name c
  kind ← number w16 asked.1
  class ← number w16 kind.1
  Ok (record { name = asked.0; query_type = kind.0; query_class = class.0 }, class.1)
