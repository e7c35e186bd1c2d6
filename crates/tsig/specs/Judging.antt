-- How a message is judged by the signature that it carries (RFC 8945 section 5.2).
use Rattle.std.specs.Prelude.{◌≡◌, ℕ, ◌+◌, Bool, false, IsTrue, ◌&&◌, nat_eq, nat_le, nat_lt, List, length, take, bytes_eq, Some}
use Rattle.wire_messages.specs.Numbers.{class_any}
use Rattle.wire_names.specs.rr.domain.DomainName.{DomainName}
use Rattle.wire_names.specs.rr.domain.NameOrder.{name_eq}
use Rattle.wire_messages.specs.declared.rr.record.Record.{Record}
use Rattle.wire_messages.specs.declared.rr.tsig.TSIG.{TSIG}
use Rattle.tsig.specs.Digest.{request_digest, unsigned_message}
use Rattle.tsig.specs.Hmac.{algorithm_name, least_len, mac_len, mac_of}
use Rattle.tsig.specs.Keys.{key_of}
use Rattle.tsig.specs.Standing.{SignedAt, UnsignedAt}
use Rattle.tsig.specs.declared.algorithm.Algorithm.{Algorithm}
use Rattle.tsig.specs.declared.judgement.Judgement.{Judgement}
use Rattle.tsig.specs.declared.judgement.Judgement.TheVariants.{Unsigned, FormErr, Signed}
use Rattle.tsig.specs.declared.judgement.Verdict.TheVariants.{Good, BadKey, BadSig, BadTime, BadTrunc}
use Rattle.tsig.specs.declared.keys.Key.{Key}

-- ---- what is tested

-- The record has the class ANY, 255, and the TTL 0 (section 4.2).
abbrev pub has_fixed_fields : Record TSIG → Bool
has_fixed_fields s = nat_eq s.dns_class class_any && nat_eq s.ttl 0

-- the algorithm's name, letter case aside
abbrev pub is_named : Algorithm → DomainName → Bool
is_named a name = name_eq (algorithm_name a) name

-- A MAC of the algorithm may have this length (section 5.2.2.1).
abbrev pub is_mac_len : Algorithm → ℕ → Bool
is_mac_len a len = nat_le (least_len a) len && nat_le len (mac_len a)

-- The MAC is the one of the text, truncated to its own length (section 5.2.2).
abbrev pub is_mac_of : Key → List ℕ → List ℕ → Bool
is_mac_of key text mac = bytes_eq (take (length mac) (mac_of key.algorithm key.secret text)) mac

-- The moment lies in the fudge around the time, both ends included (section 5.2.3).
abbrev pub is_in_time : TSIG → ℕ → Bool
is_in_time t now = nat_le t.time (now + t.fudge) && nat_le now (t.time + t.fudge)

-- what a request is signed over by a key, where its signature stands at place, the last of so many additional records
abbrev pub signed_text : Key → List ℕ → ℕ → ℕ → Record TSIG → List ℕ
signed_text key bytes additionals place s =
    request_digest key.name (algorithm_name key.algorithm) s.rdata (unsigned_message bytes s.rdata.oid additionals place)

-- ---- the judgement

-- The record has its fixed fields, and names a key and the key's algorithm (section 5.2.1).
pub record HasKey (keys : List Key) (s : Record TSIG) (key : Key) : Type 0 where
  pub fixed : IsTrue (has_fixed_fields s)
  pub found : key_of keys s.name ≡ Some key
  pub algorithm : IsTrue (is_named key.algorithm s.rdata.algorithm)

-- The record names a key, and has a MAC of a length that there is (section 5.2.2.1).
pub record HasMac (keys : List Key) (s : Record TSIG) (key : Key) : Type 0 where
  pub known : HasKey keys s key
  pub len : IsTrue (is_mac_len key.algorithm (length s.rdata.mac))

-- The record names a key, and its MAC is that of what the request is signed over (section 5.2.2).
pub record IsAuthentic (keys : List Key) (bytes : List ℕ) (additionals place : ℕ) (s : Record TSIG) (key : Key) : Type 0 where
  pub has : HasMac keys s key
  pub mac : IsTrue (is_mac_of key (signed_text key bytes additionals place s) s.rdata.mac)

-- The judgement by the TSIG record, in the order of section 5.2: its form, the key, the MAC's length and the MAC, the
-- time, and last the length that local policy demands (section 5.2.4).
pub data JudgedBy (keys : List Key) (bytes : List ℕ) (now additionals place : ℕ) (s : Record TSIG) : Judgement → Type 0 where
  ill_formed : has_fixed_fields s ≡ false → JudgedBy keys bytes now additionals place s FormErr
  bad_key : IsTrue (has_fixed_fields s) → ((key : Key) → HasKey keys s key → ⊥) → JudgedBy keys bytes now additionals place s (Signed s BadKey)
  bad_len : (key : Key) → HasKey keys s key → is_mac_len key.algorithm (length s.rdata.mac) ≡ false → JudgedBy keys bytes now additionals place s FormErr
  bad_sig : (key : Key) → HasMac keys s key → is_mac_of key (signed_text key bytes additionals place s) s.rdata.mac ≡ false → JudgedBy keys bytes now additionals place s (Signed s BadSig)
  bad_time : (key : Key) → IsAuthentic keys bytes additionals place s key → is_in_time s.rdata now ≡ false → JudgedBy keys bytes now additionals place s (Signed s BadTime)
  bad_trunc : (key : Key) → IsAuthentic keys bytes additionals place s key → IsTrue (is_in_time s.rdata now) → IsTrue (nat_lt (length s.rdata.mac) key.shortest) → JudgedBy keys bytes now additionals place s (Signed s BadTrunc)
  good : (key : Key) → IsAuthentic keys bytes additionals place s key → IsTrue (is_in_time s.rdata now) → nat_lt (length s.rdata.mac) key.shortest ≡ false → JudgedBy keys bytes now additionals place s (Signed s Good)

-- The judgement of bytes at a moment, in seconds since 1970. They are a message without a TSIG record; or one whose
-- last record is its only TSIG, and that is judged; or neither, which is a format error: a TSIG stands elsewhere, or
-- there are two, or a record cannot be read (section 5.2).
pub data Judged (keys : List Key) (bytes : List ℕ) (now : ℕ) : Judgement → Type 0 where
  unsigned : (stop : ℕ) → UnsignedAt bytes stop → Judged keys bytes now Unsigned
  signed : (additionals place stop : ℕ) (s : Record TSIG) (judgement : Judgement) → SignedAt bytes additionals place s stop
      → JudgedBy keys bytes now additionals place s judgement → Judged keys bytes now judgement
  malformed : ((stop : ℕ) → UnsignedAt bytes stop → ⊥) → ((additionals place stop : ℕ) (s : Record TSIG) → SignedAt bytes additionals place s stop → ⊥)
      → Judged keys bytes now FormErr
