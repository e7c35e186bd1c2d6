-- Lines that tell queries and what was sent in reply.
use Rattle.std.specs.Prelude.{◌==◌, ◌+◌, ◌*◌, ◌++◌, ◌∷◌, ◌||◌, ◌&&◌, ◌/◌, ◌%◌, ◌<◌, ◌≤◌, ◌^◌, [], ℕ, zero, suc, All, Bool, true, false, List, codes, cond, drop, get_or, nat_le}
use Rattle.std.specs.Fmt.{decimal}
use Rattle.std.specs.Net.Text.{ip_text}
use Rattle.std.specs.declared.net.ip_addr.IpAddr.{IpAddr}

-- ---- names

-- a letter, a digit, 45 (-), 95 (_) or 42 (*), which stands in a line as it is
abbrev pub is_plain : ℕ → Bool
is_plain byte = (nat_le 97 byte && nat_le byte 122) || (nat_le 65 byte && nat_le byte 90) || (nat_le 48 byte && nat_le byte 57) || byte == 45 || byte == 95 || byte == 42

-- a byte of a label in a line: itself, or `\DDD`, by its decimal digits (RFC 1035 section 5.1)
abbrev pub byte_text : ℕ → List ℕ
byte_text byte = cond (is_plain byte) (byte ∷ []) (92 ∷ (48 + byte / 100) ∷ (48 + byte / 10 % 10) ∷ (48 + byte % 10) ∷ [])

-- what stands behind a byte of a label of which so many are left: a dot behind the last
abbrev pub dot_behind : ℕ → List ℕ
dot_behind left = cond (left == 0) (codes ".") []

-- The labels at the front of bytes, each behind its length (RFC 1035 section 3.1), where so many bytes are left of the
-- first: each has a dot behind it. They end with the length 0, or with the bytes.
abbrev pub labels_text : ℕ → List ℕ → List ℕ
labels_text left [] = []
labels_text zero (byte ∷ bytes) = cond (byte == 0) [] (labels_text byte bytes)
labels_text (suc left) (byte ∷ bytes) = (byte_text byte ++ dot_behind left) ++ labels_text left bytes

-- how many bytes they take, with the length 0 that ends them
abbrev pub labels_len : ℕ → List ℕ → ℕ
labels_len left [] = 0
labels_len zero (byte ∷ bytes) = cond (byte == 0) 1 (1 + labels_len byte bytes)
labels_len (suc left) (byte ∷ bytes) = 1 + labels_len left bytes

-- the name at the front of bytes; the root is a dot alone
abbrev pub name_text : List ℕ → List ℕ
name_text bytes = cond (get_or bytes 0 0 == 0) (codes ".") (labels_text 0 bytes)

-- ---- numbers

-- the number of 16 bits at a place, the high byte first; bytes that are not there are 0
abbrev pub number_at : List ℕ → ℕ → ℕ
number_at bytes place = 256 * get_or bytes place 0 + get_or bytes (place + 1) 0

-- the word of a number in a table, and where it has none, another
abbrev pub word_in : List (ℕ × List ℕ) → ℕ → List ℕ → List ℕ
word_in [] number other = other
word_in ((n, word) ∷ more) number other = cond (number == n) word (word_in more number other)

-- types of records by their mnemonics
abbrev pub type_words : List (ℕ × List ℕ)
type_words =
    (1, codes "A") ∷ (2, codes "NS") ∷ (5, codes "CNAME") ∷ (6, codes "SOA") ∷ (12, codes "PTR") ∷ (15, codes "MX") ∷ (16, codes "TXT") ∷
    (28, codes "AAAA") ∷ (33, codes "SRV") ∷ (43, codes "DS") ∷ (48, codes "DNSKEY") ∷ (64, codes "SVCB") ∷ (65, codes "HTTPS") ∷
    (251, codes "IXFR") ∷ (252, codes "AXFR") ∷ (255, codes "ANY") ∷ (257, codes "CAA") ∷ []

-- a type of records; without a mnemonic here it is TYPE and its number (RFC 3597 section 5)
abbrev pub type_text : ℕ → List ℕ
type_text kind = word_in type_words kind (codes "TYPE" ++ decimal kind)

-- a class so
abbrev pub class_text : ℕ → List ℕ
class_text class = word_in ((1, codes "IN") ∷ (255, codes "ANY") ∷ []) class (codes "CLASS" ++ decimal class)

-- the response codes (RFC 1035 section 4.1.1, RFC 2136 section 2.2)
abbrev pub code_words : List (ℕ × List ℕ)
code_words =
    (0, codes "NOERROR") ∷ (1, codes "FORMERR") ∷ (2, codes "SERVFAIL") ∷ (3, codes "NXDOMAIN") ∷ (4, codes "NOTIMP") ∷ (5, codes "REFUSED") ∷
    (6, codes "YXDOMAIN") ∷ (7, codes "YXRRSET") ∷ (8, codes "NXRRSET") ∷ (9, codes "NOTAUTH") ∷ (10, codes "NOTZONE") ∷ []

-- a response code; any other is RCODE and its number
abbrev pub code_text : ℕ → List ℕ
code_text code = word_in code_words code (codes "RCODE" ++ decimal code)

-- ---- lines

abbrev pub transport_text : Bool → List ℕ
transport_text true = codes "tcp"
transport_text false = codes "udp"

-- two words with a blank between
abbrev pub spaced : List ℕ → List ℕ → List ℕ
spaced a b = a ++ codes " " ++ b

-- the class and the type behind a name that takes so many bytes of what stands behind a header
abbrev pub question_text : List ℕ → ℕ → List ℕ
question_text body len = spaced (class_text (number_at body (len + 2))) (type_text (number_at body len))

-- the code in the header of a reply
abbrev pub reply_code : List ℕ → ℕ
reply_code reply = get_or reply 3 0 % 16

-- when a query came, in seconds since 1970, from where, and over what; what stands before its name
abbrev pub front_text : ℕ → IpAddr → Bool → List ℕ
front_text now address stream = spaced (spaced (decimal now) (spaced (ip_text address) (transport_text stream))) []

-- what it asks for, the code of the reply, and a number of bytes; what stands behind its name
abbrev pub back_text : List ℕ → ℕ → List ℕ → ℕ → List ℕ
back_text body len reply size = spaced [] (spaced (question_text body len) (spaced (code_text (reply_code reply)) (decimal size)))

-- all this: a line
abbrev pub query_line : ℕ → IpAddr → Bool → List ℕ → List ℕ → ℕ → List ℕ
query_line now address stream query reply size =
    ((front_text now address stream ++ name_text (drop 12 query)) ++ back_text (drop 12 query) (labels_len 0 (drop 12 query)) reply size) ++ codes "\n"

-- ---- what no message can write

-- a character of ASCII that is seen: no blank, no line feed, no other control
abbrev pub IsVisible : ℕ → Type 0
IsVisible byte = (33 ≤ byte) × (byte ≤ 126)

-- Whatever bytes a message has, what a line says of it are visible characters alone: its name, its class and type,
-- which are numbers of 16 bits, its code. So it neither adds a word to a line nor a line to a log.
abbrev pub WordsAreVisible : Type 0
WordsAreVisible = ((body : List ℕ) → All (λ byte. byte < 256) body → All IsVisible (name_text body))
    × ((number : ℕ) → number < 2 ^ 16 → All IsVisible (class_text number) × All IsVisible (type_text number) × All IsVisible (code_text number))
