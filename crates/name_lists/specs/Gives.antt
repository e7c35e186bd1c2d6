-- The names that a line of a list gives.
use Rattle.std.specs.Prelude.{◌≡◌, ℕ, ◌-◌, ◌==◌, ◌||◌, ◌&&◌, nat_eq, Bool, true, false, IsTrue, MatchBool, MatchOption, List, [], ◌∷◌, ◌++◌, length, take, drop, codes, Option, Some, None, map, if◌then◌else◌}
use Rattle.std.specs.Char.{to_ascii_lowercase}
use Rattle.std.specs.List.{list_all, list_any, slice_split, starts_with, ends_with}
use Rattle.std.specs.Str.{bytes_eq}
use Rattle.wire_names.specs.rr.domain.DomainName.{DomainName}
use Rattle.name_lists.specs.Names.{GivesName, GivesBelow, is_address_byte}
use Rattle.name_lists.specs.Words.{words, words_of_line}

abbrev pub is_among : List ℕ → List (List ℕ) → Bool
is_among word entries = list_any (λ entry. bytes_eq entry word) entries

-- the addresses that a hosts file gives to names that shall not be reached
abbrev pub is_sink : List ℕ → Bool
is_sink word = is_among word (words (codes "0.0.0.0 127.0.0.1 :: ::1"))

-- an address as hosts files begin lines with: digits and dots, or what has a colon
abbrev pub is_address : List ℕ → Bool
is_address word = list_all is_address_byte word || list_any (λ b. b == 58) word

-- the names that a hosts file gives to the machine itself and to groups of machines around it
abbrev pub is_local : List ℕ → Bool
is_local word = is_among word (words (codes "localhost localhost.localdomain local broadcasthost 0.0.0.0 ip6-localhost ip6-loopback ip6-localnet ip6-mcastprefix ip6-allnodes ip6-allrouters ip6-allhosts localhost4 localhost4.localdomain4 localhost6 localhost6.localdomain6"))

-- A word of a hosts line behind its address: a local name gives nothing, and only behind a sink's address may any other
-- name stand.
abbrev pub GivesHost : Bool → List ℕ → List DomainName → Type 0
GivesHost is_behind_sink word names = MatchBool (is_local word) (names ≡ []) (IsTrue is_behind_sink × GivesName word names)

-- the words of a hosts line behind its address, one after another
abbrev pub GivesHosts : Bool → List (List ℕ) → List DomainName → Type 0
GivesHosts is_behind_sink [] names = names ≡ []
GivesHosts is_behind_sink (word ∷ more) names =
    (first rest : List DomainName) × GivesHost is_behind_sink word first × GivesHosts is_behind_sink more rest × (names ≡ first ++ rest)

-- the words of a hosts line: an address, and those behind it
abbrev pub GivesHostsLine : List ℕ → List (List ℕ) → List DomainName → Type 0
GivesHostsLine address words names = IsTrue (is_address address) × GivesHosts (is_sink address) words names

-- `||name^` of a filter list: what stands between
abbrev pub filter_name : List ℕ → Option (List ℕ)
filter_name word =
    if starts_with nat_eq word (codes "||") && ends_with nat_eq (drop 2 word) (codes "^")
    then Some (take (length (drop 2 word) - 1) (drop 2 word)) else None

-- The parts of `address=/name/..` or `local=/name/` of dnsmasq's configuration between its slashes: the name. Behind
-- the first form any address may stand, or none.
abbrev pub name_of_option : List (List ℕ) → Option (List ℕ)
name_of_option (key ∷ name ∷ behind ∷ []) = if bytes_eq key (codes "address=") || (bytes_eq key (codes "local=") && (length behind == 0)) then Some name else None
name_of_option _ = None

abbrev pub option_name : List ℕ → Option (List ℕ)
option_name word = name_of_option (slice_split (λ b. b == 47) word)

-- the name that the word of a filter list or of dnsmasq's configuration blocks with all names below it
abbrev pub covered_name : List ℕ → Option (List ℕ)
covered_name word = if starts_with nat_eq word (codes "||") then filter_name word else option_name word

-- a word alone on its line
abbrev pub GivesAlone : List ℕ → List DomainName → Type 0
GivesAlone word names = MatchOption (covered_name word) (GivesHost true word names) (λ name. GivesBelow name names)

-- `CNAME .`, by which a response policy zone says that a name does not exist
abbrev pub is_root_alias : List (List ℕ) → Bool
is_root_alias (kind ∷ target ∷ []) = bytes_eq (map to_ascii_lowercase kind) (codes "cname") && bytes_eq target (codes ".")
is_root_alias _ = false

-- By words: a blank line or a comment; a name alone, as it is or as filter lists and dnsmasq write it; a name of a
-- response policy zone; or a line of a hosts file.
abbrev pub GivesWords : List (List ℕ) → List DomainName → Type 0
GivesWords [] names = names ≡ []
GivesWords (word ∷ []) names = GivesAlone word names
GivesWords (word ∷ next ∷ more) names = MatchBool (is_root_alias (next ∷ more)) (GivesName word names) (GivesHostsLine word (next ∷ more) names)

-- The line gives these names.
abbrev pub Gives : List ℕ → List DomainName → Type 0
Gives line names = GivesWords (words_of_line line) names
