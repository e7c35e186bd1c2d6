-- A word that does not stand for what a field needs stands for no octets of that field.
use Rattle.std.proofs.Common.{◌≡◌, ◌<◌, ◌≤◌, ◌^◌, ℕ, false, List, [], ◌∷◌, length, Option, Ok}
use Rattle.std.specs.Prelude.{◌≢◌}
use Rattle.std.specs.Net.Grammar.{IsIpv4Text, IsIpv6Text}
use Rattle.std.specs.declared.net.ipv4_addr.Ipv4Addr.{Ipv4Addr}
use Rattle.std.specs.declared.net.ipv6_addr.Ipv6Addr.{Ipv6Addr}
use Rattle.hex.specs.Hex.{decode_of}
use Rattle.std.specs.Int.{w16, to_be_bytes}
use Rattle.wire_names.specs.rr.domain.DomainName.{DomainName, name_len}
use Rattle.record_text.specs.declared.data.field.Field.TheVariants as field
use Rattle.record_text.specs.declared.data.field.Names.{Names}
use Rattle.record_text.specs.declared.data.hex_groups.Group.TheVariants as group
use Rattle.record_text.specs.Groups.{SpellsBase32, SpellsHexGroups, SpellsNsap}
use Rattle.record_text.specs.Moments.{SpellsMoment}
use Rattle.record_text.specs.RecordText.{HasNone, IsField, IsNamed, SpellsType}
use Rattle.record_text.specs.RecordText.IsField.{number8, number16, number32, named8, unnamed8, named16, unnamed16, time, name, string, text, ipv4, ipv6, type, moment, no_gateway, in_digits}
use Rattle.record_text.specs.RecordText.SpellsOctets.{no_salt, salt, hash, eui48, eui64, locator64, nsap}
use Rattle.text_words.specs.declared.words.Word.{Word}
use Rattle.text_words.specs.Spelling.{IsNumber, IsString, Spells, SpellsName, SpellsTime, any_byte}

pub no_number8 : (w : Word) → HasNone (λ n. (w.quoted ≡ false) × IsNumber w.bytes.now n × (n < 2 ^ 8)) → (origin : Option DomainName) → HasNone (IsField origin field.Number8 w)
no_number8 w none origin octets (number8 {n = n} plain is small) = none n (plain, is, small)
no_number8 w none origin octets (in_digits plain spelled) = elim spelled [ ]

pub no_number16 : (w : Word) → HasNone (λ n. (w.quoted ≡ false) × IsNumber w.bytes.now n × (n < 2 ^ 16)) → (origin : Option DomainName) → HasNone (IsField origin field.Number16 w)
no_number16 w none origin octets (number16 {n = n} plain is small) = none n (plain, is, small)
no_number16 w none origin octets (in_digits plain spelled) = elim spelled [ ]

pub no_number32 : (w : Word) → ((n : ℕ) → w.quoted ≡ false → IsNumber w.bytes.now n → n < 2 ^ 32 → ⊥) → (origin : Option DomainName) → HasNone (IsField origin field.Number32 w)
no_number32 w none origin octets (number32 {n = n} plain is small) = none n plain is small
no_number32 w none origin octets (in_digits plain spelled) = elim spelled [ ]

pub no_named8 : (names : Names) (w : Word) → HasNone (IsNamed names w.bytes.now) → ((origin : Option DomainName) → HasNone (IsField origin field.Number8 w)) → (origin : Option DomainName) → HasNone (IsField origin (field.Named8 names) w)
no_named8 names w none other origin octets (named8 {n = n} plain is) = none n is
no_named8 names w none other origin octets (unnamed8 {n = n} plain is small) = other origin (n ∷ []) (number8 plain is small)
no_named8 names w none other origin octets (in_digits plain spelled) = elim spelled [ ]

pub plain_named8 : (names : Names) (w : Word) (origin : Option DomainName) (octets : List ℕ) → IsField origin (field.Named8 names) w octets → w.quoted ≡ false
plain_named8 names w origin octets (named8 plain is) = plain
plain_named8 names w origin octets (unnamed8 plain is small) = plain
plain_named8 names w origin octets (in_digits plain spelled) = elim spelled [ ]

pub no_named16 : (names : Names) (w : Word) → HasNone (IsNamed names w.bytes.now) → ((origin : Option DomainName) → HasNone (IsField origin field.Number16 w)) → (origin : Option DomainName) → HasNone (IsField origin (field.Named16 names) w)
no_named16 names w none other origin octets (named16 {n = n} plain is) = none n is
no_named16 names w none other origin octets (unnamed16 {n = n} plain is small) = other origin (to_be_bytes w16 n) (number16 plain is small)
no_named16 names w none other origin octets (in_digits plain spelled) = elim spelled [ ]

pub plain_named16 : (names : Names) (w : Word) (origin : Option DomainName) (octets : List ℕ) → IsField origin (field.Named16 names) w octets → w.quoted ≡ false
plain_named16 names w origin octets (named16 plain is) = plain
plain_named16 names w origin octets (unnamed16 plain is small) = plain
plain_named16 names w origin octets (in_digits plain spelled) = elim spelled [ ]

pub no_time : (w : Word) → ((n : ℕ) → w.quoted ≡ false → SpellsTime w.bytes.now n → n < 2 ^ 32 → ⊥) → (origin : Option DomainName) → HasNone (IsField origin field.Time w)
no_time w none origin octets (time {n = n} plain is small) = none n plain is small
no_time w none origin octets (in_digits plain spelled) = elim spelled [ ]

pub no_name : (w : Word) (origin : Option DomainName) → ((labels : List (List ℕ)) → w.quoted ≡ false → SpellsName origin w.bytes.now labels → name_len labels ≤ 255 → ⊥) → HasNone (IsField origin field.Name w)
no_name w origin none octets (name {labels = labels} plain is short) = none labels plain is short
no_name w origin none octets (in_digits plain spelled) = elim spelled [ ]

pub no_string : (w : Word) → HasNone (IsString w) → (origin : Option DomainName) → HasNone (IsField origin field.String w)
no_string w none origin octets (string is) = none octets is
no_string w none origin octets (in_digits plain spelled) = elim spelled [ ]

pub no_text : (w : Word) → HasNone (Spells any_byte w.bytes.now) → (origin : Option DomainName) → HasNone (IsField origin field.Text w)
no_text w none origin octets (text is) = none octets is
no_text w none origin octets (in_digits plain spelled) = elim spelled [ ]

pub no_ipv4 : (w : Word) → HasNone (λ (address : Ipv4Addr). (w.quoted ≡ false) × IsIpv4Text w.bytes.now address) → (origin : Option DomainName) → HasNone (IsField origin field.Ipv4 w)
no_ipv4 w none origin octets (ipv4 {address = address} plain is) = none address (plain, is)
no_ipv4 w none origin octets (in_digits plain spelled) = elim spelled [ ]

pub no_ipv6 : (w : Word) → HasNone (λ (address : Ipv6Addr). (w.quoted ≡ false) × IsIpv6Text w.bytes.now address) → (origin : Option DomainName) → HasNone (IsField origin field.Ipv6 w)
no_ipv6 w none origin octets (ipv6 {address = address} plain is) = none address (plain, is)
no_ipv6 w none origin octets (in_digits plain spelled) = elim spelled [ ]

pub no_type : (w : Word) → ((number : ℕ) → w.quoted ≡ false → SpellsType w.bytes.now number → ⊥) → (origin : Option DomainName) → HasNone (IsField origin field.RecordType w)
no_type w none origin octets (type {number = number} plain is) = none number plain is
no_type w none origin octets (in_digits plain spelled) = elim spelled [ ]

pub no_moment : (w : Word) → HasNone (λ n. (w.quoted ≡ false) × SpellsMoment w.bytes.now n) → (origin : Option DomainName) → HasNone (IsField origin field.Moment w)
no_moment w none origin octets (moment {n = n} plain is) = none n (plain, is)
no_moment w none origin octets (in_digits plain spelled) = elim spelled [ ]

pub no_salt_here : (w : Word) → w.bytes.now ≢ 45 ∷ [] → HasNone (λ octets. (w.quoted ≡ false) × (decode_of w.bytes.now ≡ Ok octets) × (length octets < 256)) → (origin : Option DomainName) → HasNone (IsField origin field.Salt w)
no_salt_here w other none origin octets (in_digits plain (no_salt is)) = other is
no_salt_here w other none origin octets (in_digits plain (salt {octets = own} differs is short)) = none own (plain, is, short)

pub plain_salt : (w : Word) (origin : Option DomainName) (octets : List ℕ) → IsField origin field.Salt w octets → w.quoted ≡ false
plain_salt w origin octets (in_digits plain (no_salt is)) = plain
plain_salt w origin octets (in_digits plain (salt differs is short)) = plain

pub no_hash : (w : Word) → HasNone (λ octets. (w.quoted ≡ false) × SpellsBase32 w.bytes.now octets × (length octets < 256)) → (origin : Option DomainName) → HasNone (IsField origin field.Hash w)
no_hash w none origin octets (in_digits plain (hash {octets = own} is short)) = none own (plain, is, short)

pub no_eui48 : (w : Word) → HasNone (λ octets. (w.quoted ≡ false) × SpellsHexGroups 45 group.Octet 6 w.bytes.now octets) → (origin : Option DomainName) → HasNone (IsField origin field.Eui48 w)
no_eui48 w none origin octets (in_digits plain (eui48 is)) = none octets (plain, is)

pub no_eui64 : (w : Word) → HasNone (λ octets. (w.quoted ≡ false) × SpellsHexGroups 45 group.Octet 8 w.bytes.now octets) → (origin : Option DomainName) → HasNone (IsField origin field.Eui64 w)
no_eui64 w none origin octets (in_digits plain (eui64 is)) = none octets (plain, is)

pub no_locator64 : (w : Word) → HasNone (λ octets. (w.quoted ≡ false) × SpellsHexGroups 58 group.Bits16 4 w.bytes.now octets) → (origin : Option DomainName) → HasNone (IsField origin field.Locator64 w)
no_locator64 w none origin octets (in_digits plain (locator64 is)) = none octets (plain, is)

pub no_dot : (w : Word) → (w.quoted ≡ false → w.bytes.now ≡ 46 ∷ [] → ⊥) → (origin : Option DomainName) → HasNone (IsField origin field.NoGateway w)
no_dot w none origin octets (no_gateway plain is) = none plain is
no_dot w none origin octets (in_digits plain spelled) = elim spelled [ ]

pub no_nsap : (w : Word) → HasNone (λ octets. (w.quoted ≡ false) × SpellsNsap w.bytes.now octets) → (origin : Option DomainName) → HasNone (IsField origin field.Nsap w)
no_nsap w none origin octets (in_digits plain (nsap is)) = none octets (plain, is)
