-- A configuration file in TOML 1.1 as a list of settings: each is the name of an option, and a value in text.
use Rattle.std.specs.Prelude.{◌≡◌, ◌⊎◌, ⊤, ◌++◌, ◌∷◌, [], ℕ, ℤ, pos, List, Bool, true, false, Option, Some, None, String, bytes_eq, map, codes, option_map, string_bytes, get_or, cond, take, length, ◌==◌, ◌||◌, ◌&&◌, ◌+◌, ◌-◌, ◌<◌, ◌≤◌}
use Rattle.std.specs.List.{list_any}
use Rattle.std.specs.Str.{IsUtf8}
use Rattle.std.specs.declared.alloc.Global.{Global}
use Rattle.toml.specs.Errors.{span_start}
use Rattle.toml.specs.Parse.{parse_document}
use Rattle.server_settings.specs.declared.fault.SettingsFault.{SettingsFault}
use Rattle.server_settings.specs.declared.fault.SettingsFault.TheVariants as faults
use Rattle.server_settings.specs.declared.reading.Refusal.{Refusal}
use Rattle.server_settings.specs.declared.reading.Refusal.TheVariants.{Unknown, Wrong, Memory}
use Rattle.std.specs.Fmt.{decimal}
use Rattle.server_settings.specs.declared.reading.Setting.{Setting}
use Rattle.toml.specs.Data.{Data, Items, Members, array, get, integer, item, member, no_items, no_members, string, table}

-- a name and a value
abbrev pub Pair : Type 0
Pair = List ℕ × List ℕ

-- what a setting says
abbrev pub said : Setting → Pair
said setting = (string_bytes setting.name, string_bytes setting.value)

-- the digits of a whole number that is not negative
abbrev pub digits_of : ℤ → Option (List ℕ)
digits_of (pos n) = Some (decimal n)
digits_of _ = None

-- what one value is as text: a string is itself, and a whole number its digits
abbrev pub text_of : Data → Option (List ℕ)
text_of (string text) = Some text
text_of (integer z) = digits_of z
text_of _ = None

-- one text more in front, where there are texts
abbrev pub with_text : Option (List ℕ) → Option (List (List ℕ)) → Option (List (List ℕ))
with_text (Some text) (Some texts) = Some (text ∷ texts)
with_text _ _ = None

-- a member of a table as one text
abbrev pub assigned : List ℕ → Option (List ℕ) → Option (List ℕ)
assigned key text = option_map (λ t. key ++ codes "=" ++ t) text

-- the texts of an array, in its order
abbrev pub texts_of_items : Items → Option (List (List ℕ))
texts_of_items no_items = Some []
texts_of_items (item d ds) = with_text (text_of d) (texts_of_items ds)

-- the texts `KEY=TEXT` of a table, in the order of its keys
abbrev pub texts_of_members : Members → Option (List (List ℕ))
texts_of_members no_members = Some []
texts_of_members (member key d ms) = with_text (assigned key (text_of d)) (texts_of_members ms)

-- the values that an option is given: one of a text or a number, one of each item of an array, and one of each member
-- of a table
abbrev pub texts_of : Data → Option (List (List ℕ))
texts_of (array ds) = texts_of_items ds
texts_of (table ms) = texts_of_members ms
texts_of d = with_text (text_of d) (Some [])

-- an option with each of these values
abbrev pub under : List ℕ → List (List ℕ) → List Pair
under name texts = map (λ text. (name, text)) texts

-- settings in front of others, where there are any
abbrev pub join : Option (List Pair) → Option (List Pair) → Option (List Pair)
join (Some front) (Some back) = Some (front ++ back)
join _ _ = None

-- ---- zones, as tables: each has a name, a file, and the rules of who may update what and have it transferred

-- the key is one of three
abbrev pub is_one_of : List ℕ → List ℕ → List ℕ → List ℕ → Bool
is_one_of key a b c = bytes_eq key a || bytes_eq key b || bytes_eq key c

-- no key of a table is any other
abbrev pub has_only : List ℕ → List ℕ → List ℕ → Members → Bool
has_only a b c no_members = true
has_only a b c (member key d ms) = is_one_of key a b c && has_only a b c ms

abbrev pub is_table_of : List ℕ → List ℕ → List ℕ → Data → Bool
is_table_of a b c (table ms) = has_only a b c ms
is_table_of a b c d = false

-- the text under a key of a table; an empty one where there is none
abbrev pub text_or_empty : Option Data → Option (List ℕ)
text_or_empty None = Some []
text_or_empty (Some d) = text_of d

abbrev pub text_at : List ℕ → Data → Option (List ℕ)
text_at key d = text_or_empty (get key d)

-- a word behind a blank, in front of others
abbrev pub with_word : Option (List ℕ) → Option (List ℕ) → Option (List ℕ)
with_word (Some word) (Some words) = Some ((codes " " ++ word) ++ words)
with_word _ _ = None

-- the words of an array, each behind a blank; none where there is no array
abbrev pub words_of : Items → Option (List ℕ)
words_of no_items = Some []
words_of (item d ds) = with_word (text_of d) (words_of ds)

abbrev pub words_in : Option Data → Option (List ℕ)
words_in None = Some []
words_in (Some (array ds)) = words_of ds
words_in (Some d) = None

-- a rule: `ZONE=KEY RULE TYPE..`
abbrev pub update_of : List ℕ → Option (List ℕ) → Option (List ℕ) → Option (List ℕ) → Option (List ℕ)
update_of zone (Some key) (Some rule) (Some types) = Some (((zone ++ codes "=" ++ key) ++ codes " " ++ rule) ++ types)
update_of zone _ _ _ = None

-- the rule of a table: `key`, `rule`, as `subdomain NAME`, and `types`, an array
abbrev pub update_text : List ℕ → Data → Option (List ℕ)
update_text zone d = cond (is_table_of (codes "key") (codes "rule") (codes "types") d)
    (update_of zone (text_at (codes "key") d) (text_at (codes "rule") d) (words_in (get (codes "types") d))) None

-- the rules of an array; none where there is no array
abbrev pub update_texts : List ℕ → Items → Option (List (List ℕ))
update_texts zone no_items = Some []
update_texts zone (item d ds) = with_text (update_text zone d) (update_texts zone ds)

abbrev pub updates_in : List ℕ → Option Data → Option (List (List ℕ))
updates_in zone None = Some []
updates_in zone (Some (array ds)) = update_texts zone ds
updates_in zone (Some d) = None

-- the text `ZONE=TEXT` of a value
abbrev pub rule_text : List ℕ → Data → Option (List ℕ)
rule_text zone d = assigned zone (text_of d)

-- those of an array
abbrev pub rule_texts : List ℕ → Items → Option (List (List ℕ))
rule_texts zone no_items = Some []
rule_texts zone (item d ds) = with_text (rule_text zone d) (rule_texts zone ds)

-- those under a key of a table: a text, or an array; none where there is none
abbrev pub rules_at : List ℕ → Option Data → Option (List (List ℕ))
rules_at zone None = Some []
rules_at zone (Some (array ds)) = rule_texts zone ds
rules_at zone (Some d) = with_text (rule_text zone d) (Some [])

-- the settings of an option that the table of a zone has under its name
abbrev pub rules_in : List ℕ → List ℕ → Data → Option (List Pair)
rules_in option zone d = option_map (under option) (rules_at zone (get option d))

-- the settings of its transfers
abbrev pub transfer_rules : List ℕ → Data → Option (List Pair)
transfer_rules zone d =
    join (join (rules_in (codes "allow-transfer") zone d) (rules_in (codes "deny-transfer") zone d)) (rules_in (codes "allow-transfer-key") zone d)

-- a zone: the setting `zone`, which is `NAME=FILE`, a setting `allow-update` for each of its rules, and those of its
-- transfers
abbrev pub zone_entry : Option (List ℕ) → Option (List ℕ) → Data → Option (List Pair)
zone_entry (Some name) (Some file) d =
    join (join (Some (under (codes "zone") ((name ++ codes "=" ++ file) ∷ []))) (option_map (under (codes "allow-update")) (updates_in name (get (codes "update") d))))
    (transfer_rules name d)
zone_entry _ _ d = None

-- the key is one that the table of a zone may have
abbrev pub is_of_zone : List ℕ → Bool
is_of_zone key = is_one_of key (codes "file") (codes "name") (codes "update") || is_one_of key (codes "allow-transfer") (codes "deny-transfer") (codes "allow-transfer-key")

abbrev pub of_zone_only : Members → Bool
of_zone_only no_members = true
of_zone_only (member key d ms) = is_of_zone key && of_zone_only ms

abbrev pub is_table_of_zone : Data → Bool
is_table_of_zone (table ms) = of_zone_only ms
is_table_of_zone d = false

-- the zone of a table: `name`, `file`, `update`, an array of rules, and `allow-transfer`, `deny-transfer` and
-- `allow-transfer-key`, each a text or an array
abbrev pub zone_of_table : Data → Option (List Pair)
zone_of_table d = cond (is_table_of_zone d) (zone_entry (text_at (codes "name") d) (text_at (codes "file") d) d) None

-- one zone: a table, or a text, which is the value itself
abbrev pub zone_settings : Data → Option (List Pair)
zone_settings (table ms) = zone_of_table (table ms)
zone_settings d = option_map (under (codes "zone")) (with_text (text_of d) (Some []))

-- the zones of an array, in its order
abbrev pub zones_settings : Items → Option (List Pair)
zones_settings no_items = Some []
zones_settings (item d ds) = join (zone_settings d) (zones_settings ds)

-- ---- documents

-- the settings that a member of a document gives: those of zones, where it is an array that is named `zone`, else one
-- for each value
abbrev pub settings_under : List ℕ → Data → Option (List Pair)
settings_under name (array ds) = cond (bytes_eq name (codes "zone")) (zones_settings ds) (option_map (under name) (texts_of_items ds))
settings_under name d = option_map (under name) (texts_of d)

-- the settings of a document, in the order of their names; none where a value is not of these kinds
abbrev pub settings_of : Members → Option (List Pair)
settings_of no_members = Some []
settings_of (member name d ms) = join (settings_under name d) (settings_of ms)

-- there is an option of this name
abbrev pub is_option : List (String Global) → List ℕ → Bool
is_option options name = list_any (λ option. bytes_eq (string_bytes option) name) options

-- every name of the document is that of an option
abbrev pub AreKnown : List (String Global) → Members → Type 0
AreKnown options no_members = ⊤
AreKnown options (member name d ms) = (is_option options name ≡ true) × AreKnown options ms

-- the document has this value under this name
abbrev pub HasMember : List ℕ → Data → Members → Type 0
HasMember name d no_members = ⊥
HasMember name d (member k e ms) = ((k ≡ name) × (e ≡ d)) ⊎ HasMember name d ms

-- the text is a TOML document of these members
abbrev pub IsDocument : List ℕ → Members → Type 0
IsDocument text ms = IsUtf8 text × (parse_document text ≡ Some ms)

-- the text is a document whose names are options, and whose values give these settings
abbrev pub AreSettings : List (String Global) → List ℕ → List Pair → Type 0
AreSettings options text settings = (ms : Members) × IsDocument text ms × AreKnown options ms × (settings_of ms ≡ Some settings)

-- the text is a document that has a name of no option
abbrev pub IsUnknown : List (String Global) → List ℕ → List ℕ → Type 0
IsUnknown options text name = (ms : Members) × (d : Data) × IsDocument text ms × HasMember name d ms × (is_option options name ≡ false)

-- the text is a document that has a value under this name that gives the option none
abbrev pub IsWrong : List ℕ → List ℕ → Type 0
IsWrong text name = (ms : Members) × (d : Data) × IsDocument text ms × HasMember name d ms × (settings_under name d ≡ None)

-- the text is a document that is refused for what it says
abbrev pub IsRefused : List (String Global) → List ℕ → Type 0
IsRefused options text = ((name : List ℕ) × IsUnknown options text name) ⊎ ((name : List ℕ) × IsWrong text name)

-- how many lines end in a text
abbrev pub line_ends : List ℕ → ℕ
line_ends [] = 0
line_ends (byte ∷ text) = cond (byte == 10) 1 0 + line_ends text

-- the line in which the last byte of a text stands, from 1
abbrev pub line_of : List ℕ → ℕ
line_of text = line_ends (take (length text - 1) text) + 1

-- none of the lines before this place ends a front of the text that is refused
abbrev pub NoneRefusedBefore : List (String Global) → List ℕ → ℕ → Type 0
NoneRefusedBefore options text place = (i : ℕ) → i < place → get_or text i 0 ≡ 10 → ¬ (IsRefused options (take (i + 1) text))

-- the front up to this place is the shortest one of whole lines that may be refused
abbrev pub IsShortest : List (String Global) → List ℕ → ℕ → Type 0
IsShortest options text end = (end ≤ length text) × NoneRefusedBefore options text (end - 1)

-- Why a text gives no settings: it is not TOML, and the line is the one where the error begins; or its shortest front
-- of whole lines that is refused has a name of no option, or a value that gives an option none, and the line is the one
-- with which that front ends.
abbrev pub IsFault : List (String Global) → List ℕ → SettingsFault → Type 0
IsFault options text (faults.Syntax error line) =
    ((ms : Members) → ¬ (IsDocument text ms)) × (line ≡ line_ends (take (span_start error) text) + 1)
IsFault options text (faults.UnknownOption name line) =
    (end : ℕ) × IsShortest options text end × IsUnknown options (take end text) (string_bytes name) × (line ≡ line_of (take end text))
IsFault options text (faults.WrongValue name line) =
    (end : ℕ) × IsShortest options text end × IsWrong (take end text) (string_bytes name) × (line ≡ line_of (take end text))
IsFault options text (faults.WrongZone line) =
    (end : ℕ) × IsShortest options text end × IsWrong (take end text) (codes "zone") × (line ≡ line_of (take end text))
IsFault options text faults.Memory = ⊤

-- it is told that a value gives the option of this name none
abbrev pub IsWrongValue : List ℕ → ℕ → SettingsFault → Type 0
IsWrongValue name line (faults.WrongValue told there) = (string_bytes told ≡ name) × (there ≡ line)
IsWrongValue name line (faults.WrongZone there) = (codes "zone" ≡ name) × (there ≡ line)
IsWrongValue name line other = ⊥

-- what a refusal says of a member of a document
abbrev pub IsMemberRefusal : List (String Global) → List ℕ → Data → Refusal → Type 0
IsMemberRefusal options name d (Unknown n) = (string_bytes n ≡ name) × (is_option options name ≡ false)
IsMemberRefusal options name d (Wrong n) = (string_bytes n ≡ name) × (settings_under name d ≡ None)
IsMemberRefusal options name d Memory = ⊤

-- what it says of a document
abbrev pub IsTableRefusal : List (String Global) → Members → Refusal → Type 0
IsTableRefusal options ms refusal = (name : List ℕ) × (d : Data) × HasMember name d ms × IsMemberRefusal options name d refusal

-- what it says of a text
abbrev pub IsRefusal : List (String Global) → List ℕ → Refusal → Type 0
IsRefusal options text (Unknown name) = IsUnknown options text (string_bytes name)
IsRefusal options text (Wrong name) = IsWrong text (string_bytes name)
IsRefusal options text Memory = ⊤

-- a setting as two strings of C, each with the byte 0 behind it
abbrev pub strings : Pair → List ℕ
strings setting = (setting.0 ++ 0 ∷ []) ++ (setting.1 ++ 0 ∷ [])

-- settings so, one behind the other
abbrev pub strings_of : List Pair → List ℕ
strings_of [] = []
strings_of (setting ∷ settings) = strings setting ++ strings_of settings

-- a setting has the byte 0, where C would see the end of its string
abbrev pub has_zero : Pair → Bool
has_zero setting = list_any (λ byte. byte == 0) setting.0 || list_any (λ byte. byte == 0) setting.1

-- a string of C: a text and the byte 0 behind it
abbrev pub ended : List ℕ → List ℕ
ended text = text ++ 0 ∷ []

-- strings of C, one behind the other
abbrev pub ended_strings : List (List ℕ) → List ℕ
ended_strings [] = []
ended_strings (text ∷ texts) = ended text ++ ended_strings texts

-- the bytes are the strings of the settings that the text gives the options
abbrev pub GivesStrings : List (String Global) → List ℕ → List ℕ → Type 0
GivesStrings options text bytes = (settings : List Pair) × AreSettings options text settings × (bytes ≡ strings_of settings)

-- The bytes are the strings of the settings that the text gives options, whose names are strings of C, one behind the
-- other.
abbrev pub IsConfiguration : List ℕ → List ℕ → List ℕ → Type 0
IsConfiguration names text bytes =
    (options : List (String Global)) × (ended_strings (map string_bytes options) ≡ names) × GivesStrings options text bytes
