-- What the program is started with: options, each with what stands behind it if anything does, and then the mode.
use Rattle.std.specs.Prelude.{◌≡◌, ◌≢◌, ◌⊎◌, ◌==◌, ◌++◌, ◌∷◌, ◌<◌, ◌≤◌, ◌^◌, [], ℕ, Bool, List, None, Contains, codes, if◌then◌else◌, length, map, nat_eq, option_map}
use Rattle.std.specs.Cmp.Lexicographic.{pointwise}
use Rattle.std.specs.List.{AllByRecursion, AllZip, after_first, before_first, filter, flat_map, position_or_len}
use Rattle.std.specs.Option.{option_to_list}
use Rattle.std.specs.Str.Parse.{IsNumeral, digits_value, without_leading_plus}
use Rattle.server_limits.specs.NetworkTexts.{IsNetworkText}
use Rattle.serve_options.specs.declared.arguments.ArgumentFault.{ArgumentFault}
use Rattle.serve_options.specs.declared.arguments.ArgumentFault.TheVariants.{Joined, JournalMode, NoKeys, NoMode, NoValue, NotOnly, Unknown, Value}
use Rattle.serve_options.specs.declared.arguments.Mode.{Mode}
use Rattle.serve_options.specs.declared.arguments.Mode.TheVariants.{Lines, Tcp, Udp}
use Rattle.serve_options.specs.declared.arguments.Settings.{Settings}
use Rattle.serve_options.specs.declared.arguments.UpdateArgument.{UpdateArgument}
use Rattle.serve_options.specs.declared.arguments.Wanted.{Wanted}
use Rattle.serve_options.specs.declared.arguments.Wanted.TheVariants.{File, Key, Network, Number, Rule, Text, Zone}
use Rattle.serve_options.specs.declared.arguments.ZoneArgument.{ZoneArgument}

-- Options in their order, each with what stands behind it.
abbrev pub Options : Type 0
Options = List (List ℕ × List ℕ)

-- Nothing stands behind this option; in the list of options it stands with an empty text.
abbrev pub stands_alone : List ℕ → Bool
stands_alone name = pointwise nat_eq name (codes "--no-groups")

-- their words
abbrev pub words_of : Options → List (List ℕ)
words_of options = flat_map (λ option. if stands_alone option.0 then option.0 ∷ [] else option.0 ∷ option.1 ∷ []) options

-- what stands behind those of this name, in their order
abbrev pub behind : List ℕ → Options → List (List ℕ)
behind name options = map (λ option. option.1) (filter (λ option. pointwise nat_eq option.0 name) options)

-- the names that an option may have
abbrev pub option_names : List (List ℕ)
option_names = codes "--zone" ∷ codes "--blocklist" ∷ codes "--allow" ∷ codes "--deny" ∷ codes "--allow-transfer" ∷ codes "--deny-transfer" ∷ codes "--nsid" ∷ codes "--max-udp"
    ∷ codes "--keys" ∷ codes "--allow-transfer-key" ∷ codes "--allow-update" ∷ codes "--journal" ∷ codes "--no-groups" ∷ []

-- NAME=FILE: the name of a zone stands before the first `=`, 61, and the file behind it.
pub record IsZoneText (text : List ℕ) (zone : ZoneArgument) : Type 0 where
  pub has : position_or_len (λ b. b == 61) text < length text
  pub name : zone.name.now ≡ before_first (λ b. b == 61) text
  pub file : zone.file.now ≡ after_first (λ b. b == 61) text

-- ZONE=RULE: the name of the zone stands before the first `=`, 61, and the rule behind it.
pub record IsUpdateText (text : List ℕ) (update : UpdateArgument) : Type 0 where
  pub has : position_or_len (λ b. b == 61) text < length text
  pub zone : update.zone.now ≡ before_first (λ b. b == 61) text
  pub rule : update.rule.now ≡ after_first (λ b. b == 61) text

-- a number from 512 to 65535 in decimal digits, before which a plus may stand
abbrev pub IsBound : List ℕ → ℕ → Type 0
IsBound text bound = IsNumeral 10 (without_leading_plus text) × (digits_value 10 (without_leading_plus text) ≡ bound) × (512 ≤ bound) × (bound < 2 ^ 16)

-- The fault names the option, and says that the word after it is not what is wanted.
abbrev pub IsValueFault : List ℕ → List ℕ → Wanted → ArgumentFault → Type 0
IsValueFault name text what (Value option word wanted) = (option.now ≡ name) × (word.now ≡ text) × (wanted ≡ what)
IsValueFault name text what other = ⊥

-- the options whose value is this
abbrev pub names_with : Wanted → List (List ℕ)
names_with Zone = codes "--zone" ∷ codes "--journal" ∷ []
names_with File = codes "--blocklist" ∷ codes "--keys" ∷ []
names_with Network = codes "--allow" ∷ codes "--deny" ∷ codes "--allow-transfer" ∷ codes "--deny-transfer" ∷ []
names_with Text = codes "--nsid" ∷ []
names_with Number = codes "--max-udp" ∷ []
names_with Key = codes "--allow-transfer-key" ∷ []
names_with Rule = codes "--allow-update" ∷ []

-- the options that have a value
abbrev pub names_with_value : List (List ℕ)
names_with_value = flat_map names_with (Zone ∷ File ∷ Network ∷ Text ∷ Number ∷ Key ∷ Rule ∷ [])

-- What is wrong with a word that is neither an option nor a mode: it is an option, `=`, 61, and a value, or anything else.
abbrev pub IsUnknown : List ℕ → ArgumentFault → Type 0
IsUnknown word (Joined option value) = (option.now ≡ before_first (λ b. b == 61) word) × (value.now ≡ after_first (λ b. b == 61) word)
    × Contains names_with_value option.now
IsUnknown word (Unknown it) = it.now ≡ word
IsUnknown word other = ⊥

-- What is wrong with a word that is not an option with a value after it, nor a mode at the end.
abbrev pub IsWordFault : List ℕ → ArgumentFault → Type 0
IsWordFault word (NotOnly it) = (it.now ≡ word) × Contains (codes "--version" ∷ codes "--help" ∷ codes "-h" ∷ []) word
IsWordFault word NoMode = word ≡ codes "--no-groups"
IsWordFault word (NoValue option wanted) = (option.now ≡ word) × Contains (names_with wanted) word
IsWordFault word fault = IsUnknown word fault × ¬ (Contains names_with_value word)

-- the word for a mode
abbrev pub mode_word : Mode → List ℕ
mode_word Udp = codes "udp"
mode_word Tcp = codes "tcp"
mode_word Lines = codes "lines"

-- the files with lists of blocked names
abbrev pub files_of : Settings → List (List ℕ)
files_of settings = map (λ file. file.now) settings.blocklists.items

-- the identifier, if there is one
abbrev pub identifiers_of : Settings → List (List ℕ)
identifiers_of settings = option_to_list (option_map (λ it. it.0.now) settings.identifier)

-- the bound, if there is one
abbrev pub bounds_of : Settings → List ℕ
bounds_of settings = option_to_list settings.max_udp

-- the file of keys, if there is one
abbrev pub key_files_of : Settings → List (List ℕ)
key_files_of settings = option_to_list (option_map (λ file. file.now) settings.keys)

-- the names of the keys that may have transfers from anywhere
abbrev pub transfer_keys_of : Settings → List (List ℕ)
transfer_keys_of settings = map (λ it. it.0.now) settings.transfer_keys.items

-- `--no-groups`, if it is there: an empty text
abbrev pub no_groups_of : Settings → List (List ℕ)
no_groups_of settings = if settings.no_groups then [] ∷ [] else []

-- What options say: zones, lists, networks, keys, rules of updates and journals are those that the texts behind their
-- options spell, in their order; `--nsid`, `--max-udp`, `--keys` and `--no-groups` stand once at most.
pub record OptionsSay (options : Options) (settings : Settings) : Type 0 where
  pub known : AllByRecursion (λ option. Contains option_names option.0) options
  pub zones : AllZip IsZoneText (behind (codes "--zone") options) settings.zones.items
  pub blocklists : files_of settings ≡ behind (codes "--blocklist") options
  pub allowed : AllZip IsNetworkText (behind (codes "--allow") options) settings.allowed.items
  pub denied : AllZip IsNetworkText (behind (codes "--deny") options) settings.denied.items
  pub transfers_allowed : AllZip IsNetworkText (behind (codes "--allow-transfer") options) settings.transfers_allowed.items
  pub transfers_denied : AllZip IsNetworkText (behind (codes "--deny-transfer") options) settings.transfers_denied.items
  pub identifier : identifiers_of settings ≡ behind (codes "--nsid") options
  pub max_udp : AllZip IsBound (behind (codes "--max-udp") options) (bounds_of settings)
  pub keys : key_files_of settings ≡ behind (codes "--keys") options
  pub transfer_keys : transfer_keys_of settings ≡ behind (codes "--allow-transfer-key") options
  pub updates : AllZip IsUpdateText (behind (codes "--allow-update") options) settings.updates.items
  pub journals : AllZip IsZoneText (behind (codes "--journal") options) settings.journals.items
  pub no_groups : no_groups_of settings ≡ behind (codes "--no-groups") options

-- An option is taken, with what stands behind it: settings that were what options say are what those and it say.
abbrev pub Takes : List ℕ → List ℕ → Settings → Settings → Type 0
Takes option text old new = (options : Options) → OptionsSay options old → OptionsSay (options ++ (option, text) ∷ []) new

-- A journal is written to by one process: there is none but where all messages come as lines of one input.
abbrev pub IsOfOneProcess : Settings → Type 0
IsOfOneProcess settings = (settings.mode ≡ Lines) ⊎ (settings.journals.items ≡ [])

-- There is a file of keys, or no option names a key.
abbrev pub HasKeysForNames : Settings → Type 0
HasKeysForNames settings = (settings.keys ≢ None) ⊎ ((settings.updates.items ≡ []) × (settings.transfer_keys.items ≡ []))

-- The option of the fault names a key, and there is no file of keys.
abbrev pub IsKeysFault : Settings → ArgumentFault → Type 0
IsKeysFault settings (NoKeys option) = (settings.keys ≡ None) × (((option.now ≡ codes "--allow-update") × (settings.updates.items ≢ []))
    ⊎ ((option.now ≡ codes "--allow-transfer-key") × (settings.transfer_keys.items ≢ [])))
IsKeysFault settings other = ⊥

-- What is wrong with options together: a journal is there in another mode than `lines`, or a file of keys is missing.
abbrev pub IsOptionsFault : Settings → ArgumentFault → Type 0
IsOptionsFault settings JournalMode = (settings.mode ≢ Lines) × (settings.journals.items ≢ [])
IsOptionsFault settings fault = IsKeysFault settings fault

-- What the arguments say: they are options, each with what stands behind it if anything does, and the word for the
-- mode.
pub record ArgumentsSay (arguments : List (List ℕ)) (settings : Settings) : Type 0 where
  pub options : Options
  pub words : arguments ≡ words_of options ++ mode_word settings.mode ∷ []
  pub say : OptionsSay options settings
  pub of_one_process : IsOfOneProcess settings
  pub keys : HasKeysForNames settings
