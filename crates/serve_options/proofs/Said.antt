-- What options say, one after the other.
use Rattle.std.proofs.Common.{◌≡◌, ◌≤◌, ◌<◌, ◌-◌, ◌∙◌, ◌++◌, ◌∷◌, [], ℕ, List, Bool, true, false, append_assoc, cond, drop, get_or, length, map, take, refl, sym, ap, subst, arith, Bor, Option, Some, None}
use Rattle.std.proofs.lemmas.List.{append-nil, map-append, take_rest}
use Rattle.std.proofs.lemmas.Slice.Eq.{bytes_eq-Decides}
use Rattle.std.specs.Prelude.{Contains, codes, is_some, nat_eq, option_map}
use Rattle.std.specs.Cmp.Lexicographic.{pointwise}
use Rattle.std.specs.List.{AllByRecursion, AllZip, filter}
use Rattle.std.specs.Option.{option_to_list}
use Rattle.server_limits.specs.Access.{Network}
use Rattle.server_limits.specs.NetworkTexts.{IsNetworkText}
use Rattle.serve_options.specs.Arguments.{IsBound, IsUpdateText, IsZoneText, Options, OptionsSay, behind, bounds_of, files_of, identifiers_of, key_files_of, no_groups_of, option_names, stands_alone, transfer_keys_of, words_of}
use Rattle.serve_options.specs.declared.arguments.Settings.{Settings}
use Rattle.serve_options.specs.declared.arguments.UpdateArgument.{UpdateArgument}
use Rattle.serve_options.specs.declared.arguments.ZoneArgument.{ZoneArgument}

abbrev pub Text : Type 0
Text = List ℕ

-- the text, where the option is of this name
abbrev pub given : Text → Text → Text → List Text
given name option text = cond (pointwise nat_eq option name) (text ∷ []) []

behind_more : (name : Text) (options : Options) (option text : Text) → behind name (options ++ (option, text) ∷ []) ≡ behind name options ++ given name option text
behind_more name [] option text = last (pointwise nat_eq option name) where
  last : (b : Bool) → map (λ (o : Text × Text). o.1) (cond b ((option, text) ∷ []) []) ≡ cond b (text ∷ []) []
  last true = refl
  last false = refl
behind_more name (o ∷ options) option text = step (pointwise nat_eq o.0 name) (behind_more name options option text) where
  step : (b : Bool) → behind name (options ++ (option, text) ∷ []) ≡ behind name options ++ given name option text
      → map (λ (p : Text × Text). p.1) (cond b (o ∷ filter (λ (p : Text × Text). pointwise nat_eq p.0 name) (options ++ (option, text) ∷ [])) (filter (λ (p : Text × Text). pointwise nat_eq p.0 name) (options ++ (option, text) ∷ [])))
      ≡ map (λ (p : Text × Text). p.1) (cond b (o ∷ filter (λ (p : Text × Text). pointwise nat_eq p.0 name) options) (filter (λ (p : Text × Text). pointwise nat_eq p.0 name) options)) ++ given name option text
  step true more = ap (λ (l : List Text). o.1 ∷ l) more
  step false more = more

-- the words of options, one more behind which a text stands
pub words_more : (options : Options) (option text : Text) → stands_alone option ≡ false → words_of (options ++ (option, text) ∷ []) ≡ words_of options ++ option ∷ text ∷ []
words_more [] option text with_text = rw with_text refl
words_more (o ∷ options) option text with_text = first (stands_alone o.0) (words_more options option text with_text) where
  first : (b : Bool) → words_of (options ++ (option, text) ∷ []) ≡ words_of options ++ option ∷ text ∷ []
      → cond b (o.0 ∷ []) (o.0 ∷ o.1 ∷ []) ++ words_of (options ++ (option, text) ∷ []) ≡ (cond b (o.0 ∷ []) (o.0 ∷ o.1 ∷ []) ++ words_of options) ++ option ∷ text ∷ []
  first true more = ap (λ (l : List Text). o.0 ∷ l) more
  first false more = ap (λ (l : List Text). o.0 ∷ o.1 ∷ l) more

-- the words of options, and `--no-groups`
pub alone_more : (options : Options) → words_of (options ++ (codes "--no-groups", []) ∷ []) ≡ words_of options ++ codes "--no-groups" ∷ []
alone_more [] = refl
alone_more (o ∷ options) = first (stands_alone o.0) (alone_more options) where
  first : (b : Bool) → words_of (options ++ (codes "--no-groups", []) ∷ []) ≡ words_of options ++ codes "--no-groups" ∷ []
      → cond b (o.0 ∷ []) (o.0 ∷ o.1 ∷ []) ++ words_of (options ++ (codes "--no-groups", []) ∷ []) ≡ (cond b (o.0 ∷ []) (o.0 ∷ o.1 ∷ []) ++ words_of options) ++ codes "--no-groups" ∷ []
  first true more = ap (λ (l : List Text). o.0 ∷ l) more
  first false more = ap (λ (l : List Text). o.0 ∷ o.1 ∷ l) more

module _ {A : Type 0} (of : A → Text) (all : List Text) (options : Options) where
  -- The first of the words that are left is `--no-groups`.
  pub alone_taken : (rest : List A) (first : A) (name : Text) → all ≡ words_of options ++ map of rest → 2 ≤ length rest → first ≡ get_or rest 0 first → name ≡ of first
      → pointwise nat_eq name (codes "--no-groups") ≡ true
      → all ≡ words_of (options ++ (codes "--no-groups", []) ∷ []) ++ map of (take (length rest - 1) (drop 1 rest))
  alone_taken [] first name are some is named tested = absurd (omega arith)
  alone_taken (x ∷ xs) first name are some is named tested =
      let same : of x ≡ codes "--no-groups" = ap of (sym is) ∙ sym named ∙ (bytes_eq-Decides name (codes "--no-groups")).0 tested in
      are ∙ ap (λ (n : Text). words_of options ++ n ∷ map of xs) same ∙ sym (append_assoc (words_of options) (codes "--no-groups" ∷ []) (map of xs)) ∙ ap (λ (l : List Text). l ++ map of xs) (sym (alone_more options))
      ∙ ap (λ (l : List A). words_of (options ++ (codes "--no-groups", []) ∷ []) ++ map of l) (sym (take_rest (x ∷ xs) 1))

  -- The first of them is an option behind which a text stands.
  pub with_text_taken : (rest : List A) (first second : A) (name text : Text) → all ≡ words_of options ++ map of rest → 2 ≤ length rest → first ≡ get_or rest 0 first → second ≡ get_or rest 1 second
      → name ≡ of first → text ≡ of second → pointwise nat_eq name (codes "--no-groups") ≡ false
      → all ≡ words_of (options ++ (name, text) ∷ []) ++ map of (take (length rest - 2) (drop 2 rest))
  with_text_taken [] first second name text are some is next named spelled tested = absurd (omega arith)
  with_text_taken (x ∷ []) first second name text are some is next named spelled tested = absurd (omega arith)
  with_text_taken (x ∷ y ∷ xs) first second name text are some is next named spelled tested =
      are ∙ ap (λ (n : Text). words_of options ++ n ∷ of y ∷ map of xs) (ap of (sym is) ∙ sym named) ∙ ap (λ (n : Text). words_of options ++ name ∷ n ∷ map of xs) (ap of (sym next) ∙ sym spelled)
      ∙ sym (append_assoc (words_of options) (name ∷ text ∷ []) (map of xs)) ∙ ap (λ (l : List Text). l ++ map of xs) (sym (words_more options name text tested))
      ∙ ap (λ (l : List A). words_of (options ++ (name, text) ∷ []) ++ map of l) (sym (take_rest (x ∷ y ∷ xs) 2))

-- The one word that is left.
pub last_word : {A : Type 0} (of : A → Text) (rest : List A) (last : A) (word : Text) → 1 ≤ length rest → length rest < 2 → last ≡ get_or rest 0 last → of last ≡ word → map of rest ≡ word ∷ []
last_word of [] last word some few is named = absurd (omega arith)
last_word of (x ∷ []) last word some few is named = ap (λ (w : Text). w ∷ []) (ap of (sym is) ∙ named)
last_word of (x ∷ y ∷ xs) last word some few is named = absurd (omega arith)

known_more : (options : Options) (option text : Text) → AllByRecursion (λ (o : Text × Text). Contains option_names o.0) options → Contains option_names option
    → AllByRecursion (λ (o : Text × Text). Contains option_names o.0) (options ++ (option, text) ∷ [])
known_more [] option text all one = (one, tt)
known_more (o ∷ options) option text all one = (all.0, known_more options option text all.1 one)

pub zip_more : {A B : Type 0} (R : A → B → Type 0) (xs more : List A) (ys others : List B) → AllZip R xs ys → AllZip R more others → AllZip R (xs ++ more) (ys ++ others)
zip_more R [] more [] others all behind_them = behind_them
zip_more R [] more (y ∷ ys) others all behind_them = absurd all
zip_more R (x ∷ xs) more [] others all behind_them = absurd all
zip_more R (x ∷ xs) more (y ∷ ys) others all behind_them = (all.0, zip_more R xs more ys others all.1 behind_them)

-- a list grows by what texts spell
pub record Grows {B : Type 0} (R : Text → B → Type 0) (texts : List Text) (old new : List B) : Type 0 where
  pub more : List B
  pub are : new ≡ old ++ more
  pub all : AllZip R texts more

-- how the settings grow by an option
pub record Gives (option text : Text) (old new : Settings) : Type 0 where
  pub known : Contains option_names option
  pub more_zones : List ZoneArgument
  pub zones_are : new.zones.items ≡ old.zones.items ++ more_zones
  pub zones : AllZip IsZoneText (given (codes "--zone") option text) more_zones
  pub files : files_of new ≡ files_of old ++ given (codes "--blocklist") option text
  pub allowed : Grows IsNetworkText (given (codes "--allow") option text) old.allowed.items new.allowed.items
  pub denied : Grows IsNetworkText (given (codes "--deny") option text) old.denied.items new.denied.items
  pub transfers_allowed : Grows IsNetworkText (given (codes "--allow-transfer") option text) old.transfers_allowed.items new.transfers_allowed.items
  pub transfers_denied : Grows IsNetworkText (given (codes "--deny-transfer") option text) old.transfers_denied.items new.transfers_denied.items
  pub identifiers : identifiers_of new ≡ identifiers_of old ++ given (codes "--nsid") option text
  pub more_bounds : List ℕ
  pub bounds_are : bounds_of new ≡ bounds_of old ++ more_bounds
  pub bounds : AllZip IsBound (given (codes "--max-udp") option text) more_bounds
  pub key_files : key_files_of new ≡ key_files_of old ++ given (codes "--keys") option text
  pub transfer_keys : transfer_keys_of new ≡ transfer_keys_of old ++ given (codes "--allow-transfer-key") option text
  pub more_updates : List UpdateArgument
  pub updates_are : new.updates.items ≡ old.updates.items ++ more_updates
  pub updates : AllZip IsUpdateText (given (codes "--allow-update") option text) more_updates
  pub more_journals : List ZoneArgument
  pub journals_are : new.journals.items ≡ old.journals.items ++ more_journals
  pub journals : AllZip IsZoneText (given (codes "--journal") option text) more_journals
  pub no_groups : no_groups_of new ≡ no_groups_of old ++ given (codes "--no-groups") option text

kept : {X : Type 0} (xs ys : List X) → ys ≡ xs → ys ≡ xs ++ []
kept xs ys same = same ∙ sym (append-nil xs)

none_more : (xs ys : List Network) → ys ≡ xs → Grows IsNetworkText [] xs ys
none_more xs ys same = record { more = []; are = kept xs ys same; all = tt }

one_more : (text : Text) (xs ys : List Network) (x : Network) → IsNetworkText text x → ys ≡ xs ++ x ∷ [] → Grows IsNetworkText (text ∷ []) xs ys
one_more text xs ys x spelled same = record { more = x ∷ []; are = same; all = (spelled, tt) }

pub file_more : (files grown : List (Bor Text)) (file : Bor Text) → grown ≡ files ++ file ∷ [] → map (λ (f : Bor Text). f.now) grown ≡ map (λ (f : Bor Text). f.now) files ++ file.now ∷ []
file_more files grown file is = ap (map (λ (f : Bor Text). f.now)) is ∙ map-append (λ (f : Bor Text). f.now) files (file ∷ [])

pub key_more : (keys grown : List (Bor Text × ℕ)) (key : Bor Text × ℕ) → grown ≡ keys ++ key ∷ [] → map (λ (k : Bor Text × ℕ). k.0.now) grown ≡ map (λ (k : Bor Text × ℕ). k.0.now) keys ++ key.0.now ∷ []
key_more keys grown key is = ap (map (λ (k : Bor Text × ℕ). k.0.now)) is ∙ map-append (λ (k : Bor Text × ℕ). k.0.now) keys (key ∷ [])

-- a setting that is there once stands alone
pub first_one : {X Y : Type 0} (was : Option X) (of : X → Y) (now : Y) → is_some was ≡ false → now ∷ [] ≡ option_to_list (option_map of was) ++ now ∷ []
first_one None of now none = refl
first_one (Some x) of now none = absurd cc

pub first_bound : (was : Option ℕ) (now : ℕ) → is_some was ≡ false → now ∷ [] ≡ option_to_list was ++ now ∷ []
first_bound None now none = refl
first_bound (Some x) now none = absurd cc

-- What each option gives: one thing more, where nothing else changes.
module _ (text : Text) (old new : Settings) where
  pub zone_gives : (zone : ZoneArgument) → IsZoneText text zone → new.zones.items ≡ old.zones.items ++ zone ∷ [] → files_of new ≡ files_of old → new.allowed.items ≡ old.allowed.items → new.denied.items ≡ old.denied.items
      → new.transfers_allowed.items ≡ old.transfers_allowed.items → new.transfers_denied.items ≡ old.transfers_denied.items → identifiers_of new ≡ identifiers_of old → bounds_of new ≡ bounds_of old → key_files_of new ≡ key_files_of old → transfer_keys_of new ≡ transfer_keys_of old → new.updates.items ≡ old.updates.items → new.journals.items ≡ old.journals.items → no_groups_of new ≡ no_groups_of old → Gives (codes "--zone") text old new
  zone_gives zone spelled is f a d t u i b k n p j g = record {
    known = (0, omega arith, refl);
    more_zones = zone ∷ [];
    zones_are = is;
    zones = (spelled, tt);
    files = kept _ _ f;
    allowed = none_more _ _ a;
    denied = none_more _ _ d;
    transfers_allowed = none_more _ _ t;
    transfers_denied = none_more _ _ u;
    identifiers = kept _ _ i;
    more_bounds = [];
    bounds_are = kept _ _ b;
    bounds = tt;
    key_files = kept _ _ k;
    transfer_keys = kept _ _ n;
    more_updates = [];
    updates_are = kept _ _ p;
    updates = tt;
    more_journals = [];
    journals_are = kept _ _ j;
    journals = tt;
    no_groups = kept _ _ g;
  }

  pub blocklist_gives : files_of new ≡ files_of old ++ text ∷ [] → new.zones.items ≡ old.zones.items → new.allowed.items ≡ old.allowed.items → new.denied.items ≡ old.denied.items
      → new.transfers_allowed.items ≡ old.transfers_allowed.items → new.transfers_denied.items ≡ old.transfers_denied.items → identifiers_of new ≡ identifiers_of old → bounds_of new ≡ bounds_of old → key_files_of new ≡ key_files_of old → transfer_keys_of new ≡ transfer_keys_of old → new.updates.items ≡ old.updates.items → new.journals.items ≡ old.journals.items → no_groups_of new ≡ no_groups_of old → Gives (codes "--blocklist") text old new
  blocklist_gives is z a d t u i b k n p j g = record {
    known = (1, omega arith, refl);
    more_zones = [];
    zones_are = kept _ _ z;
    zones = tt;
    files = is;
    allowed = none_more _ _ a;
    denied = none_more _ _ d;
    transfers_allowed = none_more _ _ t;
    transfers_denied = none_more _ _ u;
    identifiers = kept _ _ i;
    more_bounds = [];
    bounds_are = kept _ _ b;
    bounds = tt;
    key_files = kept _ _ k;
    transfer_keys = kept _ _ n;
    more_updates = [];
    updates_are = kept _ _ p;
    updates = tt;
    more_journals = [];
    journals_are = kept _ _ j;
    journals = tt;
    no_groups = kept _ _ g;
  }

  pub allow_gives : (network : Network) → IsNetworkText text network → new.allowed.items ≡ old.allowed.items ++ network ∷ [] → new.zones.items ≡ old.zones.items → files_of new ≡ files_of old → new.denied.items ≡ old.denied.items
      → new.transfers_allowed.items ≡ old.transfers_allowed.items → new.transfers_denied.items ≡ old.transfers_denied.items → identifiers_of new ≡ identifiers_of old → bounds_of new ≡ bounds_of old → key_files_of new ≡ key_files_of old → transfer_keys_of new ≡ transfer_keys_of old → new.updates.items ≡ old.updates.items → new.journals.items ≡ old.journals.items → no_groups_of new ≡ no_groups_of old → Gives (codes "--allow") text old new
  allow_gives network spelled is z f d t u i b k n p j g = record {
    known = (2, omega arith, refl);
    more_zones = [];
    zones_are = kept _ _ z;
    zones = tt;
    files = kept _ _ f;
    allowed = one_more text _ _ network spelled is;
    denied = none_more _ _ d;
    transfers_allowed = none_more _ _ t;
    transfers_denied = none_more _ _ u;
    identifiers = kept _ _ i;
    more_bounds = [];
    bounds_are = kept _ _ b;
    bounds = tt;
    key_files = kept _ _ k;
    transfer_keys = kept _ _ n;
    more_updates = [];
    updates_are = kept _ _ p;
    updates = tt;
    more_journals = [];
    journals_are = kept _ _ j;
    journals = tt;
    no_groups = kept _ _ g;
  }

  pub deny_gives : (network : Network) → IsNetworkText text network → new.denied.items ≡ old.denied.items ++ network ∷ [] → new.zones.items ≡ old.zones.items → files_of new ≡ files_of old → new.allowed.items ≡ old.allowed.items
      → new.transfers_allowed.items ≡ old.transfers_allowed.items → new.transfers_denied.items ≡ old.transfers_denied.items → identifiers_of new ≡ identifiers_of old → bounds_of new ≡ bounds_of old → key_files_of new ≡ key_files_of old → transfer_keys_of new ≡ transfer_keys_of old → new.updates.items ≡ old.updates.items → new.journals.items ≡ old.journals.items → no_groups_of new ≡ no_groups_of old → Gives (codes "--deny") text old new
  deny_gives network spelled is z f a t u i b k n p j g = record {
    known = (3, omega arith, refl);
    more_zones = [];
    zones_are = kept _ _ z;
    zones = tt;
    files = kept _ _ f;
    allowed = none_more _ _ a;
    denied = one_more text _ _ network spelled is;
    transfers_allowed = none_more _ _ t;
    transfers_denied = none_more _ _ u;
    identifiers = kept _ _ i;
    more_bounds = [];
    bounds_are = kept _ _ b;
    bounds = tt;
    key_files = kept _ _ k;
    transfer_keys = kept _ _ n;
    more_updates = [];
    updates_are = kept _ _ p;
    updates = tt;
    more_journals = [];
    journals_are = kept _ _ j;
    journals = tt;
    no_groups = kept _ _ g;
  }

  pub allow_transfer_gives : (network : Network) → IsNetworkText text network → new.transfers_allowed.items ≡ old.transfers_allowed.items ++ network ∷ [] → new.zones.items ≡ old.zones.items → files_of new ≡ files_of old → new.allowed.items ≡ old.allowed.items
      → new.denied.items ≡ old.denied.items → new.transfers_denied.items ≡ old.transfers_denied.items → identifiers_of new ≡ identifiers_of old → bounds_of new ≡ bounds_of old → key_files_of new ≡ key_files_of old → transfer_keys_of new ≡ transfer_keys_of old → new.updates.items ≡ old.updates.items → new.journals.items ≡ old.journals.items → no_groups_of new ≡ no_groups_of old → Gives (codes "--allow-transfer") text old new
  allow_transfer_gives network spelled is z f a d u i b k n p j g = record {
    known = (4, omega arith, refl);
    more_zones = [];
    zones_are = kept _ _ z;
    zones = tt;
    files = kept _ _ f;
    allowed = none_more _ _ a;
    denied = none_more _ _ d;
    transfers_allowed = one_more text _ _ network spelled is;
    transfers_denied = none_more _ _ u;
    identifiers = kept _ _ i;
    more_bounds = [];
    bounds_are = kept _ _ b;
    bounds = tt;
    key_files = kept _ _ k;
    transfer_keys = kept _ _ n;
    more_updates = [];
    updates_are = kept _ _ p;
    updates = tt;
    more_journals = [];
    journals_are = kept _ _ j;
    journals = tt;
    no_groups = kept _ _ g;
  }

  pub deny_transfer_gives : (network : Network) → IsNetworkText text network → new.transfers_denied.items ≡ old.transfers_denied.items ++ network ∷ [] → new.zones.items ≡ old.zones.items → files_of new ≡ files_of old → new.allowed.items ≡ old.allowed.items
      → new.denied.items ≡ old.denied.items → new.transfers_allowed.items ≡ old.transfers_allowed.items → identifiers_of new ≡ identifiers_of old → bounds_of new ≡ bounds_of old → key_files_of new ≡ key_files_of old → transfer_keys_of new ≡ transfer_keys_of old → new.updates.items ≡ old.updates.items → new.journals.items ≡ old.journals.items → no_groups_of new ≡ no_groups_of old → Gives (codes "--deny-transfer") text old new
  deny_transfer_gives network spelled is z f a d t i b k n p j g = record {
    known = (5, omega arith, refl);
    more_zones = [];
    zones_are = kept _ _ z;
    zones = tt;
    files = kept _ _ f;
    allowed = none_more _ _ a;
    denied = none_more _ _ d;
    transfers_allowed = none_more _ _ t;
    transfers_denied = one_more text _ _ network spelled is;
    identifiers = kept _ _ i;
    more_bounds = [];
    bounds_are = kept _ _ b;
    bounds = tt;
    key_files = kept _ _ k;
    transfer_keys = kept _ _ n;
    more_updates = [];
    updates_are = kept _ _ p;
    updates = tt;
    more_journals = [];
    journals_are = kept _ _ j;
    journals = tt;
    no_groups = kept _ _ g;
  }

  pub nsid_gives : identifiers_of new ≡ identifiers_of old ++ text ∷ [] → new.zones.items ≡ old.zones.items → files_of new ≡ files_of old → new.allowed.items ≡ old.allowed.items
      → new.denied.items ≡ old.denied.items → new.transfers_allowed.items ≡ old.transfers_allowed.items → new.transfers_denied.items ≡ old.transfers_denied.items → bounds_of new ≡ bounds_of old → key_files_of new ≡ key_files_of old → transfer_keys_of new ≡ transfer_keys_of old → new.updates.items ≡ old.updates.items → new.journals.items ≡ old.journals.items → no_groups_of new ≡ no_groups_of old → Gives (codes "--nsid") text old new
  nsid_gives is z f a d t u b k n p j g = record {
    known = (6, omega arith, refl);
    more_zones = [];
    zones_are = kept _ _ z;
    zones = tt;
    files = kept _ _ f;
    allowed = none_more _ _ a;
    denied = none_more _ _ d;
    transfers_allowed = none_more _ _ t;
    transfers_denied = none_more _ _ u;
    identifiers = is;
    more_bounds = [];
    bounds_are = kept _ _ b;
    bounds = tt;
    key_files = kept _ _ k;
    transfer_keys = kept _ _ n;
    more_updates = [];
    updates_are = kept _ _ p;
    updates = tt;
    more_journals = [];
    journals_are = kept _ _ j;
    journals = tt;
    no_groups = kept _ _ g;
  }

  pub max_udp_gives : (bound : ℕ) → IsBound text bound → bounds_of new ≡ bounds_of old ++ bound ∷ [] → new.zones.items ≡ old.zones.items → files_of new ≡ files_of old → new.allowed.items ≡ old.allowed.items
      → new.denied.items ≡ old.denied.items → new.transfers_allowed.items ≡ old.transfers_allowed.items → new.transfers_denied.items ≡ old.transfers_denied.items → identifiers_of new ≡ identifiers_of old → key_files_of new ≡ key_files_of old → transfer_keys_of new ≡ transfer_keys_of old → new.updates.items ≡ old.updates.items → new.journals.items ≡ old.journals.items → no_groups_of new ≡ no_groups_of old → Gives (codes "--max-udp") text old new
  max_udp_gives bound spelled is z f a d t u i k n p j g = record {
    known = (7, omega arith, refl);
    more_zones = [];
    zones_are = kept _ _ z;
    zones = tt;
    files = kept _ _ f;
    allowed = none_more _ _ a;
    denied = none_more _ _ d;
    transfers_allowed = none_more _ _ t;
    transfers_denied = none_more _ _ u;
    identifiers = kept _ _ i;
    more_bounds = bound ∷ [];
    bounds_are = is;
    bounds = (spelled, tt);
    key_files = kept _ _ k;
    transfer_keys = kept _ _ n;
    more_updates = [];
    updates_are = kept _ _ p;
    updates = tt;
    more_journals = [];
    journals_are = kept _ _ j;
    journals = tt;
    no_groups = kept _ _ g;
  }

  pub keys_gives : key_files_of new ≡ key_files_of old ++ text ∷ [] → new.zones.items ≡ old.zones.items → files_of new ≡ files_of old → new.allowed.items ≡ old.allowed.items → new.denied.items ≡ old.denied.items
      → new.transfers_allowed.items ≡ old.transfers_allowed.items → new.transfers_denied.items ≡ old.transfers_denied.items → identifiers_of new ≡ identifiers_of old → bounds_of new ≡ bounds_of old → transfer_keys_of new ≡ transfer_keys_of old → new.updates.items ≡ old.updates.items → new.journals.items ≡ old.journals.items → no_groups_of new ≡ no_groups_of old → Gives (codes "--keys") text old new
  keys_gives is z f a d t u i b n p j g = record {
    known = (8, omega arith, refl);
    more_zones = [];
    zones_are = kept _ _ z;
    zones = tt;
    files = kept _ _ f;
    allowed = none_more _ _ a;
    denied = none_more _ _ d;
    transfers_allowed = none_more _ _ t;
    transfers_denied = none_more _ _ u;
    identifiers = kept _ _ i;
    more_bounds = [];
    bounds_are = kept _ _ b;
    bounds = tt;
    key_files = is;
    transfer_keys = kept _ _ n;
    more_updates = [];
    updates_are = kept _ _ p;
    updates = tt;
    more_journals = [];
    journals_are = kept _ _ j;
    journals = tt;
    no_groups = kept _ _ g;
  }

  pub transfer_key_gives : transfer_keys_of new ≡ transfer_keys_of old ++ text ∷ [] → new.zones.items ≡ old.zones.items → files_of new ≡ files_of old → new.allowed.items ≡ old.allowed.items → new.denied.items ≡ old.denied.items
      → new.transfers_allowed.items ≡ old.transfers_allowed.items → new.transfers_denied.items ≡ old.transfers_denied.items → identifiers_of new ≡ identifiers_of old → bounds_of new ≡ bounds_of old → key_files_of new ≡ key_files_of old → new.updates.items ≡ old.updates.items → new.journals.items ≡ old.journals.items → no_groups_of new ≡ no_groups_of old → Gives (codes "--allow-transfer-key") text old new
  transfer_key_gives is z f a d t u i b k p j g = record {
    known = (9, omega arith, refl);
    more_zones = [];
    zones_are = kept _ _ z;
    zones = tt;
    files = kept _ _ f;
    allowed = none_more _ _ a;
    denied = none_more _ _ d;
    transfers_allowed = none_more _ _ t;
    transfers_denied = none_more _ _ u;
    identifiers = kept _ _ i;
    more_bounds = [];
    bounds_are = kept _ _ b;
    bounds = tt;
    key_files = kept _ _ k;
    transfer_keys = is;
    more_updates = [];
    updates_are = kept _ _ p;
    updates = tt;
    more_journals = [];
    journals_are = kept _ _ j;
    journals = tt;
    no_groups = kept _ _ g;
  }

  pub update_gives : (update : UpdateArgument) → IsUpdateText text update → new.updates.items ≡ old.updates.items ++ update ∷ [] → new.zones.items ≡ old.zones.items → files_of new ≡ files_of old → new.allowed.items ≡ old.allowed.items
      → new.denied.items ≡ old.denied.items → new.transfers_allowed.items ≡ old.transfers_allowed.items → new.transfers_denied.items ≡ old.transfers_denied.items → identifiers_of new ≡ identifiers_of old → bounds_of new ≡ bounds_of old → key_files_of new ≡ key_files_of old → transfer_keys_of new ≡ transfer_keys_of old → new.journals.items ≡ old.journals.items → no_groups_of new ≡ no_groups_of old → Gives (codes "--allow-update") text old new
  update_gives update spelled is z f a d t u i b k n j g = record {
    known = (10, omega arith, refl);
    more_zones = [];
    zones_are = kept _ _ z;
    zones = tt;
    files = kept _ _ f;
    allowed = none_more _ _ a;
    denied = none_more _ _ d;
    transfers_allowed = none_more _ _ t;
    transfers_denied = none_more _ _ u;
    identifiers = kept _ _ i;
    more_bounds = [];
    bounds_are = kept _ _ b;
    bounds = tt;
    key_files = kept _ _ k;
    transfer_keys = kept _ _ n;
    more_updates = update ∷ [];
    updates_are = is;
    updates = (spelled, tt);
    more_journals = [];
    journals_are = kept _ _ j;
    journals = tt;
    no_groups = kept _ _ g;
  }

  pub journal_gives : (journal : ZoneArgument) → IsZoneText text journal → new.journals.items ≡ old.journals.items ++ journal ∷ [] → new.zones.items ≡ old.zones.items → files_of new ≡ files_of old → new.allowed.items ≡ old.allowed.items
      → new.denied.items ≡ old.denied.items → new.transfers_allowed.items ≡ old.transfers_allowed.items → new.transfers_denied.items ≡ old.transfers_denied.items → identifiers_of new ≡ identifiers_of old → bounds_of new ≡ bounds_of old → key_files_of new ≡ key_files_of old → transfer_keys_of new ≡ transfer_keys_of old → new.updates.items ≡ old.updates.items → no_groups_of new ≡ no_groups_of old → Gives (codes "--journal") text old new
  journal_gives journal spelled is z f a d t u i b k n p g = record {
    known = (11, omega arith, refl);
    more_zones = [];
    zones_are = kept _ _ z;
    zones = tt;
    files = kept _ _ f;
    allowed = none_more _ _ a;
    denied = none_more _ _ d;
    transfers_allowed = none_more _ _ t;
    transfers_denied = none_more _ _ u;
    identifiers = kept _ _ i;
    more_bounds = [];
    bounds_are = kept _ _ b;
    bounds = tt;
    key_files = kept _ _ k;
    transfer_keys = kept _ _ n;
    more_updates = [];
    updates_are = kept _ _ p;
    updates = tt;
    more_journals = journal ∷ [];
    journals_are = is;
    journals = (spelled, tt);
    no_groups = kept _ _ g;
  }

-- So does `--no-groups`, behind which nothing stands.
pub no_groups_gives : (old : Settings) → old.no_groups ≡ false → Gives (codes "--no-groups") [] old (record old { no_groups = true })
no_groups_gives old none = record {
  known = (12, omega arith, refl);
  more_zones = [];
  zones_are = kept _ _ refl;
  zones = tt;
  files = kept _ _ refl;
  allowed = none_more _ _ refl;
  denied = none_more _ _ refl;
  transfers_allowed = none_more _ _ refl;
  transfers_denied = none_more _ _ refl;
  identifiers = kept _ _ refl;
  more_bounds = [];
  bounds_are = kept _ _ refl;
  bounds = tt;
  key_files = kept _ _ refl;
  transfer_keys = kept _ _ refl;
  more_updates = [];
  updates_are = kept _ _ refl;
  updates = tt;
  more_journals = [];
  journals_are = kept _ _ refl;
  journals = tt;
  no_groups = rw none refl;
}

module _ (options : Options) (option text : Text) (old new : Settings) (say : OptionsSay options old) (gives : Gives option text old new) where
  zipped : {B : Type 0} (R : Text → B → Type 0) (name : Text) (were more are : List B) → are ≡ were ++ more → AllZip R (behind name options) were → AllZip R (given name option text) more
      → AllZip R (behind name (options ++ (option, text) ∷ [])) are
  zipped R name were more are same all one =
      subst (λ (xs : List Text). AllZip R xs are) (sym (behind_more name options option text))
      (subst (AllZip R (behind name options ++ given name option text)) (sym same) (zip_more R (behind name options) (given name option text) were more all one))

  listed : (name : Text) (were are : List Text) → were ≡ behind name options → are ≡ were ++ given name option text → are ≡ behind name (options ++ (option, text) ∷ [])
  listed name were are was is = is ∙ ap (λ (l : List Text). l ++ given name option text) was ∙ sym (behind_more name options option text)

  pub say_more : OptionsSay (options ++ (option, text) ∷ []) new
  say_more = record {
    known = known_more options option text say.known gives.known;
    zones = zipped IsZoneText (codes "--zone") old.zones.items gives.more_zones new.zones.items gives.zones_are say.zones gives.zones;
    blocklists = listed (codes "--blocklist") _ _ say.blocklists gives.files;
    allowed = zipped IsNetworkText (codes "--allow") old.allowed.items gives.allowed.more new.allowed.items gives.allowed.are say.allowed gives.allowed.all;
    denied = zipped IsNetworkText (codes "--deny") old.denied.items gives.denied.more new.denied.items gives.denied.are say.denied gives.denied.all;
    transfers_allowed = zipped IsNetworkText (codes "--allow-transfer") old.transfers_allowed.items gives.transfers_allowed.more new.transfers_allowed.items gives.transfers_allowed.are say.transfers_allowed gives.transfers_allowed.all;
    transfers_denied = zipped IsNetworkText (codes "--deny-transfer") old.transfers_denied.items gives.transfers_denied.more new.transfers_denied.items gives.transfers_denied.are say.transfers_denied gives.transfers_denied.all;
    identifier = listed (codes "--nsid") _ _ say.identifier gives.identifiers;
    max_udp = zipped IsBound (codes "--max-udp") (bounds_of old) gives.more_bounds (bounds_of new) gives.bounds_are say.max_udp gives.bounds;
    keys = listed (codes "--keys") _ _ say.keys gives.key_files;
    transfer_keys = listed (codes "--allow-transfer-key") _ _ say.transfer_keys gives.transfer_keys;
    updates = zipped IsUpdateText (codes "--allow-update") old.updates.items gives.more_updates new.updates.items gives.updates_are say.updates gives.updates;
    journals = zipped IsZoneText (codes "--journal") old.journals.items gives.more_journals new.journals.items gives.journals_are say.journals gives.journals;
    no_groups = listed (codes "--no-groups") _ _ say.no_groups gives.no_groups;
  }
