-- The text of a file of keys: words as `dig -y` takes them, BIND's `key` statements, and Knot's `key` section.
use Rattle.std.specs.Prelude.{◌≡◌, ◌==◌, ◌||◌, ◌&&◌, ◌++◌, ◌∷◌, [], ℕ, Bool, Contains, IsNone, List, None, Ok, Option, Some, codes, false, is_none, nat_eq, true}
use Rattle.std.specs.Char.{is_ascii_whitespace}
use Rattle.std.specs.List.{slice_split, starts_with}
use Rattle.base64.specs.Engines.{standard}
use Rattle.base64.specs.GeneralPurpose.{decode_of}
use Rattle.wire_names.specs.rr.domain.DomainName.{DomainName}
use Rattle.wire_names.specs.rr.domain.NameText.{IsNameText}
use Rattle.tsig.specs.Hmac.{algorithm_label}
use Rattle.tsig.specs.Keys.{key_of}
use Rattle.tsig.specs.KeyTexts.{IsKeyText, IsUsable}
use Rattle.tsig.specs.declared.algorithm.Algorithm.{Algorithm}
use Rattle.tsig.specs.declared.key_file.Draft.{Draft}
use Rattle.tsig.specs.declared.key_file.Field.{Field}
use Rattle.tsig.specs.declared.key_file.Field.TheVariants as field
use Rattle.tsig.specs.declared.key_file.Reader.{Reader}
use Rattle.tsig.specs.declared.keys.Key.{Key}

-- White space, braces, semicolons and quotes only separate words.
abbrev pub is_separator : ℕ → Bool
is_separator b = is_ascii_whitespace b || b == 123 || b == 125 || b == 59 || b == 34 || b == 39

-- The word after this one is this part of a key.
abbrev pub Announces : List ℕ → Field → Type 0
Announces word field.Name = word ≡ codes "id:"
Announces word field.Algorithm = Contains (codes "algorithm" ∷ codes "algorithm:" ∷ []) word
Announces word field.Secret = Contains (codes "secret" ∷ codes "secret:" ∷ []) word

-- The word is this part of a key: its name, its algorithm, or its secret in base64 (RFC 4648 section 4). The last word of
-- each part counts.
abbrev pub PutsPart : Field → List ℕ → Draft → Draft → Type 0
PutsPart field.Name word old new = (name : DomainName) × IsNameText word name × (new ≡ record old { name = Some name })
PutsPart field.Algorithm word old new = (algorithm : Algorithm) × (word ≡ algorithm_label algorithm) × (new ≡ record old { algorithm = Some algorithm })
PutsPart field.Secret word old new = (secret : List ℕ) × (decode_of standard word ≡ Ok secret) × (new ≡ record old { secret = Some secret })

-- The parts make the key. Its name is fully qualified, with or without a dot at the end of the word. It takes each MAC
-- that RFC 8945 allows.
pub record Makes (draft : Draft) (key : Key) : Type 0 where
  pub name : DomainName
  pub named : draft.name ≡ Some name
  pub qualified : key.name ≡ record name { is_fqdn = true }
  pub algorithm : draft.algorithm ≡ Some key.algorithm
  pub secret : draft.secret ≡ Some key.secret
  pub any_mac : key.shortest ≡ 0

-- The key is added to keys of other names, letter case aside.
pub record Adds (key : Key) (old new : List Key) : Type 0 where
  pub usable : IsUsable key
  pub fresh : IsNone (key_of old key.name)
  pub added : new ≡ old ++ key ∷ []

-- The key that has begun ends, if one has.
abbrev pub Ends : Option Draft → List Key → List Key → Type 0
Ends None old new = new ≡ old
Ends (Some draft) old new = (key : Key) × Makes draft key × Adds key old new

-- A key begins, and the one before it ends. The next word may be this part of it.
pub record Begins (next : Option Field) (old new : Reader) : Type 0 where
  pub line : ℕ
  pub keys : List Key
  pub ends : Ends old.draft old.keys keys
  pub after : new ≡ record { keys = keys; draft = Some (record { line = line; name = None; algorithm = None; secret = None }); awaited = next }

-- The word is this part of the key that has begun.
pub record TakesPart (part : Field) (word : List ℕ) (old new : Reader) : Type 0 where
  pub draft : Draft
  pub next : Draft
  pub begun : old.draft ≡ Some draft
  pub puts : PutsPart part word draft next
  pub after : new ≡ record { keys = old.keys; draft = Some next; awaited = None }

-- What a word between separators is, after the words that were read before it.
pub data TakesWord (old : Reader) (word : List ℕ) (new : Reader) : Type 0 where
  nothing : word ≡ [] → new ≡ old → TakesWord old word new
  part : (part : Field) → old.awaited ≡ Some part → TakesPart part word old new → TakesWord old word new
  statement : old.awaited ≡ None → word ≡ codes "key" → Begins (Some field.Name) old new → TakesWord old word new
  entry : old.awaited ≡ None → word ≡ codes "-" → Begins None old new → TakesWord old word new
  section : old.awaited ≡ None → word ≡ codes "key:" → new ≡ old → TakesWord old word new
  announces : (part : Field) → old.awaited ≡ None → Announces word part → new ≡ record old { awaited = Some part } → TakesWord old word new
  whole : (key : Key) → old.awaited ≡ None → IsKeyText word key → Adds key old.keys new.keys → new ≡ record old { keys = new.keys } → TakesWord old word new

-- A word that begins with `#` or `//`, and is no part of a key, begins a comment.
abbrev pub is_comment : Reader → List ℕ → Bool
is_comment reader word = is_none reader.awaited && (starts_with nat_eq word (codes "#") || starts_with nat_eq word (codes "//"))

-- The words of a line are taken one after the other, up to a comment.
pub data TakesLine : Reader → List (List ℕ) → Reader → Type 0 where
  end : {reader : Reader} → TakesLine reader [] reader
  comment : {reader : Reader} {word : List ℕ} {words : List (List ℕ)} → is_comment reader word ≡ true → TakesLine reader (word ∷ words) reader
  more : {old between new : Reader} {word : List ℕ} {words : List (List ℕ)} → is_comment old word ≡ false → TakesWord old word between → TakesLine between words new
      → TakesLine old (word ∷ words) new

-- The lines are taken one after the other.
pub data TakesLines : Reader → List (List ℕ) → Reader → Type 0 where
  end : {reader : Reader} → TakesLines reader [] reader
  more : {old between new : Reader} {line : List ℕ} {lines : List (List ℕ)} → TakesLine old (slice_split is_separator line) between → TakesLines between lines new
      → TakesLines old (line ∷ lines) new

-- The text has these keys: each word is taken, and the last key ends.
pub record AreKeysOfText (text : List ℕ) (keys : List Key) : Type 0 where
  pub last : Reader
  pub taken : TakesLines (record { keys = []; draft = None; awaited = None }) (slice_split (λ b. b == 10) text) last
  pub all : last.awaited ≡ None
  pub ends : Ends last.draft last.keys keys
