-- Zone files with inclusions (RFC 1035 section 5.1), given what files there are.
use Rattle.std.specs.Prelude.{◌≡◌, ◌<◌, ◌≤◌, ◌+◌, ℕ, suc, List, [], ◌∷◌, false, length, get_or, codes}
use Rattle.wire_messages.specs.declared.rr.rdata.RData.{RData}
use Rattle.wire_messages.specs.declared.rr.record.Record.{Record}
use Rattle.wire_names.specs.rr.domain.DomainName.{DomainName}
use Rattle.text_words.specs.declared.words.TextKind.TheVariants.{ZoneFile}
use Rattle.text_words.specs.declared.words.Word.{Word}
use Rattle.text_words.specs.Spelling.{Spells, any_byte}
use Rattle.text_words.specs.Words.{AreWordsTo, is_blank}
use Rattle.zone_text.specs.declared.error.FileRefusal.{FileRefusal}
use Rattle.zone_text.specs.declared.error.ZoneFileError.{ZoneFileError}
use Rattle.zone_text.specs.declared.error.ZoneFileError.TheVariants as told
use Rattle.zone_text.specs.declared.error.ZoneFileFault.{ZoneFileFault}
use Rattle.zone_text.specs.declared.error.ZoneFileFault.TheVariants.{FileRefused, TooManyFiles}
use Rattle.zone_text.specs.declared.zone_file.entry.Before.{Before}
use Rattle.zone_text.specs.declared.zone_file.entry.Entry.{Entry}
use Rattle.zone_text.specs.declared.zone_file.fault.EntryError.TheVariants.{At}
use Rattle.zone_text.specs.ZoneFaults.{IsRefused, IsToldOf}
use Rattle.zone_text.specs.ZoneFiles.{IsEntryFrom, IsKeyword, IsName, after, first_entry, start_of}

-- What stands behind `$INCLUDE`: the name of a file, in quotes or not, and the origin of what stands in it, which is
-- the one in force where none is given.
pub data IsNamedFile (before : Before) : List Word → List ℕ → DomainName → Type 0 where
  here : {word : Word} {file : List ℕ} → Spells any_byte word.bytes.now file → IsNamedFile before (word ∷ []) file before.origin
  under : {word name : Word} {file : List ℕ} {origin : DomainName} → Spells any_byte word.bytes.now file → IsName before.origin name origin → IsNamedFile before (word ∷ name ∷ []) file origin

-- The words of a directive that includes a file.
pub record IsInclude (before : Before) (words : List Word) (file : List ℕ) (origin : DomainName) : Type 0 where
  pub directive : Word
  pub behind : List Word
  pub in_order : words ≡ directive ∷ behind
  pub keyword : IsKeyword (codes "$INCLUDE") directive
  pub named : IsNamedFile before behind file origin

-- From a place of a text on a directive stands that includes a file, to its end.
pub record IsIncludeFrom (text : List ℕ) (place : ℕ) (before : Before) (file : List ℕ) (origin : DomainName) (end : ℕ) : Type 0 where
  pub words : List Word
  pub stand : AreWordsTo ZoneFile text place 0 words end
  pub line : is_blank (get_or text place 0) ≡ false
  pub is : IsInclude before words file origin

-- What an included file leaves: its records and its default TTL; origin and owner name in force are again those of
-- before (RFC 1035 section 5.1).
abbrev pub behind_file : Before → Before → Before
behind_file before last = record last { origin = before.origin; owned = before.owned }

-- Entries of a text, one behind the line feed that ends the one before, and what each leaves to the next, where files
-- are included to so many levels and the opener gives the bytes of each by its name.
pub data AreIncluded (opened : List ℕ → List ℕ → Type 0) : ℕ → List ℕ → ℕ → Before → ℕ → Before → Type 0 where
  none : {levels : ℕ} {text : List ℕ} {first : ℕ} {start : Before} → AreIncluded opened levels text first start first start
  more : {levels : ℕ} {text : List ℕ} {first : ℕ} {start : Before} {place end : ℕ} {before : Before} {entry : Entry} → AreIncluded opened levels text first start place before → place < length text → IsEntryFrom text place before entry end
      → AreIncluded opened levels text first start (end + 1) (after before entry)
  included : {levels : ℕ} {text : List ℕ} {first : ℕ} {start : Before} {place end stop : ℕ} {before last : Before} {file content : List ℕ} {origin : DomainName} → AreIncluded opened (suc levels) text first start place before → place < length text
      → IsIncludeFrom text place before file origin end → opened file content → AreIncluded opened levels content (first_entry content) (record before { origin = origin }) stop last → length content ≤ stop
      → AreIncluded opened (suc levels) text first start (end + 1) (behind_file before last)

-- The entries of a text up to a place, from the first on.
abbrev pub IsFrontWithFiles : (List ℕ → List ℕ → Type 0) → ℕ → List ℕ → Before → ℕ → Before → Type 0
IsFrontWithFiles opened levels text start place before = AreIncluded opened levels text (first_entry text) start place before

-- The records of a text with inclusions, at most ten levels of them, as NSD takes.
pub record IsZoneWithFiles (opened : List ℕ → List ℕ → Type 0) (origin : DomainName) (text : List ℕ) (records : List (Record RData)) : Type 0 where
  pub end : ℕ
  pub last : Before
  pub entries : IsFrontWithFiles opened 10 text (start_of origin) end last
  pub whole : length text ≤ end
  pub left : records ≡ last.records

-- From a place on no file is included.
abbrev pub IncludesNone : List ℕ → ℕ → Before → Type 0
IncludesNone text place before = (file : List ℕ) (origin : DomainName) (end : ℕ) → IsIncludeFrom text place before file origin end → ⊥

-- The first fault of a text with inclusions to so many levels, whose own name is given, and in which file it stands:
-- where neither an entry nor an inclusion stands; where an inclusion stands and no level is left, or the file is
-- refused; and, in an included file, where its text has its first one. It is told by the line and the column of a place
-- of that entry. Or memory was refused.
pub data IsFaultWithFiles (opened : List ℕ → List ℕ → Type 0) (refused : List ℕ → FileRefusal → Type 0) : ℕ → List ℕ → List ℕ → Before → List ℕ → ZoneFileError → Type 0 where
  memory : {levels : ℕ} {name text file : List ℕ} {start : Before} → IsFaultWithFiles opened refused levels name text start file told.Memory
  entry : {levels place at : ℕ} {name text : List ℕ} {start before : Before} {fault : ZoneFileFault} {what : ZoneFileError} → IsFrontWithFiles opened levels text start place before → place < length text → place ≤ at → IsRefused text place before at fault
      → IncludesNone text place before → IsToldOf text (At at fault) what → IsFaultWithFiles opened refused levels name text start name what
  deep : {place at end : ℕ} {name text file : List ℕ} {start before : Before} {origin : DomainName} {what : ZoneFileError} → IsFrontWithFiles opened 0 text start place before → place < length text → IsIncludeFrom text place before file origin end
      → place ≤ at → at ≤ end → IsToldOf text (At at TooManyFiles) what → IsFaultWithFiles opened refused 0 name text start name what
  closed : {levels place at end : ℕ} {name text file : List ℕ} {start before : Before} {origin : DomainName} {why : FileRefusal} {what : ZoneFileError} → IsFrontWithFiles opened (suc levels) text start place before → place < length text
      → IsIncludeFrom text place before file origin end → refused file why → place ≤ at → at ≤ end → IsToldOf text (At at (FileRefused why)) what → IsFaultWithFiles opened refused (suc levels) name text start name what
  inside : {levels place end : ℕ} {name text file content named : List ℕ} {start before : Before} {origin : DomainName} {what : ZoneFileError} → IsFrontWithFiles opened (suc levels) text start place before → place < length text
      → IsIncludeFrom text place before file origin end → opened file content → IsFaultWithFiles opened refused levels file content (record before { origin = origin }) named what → IsFaultWithFiles opened refused (suc levels) name text start named what
