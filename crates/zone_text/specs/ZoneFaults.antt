-- The first fault of a text that is no zone file (RFC 1035 section 5.1).
use Rattle.std.specs.Prelude.{◌≡◌, ◌≢◌, ℕ, ◌+◌, ◌-◌, ◌<◌, ◌≤◌, ◌==◌, Bool, List, [], ◌∷◌, ◌++◌, length, get_or, take, drop, count_by}
use Rattle.wire_names.specs.rr.domain.DomainName.{DomainName}
use Rattle.text_words.specs.declared.error.TextError.{TextError}
use Rattle.text_words.specs.declared.error.TextError.TheVariants as text
use Rattle.text_words.specs.declared.words.TextKind.TheVariants.{ZoneFile}
use Rattle.text_words.specs.declared.words.Word.{Word}
use Rattle.text_words.specs.Words.{AreWordsTo, HasNoWords, IsRestOfLine, is_blank}
use Rattle.zone_text.specs.declared.error.ZoneFileError.{ZoneFileError}
use Rattle.zone_text.specs.declared.error.ZoneFileError.TheVariants as told
use Rattle.zone_text.specs.declared.error.ZoneFileFault.{ZoneFileFault}
use Rattle.zone_text.specs.declared.error.ZoneFileFault.TheVariants as fault
use Rattle.zone_text.specs.declared.zone_file.entry.Before.{Before}
use Rattle.zone_text.specs.declared.zone_file.entry.Entry.{Entry}
use Rattle.zone_text.specs.declared.zone_file.fault.EntryError.{EntryError}
use Rattle.zone_text.specs.declared.zone_file.fault.EntryError.TheVariants.{At, Memory}
use Rattle.zone_text.specs.declared.zone_file.fault_word.FaultWord.{FaultWord}
use Rattle.record_text.specs.RecordText.{HasNone}
use Rattle.zone_text.specs.ZoneFiles.{BeginsWith, IsClassIn, IsEntry, IsEntryFrom, IsFront, IsTtl, IsTypeWord, after, first_entry, start_of}

-- a byte that ends a line
abbrev pub is_line_feed : ℕ → Bool
is_line_feed byte = byte == 10

-- The line and the column of a place of a text, both counted from 1: one line more than line feeds stand before it, and
-- one column more than bytes stand between the beginning of its line and it.
pub record IsPlaced (text : List ℕ) (place line column : ℕ) : Type 0 where
  pub start : ℕ
  pub on : start ≤ place
  pub begins : 0 < start → get_or text (start - 1) 0 ≡ 10
  pub one_line : (i : ℕ) → start ≤ i → i < place → get_or text i 0 ≢ 10
  pub lines : line ≡ count_by is_line_feed (take place text) + 1
  pub columns : column ≡ place - start + 1

-- what is shown of the field that is wrong: bytes of the text from the place on
pub record IsShownAt (text : List ℕ) (place : ℕ) (word : FaultWord) : Type 0 where
  pub within : place + word.len ≤ length text
  pub shown : take word.len word.bytes ≡ take word.len (drop place text)

-- The words are no entry behind what stands before.
abbrev pub IsNoEntry : Before → Bool → List Word → Type 0
IsNoEntry before begins_blank words = (entry : Entry) → IsEntry before begins_blank words entry → ⊥

-- A word is none of those that may stand first behind an owner name: no TTL, not the class IN, and no type.
pub record IsNoFront (word : Word) : Type 0 where
  pub no_ttl : HasNone (IsTtl word)
  pub not_in : IsClassIn word → ⊥
  pub no_type : (number : ℕ) → IsTypeWord number word → ⊥

-- The first of some words is none of them.
abbrev pub BeginsWithNoFront : List Word → Type 0
BeginsWithNoFront words = (behind : List Word) × BeginsWith IsNoFront words behind

-- Why no entry is read from a place of a text on, with what stands before: no words stand to an end, or those that
-- stand are none. The fault is told at a place of the entry.
pub data IsRefused (text : List ℕ) (place : ℕ) (before : Before) (at : ℕ) (fault : ZoneFileFault) : Type 0 where
  no_words : HasNoWords ZoneFile text place 0 → at ≤ length text → IsRefused text place before at fault
  no_entry : {words : List Word} {end : ℕ} → AreWordsTo ZoneFile text place 0 words end → at ≤ end → end ≤ length text → IsNoEntry before (is_blank (get_or text place 0)) words → IsRefused text place before at fault

-- The first fault of a text: entries stand up to a place, from there on none is read, and the fault is told by the line
-- and the column of a place of that entry. Or memory was refused.
pub data IsFirstFault (origin : DomainName) (text : List ℕ) : ZoneFileError → Type 0 where
  memory : IsFirstFault origin text told.Memory
  at : {place at line column : ℕ} {before : Before} {word : FaultWord} {fault : ZoneFileFault} → IsFront origin text place before → place < length text → place ≤ at → IsRefused text place before at fault
      → IsPlaced text at line column → IsShownAt text at word → IsFirstFault origin text (told.At line column word fault)

-- A fault of the entry that begins at a place, behind what stands before, told by the line and the column of a place of
-- it.
pub data IsFaultOf (text : List ℕ) (place : ℕ) (before : Before) : ZoneFileError → Type 0 where
  at : {at line column : ℕ} {word : FaultWord} {fault : ZoneFileFault} → place ≤ at → IsRefused text place before at fault → IsPlaced text at line column → IsShownAt text at word → IsFaultOf text place before (told.At line column word fault)

-- The entry behind one that is refused begins behind its words, or, where no words stand to an end, behind the line
-- that it begins on.
pub data IsBehindRefused (text : List ℕ) (place : ℕ) : ℕ → Type 0 where
  by_words : {words : List Word} {end : ℕ} → AreWordsTo ZoneFile text place 0 words end → IsBehindRefused text place (end + 1)
  by_line : {end : ℕ} → HasNoWords ZoneFile text place 0 → IsRestOfLine text place end → IsBehindRefused text place (end + 1)

-- The entries of a text up to a place, what those leave that are some, and the faults of the others, which leave what
-- they were left.
pub data AreTaken (origin : DomainName) (text : List ℕ) : ℕ → Before → List ZoneFileError → Type 0 where
  none : AreTaken origin text (first_entry text) (start_of origin) []
  entry : {place end : ℕ} {before : Before} {faults : List ZoneFileError} {entry : Entry} → AreTaken origin text place before faults → place < length text → IsEntryFrom text place before entry end → AreTaken origin text (end + 1) (after before entry) faults
  refused : {place next : ℕ} {before : Before} {faults : List ZoneFileError} {fault : ZoneFileError} → AreTaken origin text place before faults → place < length text → IsFaultOf text place before fault → IsBehindRefused text place next
      → AreTaken origin text next before (faults ++ fault ∷ [])

-- The same before line and column are told, of one entry and of a text.
pub data IsEntryFault (text : List ℕ) (place : ℕ) (before : Before) : EntryError → Type 0 where
  memory : IsEntryFault text place before Memory
  at : {at : ℕ} {fault : ZoneFileFault} → place ≤ at → IsRefused text place before at fault → IsEntryFault text place before (At at fault)

pub data IsFileFault (origin : DomainName) (text : List ℕ) : EntryError → Type 0 where
  memory : IsFileFault origin text Memory
  entry : {place : ℕ} {before : Before} {e : EntryError} → IsFront origin text place before → place < length text → IsEntryFault text place before e → IsFileFault origin text e

-- the fault of an entry that a fault of its text is
abbrev pub error_of : TextError → EntryError
error_of (text.At column what) = At (column - 1) (fault.Text what)
error_of text.Memory = Memory

-- a fault at a place from one to another
abbrev pub IsWithin : ℕ → ℕ → EntryError → Type 0
IsWithin start end (At place fault) = (start ≤ place) × (place ≤ end)
IsWithin start end Memory = Unit {0}

-- the same fault at such a place
abbrev pub IsMovedInto : ℕ → ℕ → EntryError → EntryError → Type 0
IsMovedInto start end (At old fault) (At place same) = (start ≤ place) × (place ≤ end) × (same ≡ fault)
IsMovedInto start end Memory Memory = Unit {0}
IsMovedInto start end e other = ⊥

-- a fault with line and column
abbrev pub IsToldOf : List ℕ → EntryError → ZoneFileError → Type 0
IsToldOf text (At place fault) (told.At line column word same) = IsPlaced text place line column × IsShownAt text place word × (same ≡ fault)
IsToldOf text Memory told.Memory = Unit {0}
IsToldOf text e other = ⊥
