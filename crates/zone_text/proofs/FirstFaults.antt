-- The first fault of a text, from that of an entry.
use Rattle.std.proofs.Common.{◌≡◌, ◌≢◌, ◌≤◌, ℕ, Bool, List, length, get_or, sym, subst, arith}
use Rattle.wire_names.specs.rr.domain.DomainName.{DomainName}
use Rattle.text_words.specs.declared.error.TextError.{TextError}
use Rattle.text_words.specs.declared.error.TextError.TheVariants as text
use Rattle.text_words.specs.declared.words.TextKind.{TextKind}
use Rattle.text_words.specs.declared.words.TextKind.TheVariants.{ZoneFile}
use Rattle.text_words.specs.declared.words.Word.{Word}
use Rattle.text_words.specs.Words.{AreWordsTo, HasNoWords, WordsLeft, is_blank}
use Rattle.zone_text.specs.declared.error.ZoneFileError.{ZoneFileError}
use Rattle.zone_text.specs.declared.error.ZoneFileError.TheVariants as told
use Rattle.zone_text.specs.declared.error.ZoneFileFault.{ZoneFileFault}
use Rattle.zone_text.specs.declared.zone_file.entry.Before.{Before}
use Rattle.zone_text.specs.declared.zone_file.fault.EntryError.{EntryError}
use Rattle.zone_text.specs.declared.zone_file.fault.EntryError.TheVariants.{At, Memory}
use Rattle.zone_text.specs.ZoneFaults.{IsEntryFault, IsFileFault, IsFirstFault, IsMovedInto, IsNoEntry, IsRefused, IsToldOf, IsWithin, error_of}
use Rattle.zone_text.specs.ZoneFaults.IsEntryFault.{memory as entry_memory, at as entry_at}
use Rattle.zone_text.specs.ZoneFaults.IsFileFault.{entry}
use Rattle.zone_text.specs.ZoneFaults.IsFirstFault.{memory as first_memory, at as first_at}
use Rattle.zone_text.specs.ZoneFaults.IsRefused.{no_words, no_entry}

-- a fault of the words themselves
pub refused_words : (bytes : List ℕ) (place : ℕ) (before : Before) (w : WordsLeft) (e : TextError) (given moved : EntryError) → w.text ≡ bytes → w.place ≡ place → w.kind ≡ ZoneFile → w.depth ≡ 0 → given ≡ error_of e
    → IsMovedInto place (length bytes) given moved → (e ≢ text.Memory → HasNoWords w.kind w.text w.place w.depth) → IsEntryFault bytes place before moved
refused_words bytes place before w e given moved a b k d is m none = of_error e moved (subst (λ (g : EntryError). IsMovedInto place (length bytes) g moved) is m) here where
  here : e ≢ text.Memory → HasNoWords ZoneFile bytes place 0
  here other = subst (λ (t : List ℕ). HasNoWords ZoneFile t place 0) a (subst (λ (p : ℕ). HasNoWords ZoneFile w.text p 0) b (subst (λ (x : TextKind). HasNoWords x w.text w.place 0) k (subst (λ (n : ℕ). HasNoWords w.kind w.text w.place n) d (none other))))

  of_error : (e : TextError) (moved : EntryError) → IsMovedInto place (length bytes) (error_of e) moved → (e ≢ text.Memory → HasNoWords ZoneFile bytes place 0) → IsEntryFault bytes place before moved
  of_error (text.At column what) (At at same) m none = entry_at m.0 (no_words (none (λ other. cc)) m.1)
  of_error (text.At column what) Memory m none = absurd m
  of_error text.Memory (At at same) m none = absurd m
  of_error text.Memory Memory m none = entry_memory

-- a fault of an entry whose words stand
pub refused_entry : (bytes : List ℕ) (place end : ℕ) (before : Before) (begins_blank : Bool) (words : List Word) (given moved : EntryError) → AreWordsTo ZoneFile bytes place 0 words end → end ≤ length bytes → begins_blank ≡ is_blank (get_or bytes place 0)
    → (given ≢ Memory → IsNoEntry before begins_blank words) → IsMovedInto place end given moved → IsEntryFault bytes place before moved
refused_entry bytes place end before begins_blank words (At old fault) (At at same) stand inside blank h m =
    entry_at m.0 (no_entry stand m.1 inside (subst (λ (b : Bool). IsNoEntry before b words) blank (h (λ e. cc))))
refused_entry bytes place end before begins_blank words (At old fault) Memory stand inside blank h m = absurd m
refused_entry bytes place end before begins_blank words Memory (At at same) stand inside blank h m = absurd m
refused_entry bytes place end before begins_blank words Memory Memory stand inside blank h m = entry_memory

refused_within : (bytes : List ℕ) (place : ℕ) (before : Before) (at : ℕ) (fault : ZoneFileFault) → IsRefused bytes place before at fault → at ≤ length bytes
refused_within bytes place before at fault (no_words none inside) = inside
refused_within bytes place before at fault (no_entry stand on inside h) = omega (arith, on, inside)

-- a fault of an entry, and of a text, is told at a place of it
pub entry_within : (bytes : List ℕ) (place : ℕ) (before : Before) (e : EntryError) → IsEntryFault bytes place before e → IsWithin 0 (length bytes) e
entry_within bytes place before Memory h = tt
entry_within bytes place before (At at fault) (entry_at on refused) = (omega arith, refused_within bytes place before at fault refused)

pub file_within : (origin : DomainName) (bytes : List ℕ) (e : EntryError) → IsFileFault origin bytes e → IsWithin 0 (length bytes) e
file_within origin bytes Memory h = tt
file_within origin bytes (At at fault) (entry {place = place} {before = before} front within (entry_at on refused)) = (omega arith, refused_within bytes place before at fault refused)

pub first_fault : (origin : DomainName) (bytes text : List ℕ) (e : EntryError) (what : ZoneFileError) → bytes ≡ text → IsFileFault origin bytes e → IsToldOf bytes e what → IsFirstFault origin text what
first_fault origin bytes text e what same h t = subst (λ (x : List ℕ). IsFirstFault origin x what) same (of_file e what h t) where
  of_file : (e : EntryError) (what : ZoneFileError) → IsFileFault origin bytes e → IsToldOf bytes e what → IsFirstFault origin bytes what
  of_file Memory told.Memory h t = first_memory
  of_file Memory (told.At line column word fault) h t = absurd t
  of_file (At at fault) told.Memory h t = absurd t
  of_file (At at fault) (told.At line column word same) (entry {place = place} {before = before} front within (entry_at on refused)) t =
      first_at front within on (subst (λ (f : ZoneFileFault). IsRefused bytes place before at f) (sym t.2) refused) t.0 t.1

-- where an entry's reader does not want memory, neither did that of a text
pub not_wanting : (e : TextError) (given : EntryError) → given ≡ error_of e → given ≢ Memory → e ≢ text.Memory
not_wanting (text.At column what) given is other = λ same. cc
not_wanting text.Memory given is other = λ same. other is
