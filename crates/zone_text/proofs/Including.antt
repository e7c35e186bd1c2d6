-- What is told of directives that include files.
use Rattle.std.proofs.Common.{◌≡◌, ◌≢◌, ◌∙◌, ◌+◌, ◌<◌, ◌≤◌, ◌⊎◌, inl, inr, ℕ, zero, suc, true, false, List, [], ◌∷◌, Some, length, get_or, sym, subst, refl, arith}
use Rattle.wire_names.specs.rr.domain.DomainName.{DomainName}
use Rattle.std.specs.Prelude.{codes}
use Rattle.record_text.specs.RecordText.{HasNone, SameLetters}
use Rattle.text_words.specs.declared.words.TextKind.TheVariants.{ZoneFile}
use Rattle.text_words.specs.declared.words.Word.{Word}
use Rattle.text_words.specs.Spelling.{Spells, SpellsName, any_byte}
use Rattle.text_words.specs.Words.{AreSameWords, AreWordsTo, HasNoWords, SameWord, StandOnce, is_blank}
use Rattle.zone_text.specs.declared.error.FileRefusal.{FileRefusal}
use Rattle.zone_text.specs.declared.error.FileRefusal.TheVariants.{Memory as NoMemory}
use Rattle.zone_text.specs.declared.error.ZoneFileError.{ZoneFileError}
use Rattle.zone_text.specs.declared.error.ZoneFileError.TheVariants as told
use Rattle.zone_text.specs.declared.error.ZoneFileFault.TheVariants.{FileRefused, TooManyFiles}
use Rattle.zone_text.specs.declared.zone_file.entry.Before.{Before}
use Rattle.zone_text.specs.declared.zone_file.fault.EntryError.{EntryError}
use Rattle.zone_text.specs.declared.zone_file.fault.EntryError.TheVariants.{At, Memory}
use Rattle.zone_text.specs.Included.{AreIncluded, IncludesNone, IsFaultWithFiles, IsFrontWithFiles, IsInclude, IsIncludeFrom, IsNamedFile}
use Rattle.zone_text.specs.Included.AreIncluded.{included as one_file}
use Rattle.zone_text.specs.Included.IsFaultWithFiles.{memory, entry, deep, closed, inside as within_file}
use Rattle.zone_text.specs.Included.IsNamedFile.{here, under}
use Rattle.zone_text.specs.ZoneFaults.{IsEntryFault, IsMovedInto, IsRefused, IsToldOf}
use Rattle.zone_text.specs.ZoneFaults.IsEntryFault.{memory as entry_memory, at as entry_at}
use Rattle.zone_text.specs.ZoneFaults.IsRefused.{no_words, no_entry}
use Rattle.zone_text.specs.ZoneFiles.{IsKeyword, IsName}

-- the same words include the same file
same_name : (o : DomainName) (a b : Word) (name : DomainName) → SameWord a b → IsName o a name → IsName o b name
same_name o a b name s is = record { unquoted = sym s.quoted ∙ is.unquoted; spelled = subst (λ (t : List ℕ). SpellsName (Some o) t name.labels) s.bytes is.spelled; qualified = is.qualified; short = is.short }

same_named : (before : Before) (words others : List Word) (file : List ℕ) (origin : DomainName) → AreSameWords words others → IsNamedFile before words file origin → IsNamedFile before others file origin
same_named before words [] file origin s (here is) = absurd s
same_named before words (o ∷ []) file origin s (here is) = here (subst (λ (t : List ℕ). Spells any_byte t file) s.0.bytes is)
same_named before words (o ∷ p ∷ others) file origin s (here is) = absurd s.1
same_named before words [] file origin s (under is name) = absurd s
same_named before words (o ∷ []) file origin s (under is name) = absurd s.1
same_named before words (o ∷ p ∷ []) file origin s (under {name = n} is name) = under (subst (λ (t : List ℕ). Spells any_byte t file) s.0.bytes is) (same_name before.origin n p origin s.1.0 name)
same_named before words (o ∷ p ∷ q ∷ others) file origin s (under is name) = absurd s.1.1

same_keyword : (keyword : List ℕ) (a b : Word) → SameWord a b → IsKeyword keyword a → IsKeyword keyword b
same_keyword keyword a b s is = record { unquoted = sym s.quoted ∙ is.unquoted; same = subst (λ (t : List ℕ). SameLetters keyword t) s.bytes is.same }

same_include : (before : Before) (words others : List Word) (file : List ℕ) (origin : DomainName) → AreSameWords words others → IsInclude before words file origin → IsInclude before others file origin
same_include before words others file origin s is = of_parts others (subst (λ (ws : List Word). AreSameWords ws others) is.in_order s) where
  of_parts : (others : List Word) → AreSameWords (is.directive ∷ is.behind) others → IsInclude before others file origin
  of_parts [] s = absurd s
  of_parts (o ∷ others) s = record { directive = o; behind = others; in_order = refl; keyword = same_keyword (codes "$INCLUDE") is.directive o s.0 is.keyword; named = same_named before is.behind others file origin s.1 is.named }

-- no file is included from a place on
pub includes_none : StandOnce → (text : List ℕ) (place : ℕ) (before : Before) (words : List Word) (end : ℕ) → AreWordsTo ZoneFile text place 0 words end → ((file : List ℕ) → HasNone (IsInclude before words file)) → IncludesNone text place before
includes_none once text place before words end stand none file origin other is = none file origin (same_include before is.words words file origin (once ZoneFile text place 0 other end is.words words is.stand stand).0 is.is)

pub wordless : (text : List ℕ) (place : ℕ) (before : Before) → HasNoWords ZoneFile text place 0 → IncludesNone text place before
wordless text place before none file origin end is = none is.words end is.stand

not_both : true ≡ false → ⊥
not_both e = cc

pub blank_first : (text : List ℕ) (place : ℕ) (before : Before) → is_blank (get_or text place 0) ≡ true → IncludesNone text place before
blank_first text place before blank file origin end is = not_both (sym blank ∙ is.line)

-- no name of a file stands behind the directive
pub too_few : (before : Before) (words : List Word) → length words ≡ 0 → (file : List ℕ) → HasNone (IsNamedFile before words file)
too_few before words none file origin (here is) = absurd (omega (arith, none))
too_few before words none file origin (under is name) = absurd (omega (arith, none))

-- another fault of an entry that is refused, at a place of it
pub refused_there : StandOnce → (text : List ℕ) (place : ℕ) (before : Before) (words : List Word) (end : ℕ) (e given moved : EntryError) → e ≢ Memory → IsEntryFault text place before e → AreWordsTo ZoneFile text place 0 words end → IsMovedInto place end given moved
    → IsEntryFault text place before moved
refused_there once text place before words end Memory given moved other h stand m = absurd (other refl)
refused_there once text place before words end (At at fault) given Memory other h stand m = entry_memory
refused_there once text place before words end (At at fault) Memory (At new what) other h stand m = absurd m
refused_there once text place before words end (At at fault) (At old same) (At new what) other (entry_at on refused) stand m = entry_at m.0 (again refused) where
  again : IsRefused text place before at fault → IsRefused text place before new what
  again (no_words none inside) = absurd (none words end stand)
  again (no_entry {words = ws} {end = stop} there below inside none) =
      let one : end ≡ stop = (once ZoneFile text place 0 end stop words ws stand there).1 in
      no_entry there (omega (arith, one, m.1)) inside none

-- a fault that is told in its file
module _ (opened : List ℕ → List ℕ → Type 0) (refused : List ℕ → FileRefusal → Type 0) (name text : List ℕ) (place : ℕ) (within : place < length text) (before start : Before) (file : List ℕ) (what : ZoneFileError) where
  abbrev pub IsTold : EntryError → Type 0
  IsTold e = (what ≡ told.Memory) ⊎ ((file ≡ name) × IsToldOf text e what)

  pub of_memory : (levels : ℕ) (own : List ℕ) → what ≡ told.Memory → IsFaultWithFiles opened refused levels own text start file what
  of_memory levels own e = rw e memory

  pub of_entry : (levels : ℕ) (e : EntryError) → IsTold e → IsEntryFault text place before e → (e ≢ Memory → IncludesNone text place before) → IsFrontWithFiles opened levels text start place before → IsFaultWithFiles opened refused levels name text start file what
  of_entry levels e (inl m) h none front = of_memory levels name m
  of_entry levels Memory (inr t) h none front = of_memory levels name (wanting what t.1) where
    wanting : (w : ZoneFileError) → IsToldOf text Memory w → w ≡ told.Memory
    wanting told.Memory t = refl
    wanting (told.At line column word fault) t = absurd t
  of_entry levels (At at fault) (inr t) (entry_at on is) none front = rw t.0 (entry front within on is (none (λ e. cc)) t.1)

  pub of_depth : (at end : ℕ) (included : List ℕ) (origin : DomainName) → IsTold (At at TooManyFiles) → IsIncludeFrom text place before included origin end → place ≤ at → at ≤ end → IsFrontWithFiles opened 0 text start place before → IsFaultWithFiles opened refused 0 name text start file what
  of_depth at end included origin (inl m) is on below front = of_memory 0 name m
  of_depth at end included origin (inr t) is on below front = rw t.0 (deep front within is on below t.1)

  pub of_no_level : (levels at end : ℕ) (other : List ℕ) (origin : DomainName) → (1 ≤ levels → ⊥) → IsTold (At at TooManyFiles) → IsIncludeFrom text place before other origin end → place ≤ at → at ≤ end → IsFrontWithFiles opened levels text start place before
      → IsFaultWithFiles opened refused levels name text start file what
  of_no_level zero at end other origin none t is on below front = of_depth at end other origin t is on below front
  of_no_level (suc levels) at end other origin none t is on below front = absurd (none (omega arith))

  of_refusal : (levels at end : ℕ) (other : List ℕ) (origin : DomainName) (why : FileRefusal) → (what ≡ told.Memory) ⊎ ((why ≢ NoMemory) × (file ≡ name) × IsToldOf text (At at (FileRefused why)) what) → IsIncludeFrom text place before other origin end
      → (why ≢ NoMemory → refused other why) → place ≤ at → at ≤ end → IsFrontWithFiles opened (suc levels) text start place before → IsFaultWithFiles opened refused (suc levels) name text start file what
  of_refusal levels at end other origin why (inl m) is given on below front = of_memory (suc levels) name m
  of_refusal levels at end other origin why (inr t) is given on below front = rw t.1 (closed front within is (given t.0) on below t.2)

  pub of_refused_file : (levels left at end : ℕ) (other : List ℕ) (origin : DomainName) (why : FileRefusal) → levels ≡ suc left → (what ≡ told.Memory) ⊎ ((why ≢ NoMemory) × (file ≡ name) × IsToldOf text (At at (FileRefused why)) what)
      → IsIncludeFrom text place before other origin end → (why ≢ NoMemory → refused other why) → place ≤ at → at ≤ end → IsFrontWithFiles opened levels text start place before → IsFaultWithFiles opened refused levels name text start file what
  of_refused_file levels left at end other origin why one t is given on below =
      subst (λ (l : ℕ). IsFrontWithFiles opened l text start place before → IsFaultWithFiles opened refused l name text start file what) (sym one) (of_refusal left at end other origin why t is given on below)

  pub of_inside : (levels left end : ℕ) (other content : List ℕ) (origin : DomainName) (given : Before) → levels ≡ suc left → IsIncludeFrom text place before other origin end → opened other content → given ≡ record before { origin = origin }
      → IsFaultWithFiles opened refused left other content given file what → IsFrontWithFiles opened levels text start place before → IsFaultWithFiles opened refused levels name text start file what
  of_inside levels left end other content origin given one is gives same fault =
      subst (λ (l : ℕ). IsFrontWithFiles opened l text start place before → IsFaultWithFiles opened refused l name text start file what) (sym one)
      (λ front. within_file front within is gives (subst (λ (b : Before). IsFaultWithFiles opened refused left other content b file what) same fault))

-- an included file that is taken
pub file_taken : (opened : List ℕ → List ℕ → Type 0) (text : List ℕ) (levels left place end stop first : ℕ) (before start given last : Before) (other content : List ℕ) (origin outer : DomainName) → place < length text → levels ≡ suc left
    → IsIncludeFrom text place before other origin end → opened other content → given ≡ record before { origin = origin } → IsFrontWithFiles opened left content given stop last → length content ≤ stop → outer ≡ before.origin
    → AreIncluded opened levels text first start place before → AreIncluded opened levels text first start (end + 1) (record { origin = outer; default_ttl = last.default_ttl; owned = before.owned; records = last.records })
file_taken opened text levels left place end stop first before start given last other content origin outer within one is gives same entries whole restored =
    subst (λ (l : ℕ). AreIncluded opened l text first start place before → AreIncluded opened l text first start (end + 1) (record { origin = outer; default_ttl = last.default_ttl; owned = before.owned; records = last.records })) (sym one)
    (λ front. subst (λ (o : DomainName). AreIncluded opened (suc left) text first start (end + 1) (record { origin = o; default_ttl = last.default_ttl; owned = before.owned; records = last.records })) (sym restored)
    (one_file front within is gives (subst (λ (b : Before). IsFrontWithFiles opened left content b stop last) same entries) whole))
