-- More faults of a text than the first.
use Rattle.std.proofs.Common.{◌≡◌, ◌≢◌, ℕ, List, [], ◌∷◌, ◌++◌, slice_get, sym, subst, refl}
use Rattle.std.specs.Prelude.{IfSome}
use Rattle.wire_names.specs.rr.domain.DomainName.{DomainName}
use Rattle.zone_text.specs.declared.error.ZoneFileError.{ZoneFileError}
use Rattle.zone_text.specs.declared.error.ZoneFileError.TheVariants as told
use Rattle.zone_text.specs.declared.error.ZoneFileFault.{ZoneFileFault}
use Rattle.zone_text.specs.declared.zone_file.entry.Before.{Before}
use Rattle.zone_text.specs.declared.zone_file.fault.EntryError.{EntryError}
use Rattle.zone_text.specs.declared.zone_file.fault.EntryError.TheVariants.{At, Memory}
use Rattle.zone_text.specs.ZoneFaults.{AreTaken, IsEntryFault, IsFaultOf, IsFirstFault, IsRefused, IsToldOf}
use Rattle.zone_text.specs.ZoneFaults.AreTaken.{none, entry, refused}
use Rattle.zone_text.specs.ZoneFaults.IsEntryFault.{at as entry_at}
use Rattle.zone_text.specs.ZoneFaults.IsFaultOf.{at as fault_at}
use Rattle.zone_text.specs.ZoneFaults.IsFirstFault.{at as first_at}
use Rattle.zone_text.specs.ZoneFiles.{IsFront}
use Rattle.zone_text.specs.ZoneFiles.AreEntries.{none as no_entries, more as one_entry}

no_push : (faults : List ZoneFileError) (fault : ZoneFileError) → (faults ++ fault ∷ []) ≡ [] → ⊥
no_push [] fault e = cc
no_push (f ∷ faults) fault e = cc

-- where no fault is told, all entries are taken
front : (origin : DomainName) (text : List ℕ) (place : ℕ) (before : Before) (faults : List ZoneFileError) → AreTaken origin text place before faults → faults ≡ [] → IsFront origin text place before
front origin text place before faults none e = no_entries
front origin text place before faults (entry taken within is) e = one_entry (front origin text _ _ faults taken e) within is
front origin text place before faults (refused {faults = others} {fault = fault} taken within is next) e = absurd (no_push others fault e)

first_pushed : (origin : DomainName) (text : List ℕ) (faults : List ZoneFileError) (fault : ZoneFileError) → IfSome (slice_get faults 0) (IsFirstFault origin text) → (faults ≡ [] → IsFirstFault origin text fault) → IfSome (slice_get (faults ++ fault ∷ []) 0) (IsFirstFault origin text)
first_pushed origin text [] fault before here = here refl
first_pushed origin text (f ∷ faults) fault before here = before

pub first : (origin : DomainName) (text : List ℕ) (place : ℕ) (before : Before) (faults : List ZoneFileError) → AreTaken origin text place before faults → IfSome (slice_get faults 0) (IsFirstFault origin text)
first origin text place before faults none = tt
first origin text place before faults (entry taken within is) = first origin text _ _ faults taken
first origin text place before faults (refused {place = at} {before = b} {faults = others} {fault = fault} taken within is next) =
    first_pushed origin text others fault (first origin text at b others taken) (λ e. of_fault fault is (front origin text at b others taken e)) where
      of_fault : (fault : ZoneFileError) → IsFaultOf text at b fault → IsFront origin text at b → IsFirstFault origin text fault
      of_fault fault (fault_at on none_there placed shown) before = first_at before within on none_there placed shown

-- what is told of an entry's fault
pub told_of : (text : List ℕ) (place : ℕ) (before : Before) (e : EntryError) (what : ZoneFileError) → e ≢ Memory → IsEntryFault text place before e → IsToldOf text e what → IsFaultOf text place before what
told_of text place before Memory what other is t = absurd (other refl)
told_of text place before (At at fault) told.Memory other is t = absurd t
told_of text place before (At at fault) (told.At line column word same) other (entry_at on none_there) t = fault_at on (subst (λ (f : ZoneFileFault). IsRefused text place before at f) (sym t.2) none_there) t.0 t.1
