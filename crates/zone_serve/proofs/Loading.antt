-- Lists that are put on a list of blocked names, zones that are loaded, and journals that are opened, one after the
-- other.
use Rattle.std.proofs.Common.{◌≡◌, ◌<◌, ◌+◌, ◌++◌, ◌∷◌, [], ℕ, List, Bor, Option, Result, Ok, Err, IfOk, OnOk, length, get_or, take, map, sym, ap, ◌∙◌, subst}
use Rattle.std.proofs.lemmas.List.{map-append, take_more}
use Rattle.std.specs.List.{AllZip}
use Rattle.wire_names.specs.rr.domain.DomainName.{DomainName}
use Rattle.hickory_store.specs.blocklist.BlockAnswers.{Blocklist}
use Rattle.name_lists.specs.Adding.{AddsList}
use Rattle.name_lists.specs.Counts.{Counts}
use Rattle.hickory_catalog.specs.declared.catalog.Catalog.{Catalog}
use Rattle.served_zones.specs.ServedZones.{AddsLists, Chain, IsLoadedAs}
use Rattle.served_zones.specs.ServedZones as served
use Rattle.sqlite_disk.specs.declared.Disk.{Ghosts as DiskGhosts}
use Rattle.zone_serve.specs.Catalogs.{AddsFile, AddsFiles, AreLoaded, IsZoneAt}
use Rattle.zone_serve.specs.Catalogs as catalogs
use Rattle.zone_serve.specs.Journals.{AreJournalled, IsJournalledBy, apexes_of}
use Rattle.zone_serve.specs.Journals as journals
use Rattle.zone_serve.proofs.Named.{zip_more}
use Rattle.serve_options.specs.declared.arguments.ZoneArgument.{ZoneArgument}
use Rattle.zone_serve.specs.declared.journals.Journalled.{Journalled}

-- lists in files, and one more
pub files_more : (opens : List ℕ → List ℕ → Type 0) (files : List (Bor (List ℕ))) (place : ℕ) (d : Bor (List ℕ)) (old between new : Blocklist) → place < length files
    → AddsFiles opens (map (λ (file : Bor (List ℕ)). file.now) (take place files)) old between → AddsFile opens (get_or files place d).now between new
    → AddsFiles opens (map (λ (file : Bor (List ℕ)). file.now) (take (place + 1) files)) old new
files_more opens files place d old between new inside so_far one =
    let name : Bor (List ℕ) → List ℕ = λ file. file.now in
    let names : map name (take (place + 1) files) ≡ map name (take place files) ++ (get_or files place d).now ∷ [] =
    ap (map name) (take_more files place d inside) ∙ map-append name (take place files) (get_or files place d ∷ []) in (
      so_far.0 ++ one.text ∷ [],
      subst (λ (l : List (List ℕ)). AllZip opens l (so_far.0 ++ one.text ∷ [])) (sym names) (zip_more opens (map name (take place files)) so_far.0 (get_or files place d).now one.text so_far.1 one.opened),
      subst (AddsLists (so_far.0 ++ one.text ∷ []) old) (sym one.others) (served.more so_far.2 one.adds one.some),
    )

pub no_files : (opens : List ℕ → List ℕ → Type 0) (old : Blocklist) → AddsFiles opens [] old old
no_files opens old = ([], tt, served.none)

pub file_added : {E : Type 0} (opens : List ℕ → List ℕ → Type 0) (file text : List ℕ) (r : Result Counts E) (old new : Blocklist) → opens file text
    → IfOk r (λ (counts : Counts). AddsList text old.entries new.entries counts) → IfOk r (λ (counts : Counts). 0 < counts.taken) → new ≡ record old { entries = new.entries }
    → OnOk r (AddsFile opens file old new)
file_added opens file text (Ok counts) old new opened adds some is = record { text = text; opened = opened; counts = counts; adds = adds; some = some; others = is }
file_added opens file text (Err e) old new opened adds some is = tt

-- zones that are loaded, and one more
pub zones_more : (opens : List ℕ → List ℕ → Type 0) (list : Option Blocklist) (arguments : List ZoneArgument) (place : ℕ) (d : ZoneArgument) (apexes : List DomainName) (apex : DomainName)
    (old between new : List (DomainName × Chain)) → place < length arguments
    → AreLoaded opens list (take place arguments) apexes old between
    → IsLoadedAs (IsZoneAt opens (get_or arguments place d).file.now) (get_or arguments place d).name.now list apex between new
    → AreLoaded opens list (take (place + 1) arguments) (apexes ++ apex ∷ []) old new
zones_more opens list arguments place d apexes apex old between new inside so_far one =
    subst (λ (l : List ZoneArgument). AreLoaded opens list l (apexes ++ apex ∷ []) old new) (sym (take_more arguments place d inside))
    (catalogs.more (get_or arguments place d) so_far one)

-- nothing but its zones changes of a catalog, over two steps
pub zones_alone : {S H : Type 0} (first middle last : Catalog S H) → middle ≡ record first { zones = middle.zones } → last ≡ record middle { zones = last.zones }
    → last ≡ record first { zones = last.zones }
zones_alone {S} {H} first middle last so_far one = one ∙ ap (λ (m : Catalog S H). record m { zones = last.zones }) so_far

-- journals that are opened, and one more
pub journals_more : {D : Type 0} (disks : DiskGhosts D) (arguments : List ZoneArgument) (place : ℕ) (d : ZoneArgument) (opened : List Journalled) (one : Journalled)
    (old between new : List (DomainName × Chain)) → place < length arguments → AreJournalled disks (take place arguments) (apexes_of opened) old between
    → IsJournalledBy disks (get_or arguments place d) one.apex between new
    → AreJournalled disks (take (place + 1) arguments) (apexes_of (opened ++ one ∷ [])) old new
journals_more disks arguments place d opened one old between new inside so_far is =
    subst (λ (l : List ZoneArgument). AreJournalled disks l (apexes_of (opened ++ one ∷ [])) old new) (sym (take_more arguments place d inside))
    (subst (λ (names : List DomainName). AreJournalled disks (take place arguments ++ get_or arguments place d ∷ []) names old new)
    (sym (map-append (λ (it : Journalled). it.apex) opened (one ∷ []))) (journals.more (get_or arguments place d) one.apex so_far is))

-- apexes of zones with journals, and one more
pub apexes_more : (journals : List Journalled) (i : ℕ) (journal : Journalled) → i < length journals → journal ≡ get_or journals i journal
    → apexes_of (take (i + 1) journals) ≡ apexes_of (take i journals) ++ journal.apex ∷ []
apexes_more journals i journal within is =
    ap (λ (l : List Journalled). apexes_of l) (take_more journals i journal within ∙ ap (λ (it : Journalled). take i journals ++ it ∷ []) (sym is)) ∙ map-append (λ (it : Journalled). it.apex) (take i journals) (journal ∷ [])
