-- What led to the zone from versions that the first of the entries made.
use Rattle.std.proofs.Common.{◌≡◌, ◌∙◌, inr, ap, drop, subst, sym, take, ℕ, List, Vec, [], ◌∷◌, ◌++◌, append_assoc, IfOk, OnOk, Option, Result, Ok, Err}
use Rattle.std.proofs.lemmas.List.{map-append, take-append-drop}
use Rattle.std.specs.List.{AllByRecursion}
use Rattle.std.specs.declared.alloc.AllocError.{AllocError}
use Rattle.std.specs.declared.alloc.Global.{Global}
use Rattle.hickory_base.specs.zone_store.ZoneAnswers.{MemoryZone}
use Rattle.wire_messages.specs.declared.rr.rdata.RData.{RData}
use Rattle.wire_messages.specs.declared.rr.record.Record.{Record}
use Rattle.sqlite_disk.specs.declared.Disk.{Ghosts as DiskGhosts}
use Rattle.zone_differences.specs.Histories.{IsKeptUp, IsRecorded}
use Rattle.zone_differences.specs.Standing.{IsChangedBy, IsKnown, Records}
use Rattle.zone_differences.specs.Versions.{AllLead, RecordedLead}
use Rattle.zone_differences.specs.declared.before.Before.{Before}
use Rattle.zone_differences.specs.declared.difference.Difference.{Difference}
use Rattle.zone_differences.proofs.Leading.{none_lead}
use Rattle.journal.specs.Read.{contents}
use Rattle.durable_updates.specs.Recovering.{AreFound, counting}
use Rattle.durable_updates.specs.Redone.{Redone}
use Rattle.durable_updates.specs.Snapshots.{IsBase, Recalls}
use Rattle.durable_updates.specs.Versions.{AreFollowed, AreLed, IsOnTheWay}
use Rattle.durable_updates.specs.declared.recovering.TwoRecovered.{TwoRecovered}
use Rattle.durable_updates.proofs.Compactions.{stand_for}
use Rattle.durable_updates.proofs.Entries.{more}
use Rattle.durable_updates.proofs.Recalled.{recalls_front}

-- from no version
pub none_led : (makes : List (List ℕ) → MemoryZone → Type 0) (entries : List (List ℕ)) (history : List Difference) (zone : MemoryZone) → history ≡ [] → AreLed makes entries history zone
none_led makes entries history zone none = record {
  versions = [];
  were = tt;
  lead = subst (λ (l : List Difference). AllLead [] l zone) (sym none) (none_lead [] zone);
}

-- one entry more is done, of which the version before is known
pub one_more_led : RecordedLead → (makes : List (List ℕ) → MemoryZone → Type 0) (entries done rest : List (List ℕ)) (old new : MemoryZone) (history after : List Difference)
    → entries ≡ done ++ rest → makes done old → IsKeptUp old new history after → AreLed makes entries history old → AreLed makes entries after new
one_more_led law makes entries done rest old new history after split made kept led = record {
  versions = old ∷ led.versions;
  were = ((done, rest, split, made), led.were);
  lead = law led.versions old new history after led.lead kept;
}

-- of an entry that changed the zone
pub recorded : (before : Result (Option Before) AllocError) (seen left : MemoryZone) (updates : List (Record RData)) (history after : List Difference) (old new : MemoryZone) → seen ≡ old → left ≡ new
    → IsKnown seen updates before → Records before left history after → IsChangedBy updates old new → IsKeptUp old new history after
recorded before seen left updates history after old new saw same known records changed =
    inr (subst (λ (z : MemoryZone). IsRecorded old z history after) same
    (records old updates (subst (λ (z : MemoryZone). IsKnown z updates before) saw known) (subst (λ (z : MemoryZone). IsChangedBy updates old z) (sym same) changed)))

-- ---- what is done well

pub on_ok : {T E : Type 0} (P Q : Type 0) (result : Result T E) → (P → Q) → OnOk result P → OnOk result Q
on_ok P Q (Ok t) from h = from h
on_ok P Q (Err e) from h = tt

pub if_ok : {T E : Type 0} (P Q : T → Type 0) (result : Result T E) → ((t : T) → P t → Q t) → IfOk result P → IfOk result Q
if_ok P Q (Ok t) from h = from t h
if_ok P Q (Err e) from h = tt

-- the parts of the requests, one after the other
pub both : (n : ℕ) (requests : List (Vec ℕ Global)) → contents (take n requests) ++ contents (drop n requests) ≡ contents requests
both n requests = sym (map-append (λ (v : Vec ℕ Global). v.items) (take n requests) (drop n requests)) ∙ ap contents (take-append-drop n requests)

each : (P Q : MemoryZone → Type 0) → ((version : MemoryZone) → P version → Q version) → (versions : List MemoryZone) → AllByRecursion P versions → AllByRecursion Q versions
each P Q from [] are = tt
each P Q from (version ∷ versions) are = (from version are.0, each P Q from versions are.1)

module _ (entries requests earlier last : List (List ℕ)) (first base between : MemoryZone) (is : IsBase entries first base requests) (split : earlier ++ last ≡ requests) (done : Redone earlier base between) where
  pub all_recalled : (new : MemoryZone) → Redone last between new → Recalls entries first new
  all_recalled new rest = record {
    base = base;
    requests = requests;
    is_base = is;
    redone = subst (λ (l : List (List ℕ)). Redone l base new) split (more earlier last base between new done rest);
  }

  recalled : (version : MemoryZone) → IsOnTheWay (λ front zone. Redone front between zone) last version → IsOnTheWay (λ front zone. Recalls front first zone) entries version
  recalled version on =
      let f = recalls_front entries requests (earlier ++ on.0) on.1 first base version is
      (sym split ∙ ap (λ (l : List (List ℕ)). earlier ++ l) on.2 ∙ sym (append_assoc earlier on.0 on.1))
      (more earlier on.0 base between version done on.3) in
      (f.0, on.1, f.1, f.2)

  pub all_led : (history : List Difference) (new : MemoryZone) → AreLed (λ front zone. Redone front between zone) last history new → AreLed (λ front zone. Recalls front first zone) entries history new
  all_led history new led = record {
    versions = led.versions;
    were = each (IsOnTheWay (λ front zone. Redone front between zone) last) (IsOnTheWay (λ front zone. Recalls front first zone) entries) recalled led.versions led.were;
    lead = led.lead;
  }

pub followed : {D : Type 0} (disks : DiskGhosts D) (first second : D) (found : TwoRecovered) (opened other : D) (base new : MemoryZone) (history : List Difference) → AreFound disks first second found opened other
    → Recalls (contents (counting found).items) base new → AreLed (λ done version. Recalls done base version) (contents (counting found).items) history new → AreFollowed disks first second base history new
followed disks first second found opened other base new history are recalls led = record {
  recovered = record {
    opened = opened;
    other = other;
    entries = contents (counting found).items;
    stand = stand_for disks first second found opened other are;
    recalled = recalls;
    journals = λ a b. (are.first_recovers.journal a, are.second_recovers.journal b);
  };
  led = led;
}
