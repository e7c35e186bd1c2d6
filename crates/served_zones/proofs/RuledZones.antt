-- Zones that have rules, and how the catalog finds them.
use Rattle.std.proofs.Common.{◌≡◌, ◌⊎◌, inl, inr, ◌↔◌, Bool, true, false, not, [], ◌∷◌, Option, Some, None, Result, Ok, Err, OnErr, OnOk, option_map, refl, sym, ◌∙◌, subst, arith}
use Rattle.std.specs.Prelude.{IsNone, IsTrue, is_some}
use Rattle.either.specs.declared.Either.TheVariants.{Left, Right}
use Rattle.wire_names.specs.rr.domain.DomainName.{DomainName}
use Rattle.wire_names.specs.rr.domain.NameOrder.{SameName}
use Rattle.hickory_catalog.specs.zones.Find.{Finds}
use Rattle.hickory_catalog.specs.zones.Kept.{KeptAt}
use Rattle.hickory_catalog.specs.zones.Zones.{AreInOrder, HasZone, ZoneChains}
use Rattle.hickory_catalog.proofs.lemmas.zones.Nearest.{MayBy, no_longer, same_length}
use Rattle.hickory_catalog.proofs.lemmas.zones.OneAnswer.{one_answer}
use Rattle.sqlite_disk.specs.declared.Disk.{Ghosts as DiskGhosts}
use Rattle.served_zones.specs.Journals.{HandlerIsStopped, HandlerOpens, HasRules, TakesUpdates}
use Rattle.served_zones.specs.ServedZones.{Chain, ServedHandler}
use Rattle.served_zones.specs.ZoneChanges.{IsFirst}

-- Whether there was nothing before.
pub is_fresh : {A B : Type 0} (f : A → B) (old : Option A) (fresh : Bool) → is_some old ≡ not fresh → IsTrue fresh ↔ IsNone (option_map f old)
is_fresh f None true is = (λ yes. refl, λ none. refl)
is_fresh f None false is = absurd cc
is_fresh f (Some value) true is = absurd cc
is_fresh f (Some value) false is = (λ yes. absurd cc, λ none. absurd cc)

may_answer : (b : Bool) (apex name : DomainName) → name.is_fqdn ≡ b → SameName apex name → MayBy b apex name
may_answer true apex name is same = (same.marks ∙ is, record { front = []; ends = sym same.labels })
may_answer false apex name is same = same

-- The chain that is kept for an apex is the one that is found for it.
pub kept_found : (zones : ZoneChains ServedHandler) (name : DomainName) (chain : Chain) → KeptAt zones name (Some chain) → HasZone zones name × Finds zones name (Some chain)
kept_found zones name chain kept = (
  (kept.2.0, (kept.0, chain), kept.2.1, kept.2.2, kept.1),
  (
    kept.0,
    record {
      among = kept.2;
      may_answer = may_answer name.is_fqdn kept.0 name refl kept.1;
      longest = λ k d h may. omega (arith, no_longer _ name may, same_length kept.0 name kept.1);
    },
  ),
)

-- If the first handler of the chain that is kept for an apex has rules, the zone takes updates.
pub kept_takes : (zones : ZoneChains ServedHandler) (name : DomainName) (chain : Chain) → KeptAt zones name (Some chain) → HasRules chain → TakesUpdates zones name
kept_takes zones name chain kept has =
    let found = kept_found zones name chain kept in
    (found.0, chain, found.1, has)

-- The chain that is found is the one whose first handler has rules.
pub found_has : (zones : ZoneChains ServedHandler) (name : DomainName) (chain : Chain) → AreInOrder zones → Finds zones name (Some chain) → TakesUpdates zones name → HasRules chain
found_has zones name chain ordered found takes =
    let one : Some takes.1 ≡ Some chain = one_answer zones name (Some takes.1) (Some chain) ordered takes.2 found in
    let same : takes.1 ≡ chain = cc in
    subst HasRules same takes.3

-- ---- a zone whose journal is opened has rules

module _ {D : Type 0} (disks : DiskGhosts D) (first second : D) where
  opens : (before after : ServedHandler) (rest : Chain) → HandlerOpens disks first second before after → HasRules (before ∷ rest)
  opens (Left zone) (Left new) rest is = is.0
  opens (Left zone) (Right list) rest is = absurd is
  opens (Right list) new rest is = absurd is

  stops : (before after : ServedHandler) (rest : Chain) → HandlerIsStopped disks first second before after → HasRules (before ∷ rest)
  stops (Left zone) (Left new) rest is = is.0
  stops (Left zone) (Right list) rest is = absurd is
  stops (Right list) new rest is = absurd is

  -- A chain without rules stays, whatever the answer.
  pub only_ruled : {T E : Type 0} (result : Result T E) (old new : Chain) → OnOk result (IsFirst (HandlerOpens disks first second) old new)
      → OnErr result ((new ≡ old) ⊎ IsFirst (HandlerIsStopped disks first second) old new) → ¬ (HasRules old) → new ≡ old
  only_ruled (Ok opened) old new is err none = absurd (none (subst HasRules (sym is.was) (opens is.before is.after is.rest is.changes)))
  only_ruled (Err e) old new is (inl same) none = same
  only_ruled (Err e) old new is (inr stopped) none = absurd (none (subst HasRules (sym stopped.was) (stops stopped.before stopped.after stopped.rest stopped.changes)))
