-- What becomes of lines that are served in groups. Zones may hold the updates of a group, which then wait in memory and
-- are written together.
use Rattle.std.specs.Prelude.{◌≡◌, ◌++◌, ◌∷◌, [], ℕ, Bool, true, false, List, Option, Some, Vec, map}
use Rattle.std.specs.declared.alloc.Global.{Global}
use Rattle.wire_names.specs.rr.domain.DomainName.{DomainName}
use Rattle.signed_server.specs.KeyedServers.{KeyedServer, over}
use Rattle.zone_serve.specs.Served.{AreLines, LineServed}

-- the bytes of lines
abbrev pub contents : List (Vec ℕ Global) → List (List ℕ)
contents lines = map (λ (line : Vec ℕ Global). line.items) lines

-- What a reader gives next: lines that are at its front, or none, at its end.
abbrev pub NextLines : List ℕ → List (List ℕ) → Option (List ℕ) → Type 0
NextLines input [] left = input ≡ []
NextLines input (line ∷ lines) left = (rest : List ℕ) × AreLines input (line ∷ lines) rest × (left ≡ Some rest)

-- What becomes of lines, one after the other, each over the zones as those before it left them.
pub data EachServed {H : Type 0} (service : KeyedServer H) : List (List ℕ) → List ℕ → List (DomainName × List H) → Type 0 where
  none : EachServed service [] [] service.server.zones
  more : (lines : List (List ℕ)) (written line back : List ℕ) (tells : Bool) {between zones : List (DomainName × List H)} → EachServed service lines written between
      → LineServed (over service between) line back zones tells
      → EachServed service (lines ++ line ∷ []) (written ++ back) zones

module _ {H : Type 0} (begins : List (DomainName × List H) → List (DomainName × List H) → Type 0) where
  -- Zones hold their updates from then on, or all stay as they are.
  abbrev pub Begun : List (DomainName × List H) → List (DomainName × List H) → Bool → Type 0
  Begun old new true = begins old new
  Begun old new false = new ≡ old

module _ {H : Type 0} (begins settles : List (DomainName × List H) → List (DomainName × List H) → Type 0) where
  -- What becomes of a group: its lines are served one after the other; or zones hold their updates first, the lines are
  -- served, and the zones settle what they hold. (That its answers are written after that shows the call that makes
  -- them, which has no writer.)
  pub data GroupServed (service : KeyedServer H) (lines : List (List ℕ)) (written : List ℕ) : List (DomainName × List H) → Type 0 where
    as_lines : {zones : List (DomainName × List H)} → EachServed service lines written zones → GroupServed service lines written zones
    as_one : {held ahead zones : List (DomainName × List H)} → begins service.server.zones held → EachServed (over service held) lines written ahead → settles ahead zones
        → GroupServed service lines written zones

module _ {H : Type 0} (begins settles : List (DomainName × List H) → List (DomainName × List H) → Type 0) where
  -- What becomes of lines, group by group, each over the zones as those before it left them.
  pub data LinesServed (service : KeyedServer H) : List (List ℕ) → List ℕ → List (DomainName × List H) → Type 0 where
    none : LinesServed service [] [] service.server.zones
    more : (lines group : List (List ℕ)) (written back : List ℕ) {between zones : List (DomainName × List H)} → LinesServed service lines written between
        → GroupServed begins settles (over service between) group back zones
        → LinesServed service (lines ++ group) (written ++ back) zones
