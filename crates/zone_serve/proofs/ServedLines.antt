-- What becomes of the lines of an input goes on by one group.
use Rattle.std.proofs.Common.{◌≡◌, ◌<◌, ◌++◌, ◌∷◌, ℕ, List, [], Option, Some, None, IfSome, refl, sym, ap, subst, ◌∙◌, arith, append_assoc, length}
use Rattle.std.proofs.lemmas.List.{append-nil}
use Rattle.std.specs.Io.BufRead.{DropsThrough, drop_through, take_through}
use Rattle.std.specs.Io.KnownBytes.{Appends}
use Rattle.std.proofs.KnownBytes.{Appends-nil, Appends-trans}
use Rattle.wire_names.specs.rr.domain.DomainName.{DomainName}
use Rattle.hickory_catalog.specs.replies.Signing.{Signer}
use Rattle.hickory_base.specs.declared.zone_store.handler.ZoneHandler.{Ghosts}
use Rattle.zone_serve.specs.Groups.{GroupServed, LinesServed, NextLines}
use Rattle.zone_serve.specs.Groups.LinesServed.{more, none}
use Rattle.signed_server.specs.KeyedServers.{KeyedServer, keyed_of}
use Rattle.server.specs.Serving.{Stays}
use Rattle.zone_serve.specs.Served.{AreLines, NextLine}
use Rattle.signed_server.specs.declared.service.SignedServer.{SignedServer}
use Rattle.server.proofs.Streams.{same_keyed}

-- What was read of a known input is its next line.
pub next_known : (old new : Option (List ℕ)) (line : List ℕ) (count : ℕ) → ¬ (count ≡ 0) → length line ≡ count → IfSome old (λ xs. line ≡ take_through 10 xs) → DropsThrough old new 10
    → IfSome old (λ input. NextLine input (Some line) new)
next_known None new line count some is taken dropped = tt
next_known (Some []) new line count some is taken dropped = absurd (some (sym is ∙ ap length taken))
next_known (Some (x ∷ xs)) new line count some is taken dropped = (omega arith, taken, dropped)

-- A line stands behind others.
lines_more : (input : List ℕ) (lines : List (List ℕ)) (rest line : List ℕ) → AreLines input lines rest → 0 < length rest → line ≡ take_through 10 rest
    → AreLines input (lines ++ line ∷ []) (drop_through 10 rest)
lines_more input [] rest line is within line_is = (subst (λ (xs : List ℕ). 0 < length xs) is within, line_is ∙ ap (take_through 10) is, ap (drop_through 10) is)
lines_more input (l ∷ ls) rest line (some, first, are) within line_is = (some, first, lines_more (drop_through 10 input) ls rest line are within line_is)

-- lines stand behind others
lines_behind : (input : List ℕ) (lines : List (List ℕ)) (rest : List ℕ) (group : List (List ℕ)) (left : List ℕ) → AreLines input lines rest → AreLines rest group left
    → AreLines input (lines ++ group) left
lines_behind input [] rest group left is are = subst (λ (xs : List ℕ). AreLines xs group left) is are
lines_behind input (l ∷ ls) rest group left (some, first, those) are = (some, first, lines_behind (drop_through 10 input) ls rest group left those are)

-- ---- the lines of a group

-- the lines that were put so far behind others
abbrev pub PutSoFar : Option (List ℕ) → Option (List ℕ) → List (List ℕ) → List (List ℕ) → Type 0
PutSoFar old new before after = IfSome old (λ input. (those : List (List ℕ)) × (rest : List ℕ) × AreLines input those rest × (new ≡ Some rest) × (after ≡ before ++ those))

pub put_none : (old : Option (List ℕ)) (before : List (List ℕ)) → PutSoFar old old before before
put_none None before = tt
put_none (Some input) before = ([], input, refl, refl, sym (append-nil before))

-- one more
pub put_more : (old between new : Option (List ℕ)) (before after grown : List (List ℕ)) (line : List ℕ) → PutSoFar old between before after → IfSome between (λ input. NextLine input (Some line) new)
    → grown ≡ after ++ line ∷ [] → PutSoFar old new before grown
put_more None between new before after grown line so_far next is = tt
put_more (Some input) between new before after grown line (those, rest, are, at, put) next is =
    let (within, line_is, left) = rw at at next in (
      those ++ line ∷ [],
      drop_through 10 rest,
      lines_more input those rest line are within line_is,
      left,
      is ∙ ap (λ (l : List (List ℕ)). l ++ line ∷ []) put ∙ append_assoc before those (line ∷ []),
    )

-- a line, and those at hand behind it
pub group_of : (old between new : Option (List ℕ)) (line : List ℕ) (lines : List (List ℕ)) → IfSome old (λ input. NextLine input (Some line) between) → PutSoFar between new (line ∷ []) lines
    → IfSome old (λ input. NextLines input lines new)
group_of None between new line lines next put = tt
group_of (Some input) between new line lines (within, line_is, left) put =
    let (those, rest, are, at, is) = rw left at put in
    subst (λ (l : List (List ℕ)). NextLines input l new) (sym is) (rest, (within, line_is, are), at)

-- ---- what became of groups

-- What became of the lines so far, where the input is known.
abbrev pub LinesSoFar : {H : Type 0} → (List (DomainName × List H) → List (DomainName × List H) → Type 0) → (List (DomainName × List H) → List (DomainName × List H) → Type 0)
    → KeyedServer H → Option (List ℕ) → Option (List ℕ) → Option (List ℕ) → Option (List ℕ) → List (DomainName × List H) → Type 0
LinesSoFar begins settles service old new held kept zones = IfSome old (λ input. (lines : List (List ℕ)) × (written : List ℕ) × (rest : List ℕ) × (new ≡ Some rest)
    × AreLines input lines rest × LinesServed begins settles service lines written zones × Appends held kept written)

module _ {H : Type 0} (begins settles : List (DomainName × List H) → List (DomainName × List H) → Type 0) where
  pub so_far_none : (service : KeyedServer H) (old held : Option (List ℕ)) → LinesSoFar begins settles service old old held held service.server.zones
  so_far_none service None held = tt
  so_far_none service (Some input) held = ([], [], input, refl, refl, none, Appends-nil held)

  module _ {S : Type 0} (handler : Ghosts H) (signature_for : S → Signer) (first middle last : SignedServer S H) (stays : Stays first middle)
      (old between new held kept after : Option (List ℕ)) where
    -- One more group is served, over the zones as those before it left them.
    pub so_far_more : (group : List (List ℕ)) (back : List ℕ) → (group ≡ [] → ⊥)
        → LinesSoFar begins settles (keyed_of handler signature_for first) old between held kept middle.server.catalog.zones
        → IfSome between (λ input. NextLines input group new)
        → GroupServed begins settles (keyed_of handler signature_for middle) group back last.server.catalog.zones → Appends kept after back
        → LinesSoFar begins settles (keyed_of handler signature_for first) old new held after last.server.catalog.zones
    so_far_more [] back some so_far next served appends = absurd (some refl)
    so_far_more (line ∷ group) back some so_far next served appends = by_input old so_far where
      by_input : (old : Option (List ℕ)) → LinesSoFar begins settles (keyed_of handler signature_for first) old between held kept middle.server.catalog.zones
          → LinesSoFar begins settles (keyed_of handler signature_for first) old new held after last.server.catalog.zones
      by_input None before = tt
      by_input (Some input) (lines, written, rest, is, are, before, holds) =
          let (left, those, at) = rw is at next in (
            lines ++ line ∷ group,
            written ++ back,
            left,
            at,
            lines_behind input lines rest (line ∷ group) left are those,
            more lines (line ∷ group) written back before
                (subst (λ (s : KeyedServer H). GroupServed begins settles s (line ∷ group) back last.server.catalog.zones) (same_keyed handler signature_for first middle stays) served),
            Appends-trans held kept after written back holds appends,
          )

    -- At the end of the input there is no more.
    pub so_far_all : (group : List (List ℕ)) → group ≡ []
        → LinesSoFar begins settles (keyed_of handler signature_for first) old between held kept middle.server.catalog.zones → IfSome between (λ input. NextLines input group new)
        → IfSome old (λ input. (lines : List (List ℕ)) × (written : List ℕ) × AreLines input lines []
        × LinesServed begins settles (keyed_of handler signature_for first) lines written middle.server.catalog.zones × Appends held kept written)
    so_far_all group empty so_far next = by_input old so_far where
      by_input : (old : Option (List ℕ)) → LinesSoFar begins settles (keyed_of handler signature_for first) old between held kept middle.server.catalog.zones
          → IfSome old (λ input. (lines : List (List ℕ)) × (written : List ℕ) × AreLines input lines []
          × LinesServed begins settles (keyed_of handler signature_for first) lines written middle.server.catalog.zones × Appends held kept written)
      by_input None before = tt
      by_input (Some input) (lines, written, rest, is, are, before, holds) =
          let ended = rw (is, empty) at next in
          (lines, written, subst (AreLines input lines) ended are, before, holds)
