-- What is answered for a name that does not exist right below one that does, where nothing stands for it.
use Rattle.std.proofs.Common.{◌≡◌, ℕ, ◌+◌, ◌<◌, List, ◌∷◌, [], drop, length, get_or, Option, None, Some, ap, arith, length-append, refl, subst}
use Rattle.wire_names.specs.rr.domain.DomainName.{DomainName, wire_form}
use Rattle.wire_messages.specs.declared.rr.rr_key.RrKey.{RrKey}
use Rattle.zone_answers.proofs.lemmas.zones.CutsAbove.{above_encloser, undirected}
use Rattle.zone_answers.proofs.lemmas.zones.Outcomes.{below_encloser, is_above}
use Rattle.zone_answers.specs.declared.features.Features.{Features}
use Rattle.zone_answers.specs.representation.Features.{AreFeatures}
use Rattle.zone_answers.specs.representation.FoundRecords.{CutAbove, IsBare, IsEncloser, WildFound, missing_outcome}
use Rattle.zone_answers.specs.Zones.{Answers, Exists, Records, Sets, Zone, ancestor, direct}

-- The name right above one that does not exist is its closest encloser if it does.
pub encloser : (sets : Sets) (name parent : DomainName) → parent ≡ ancestor name 1 → ¬ (Exists sets name) → Exists sets parent → IsEncloser sets name parent
encloser sets name parent is missing x = record {
  off = 1;
  is = is;
  closest = record {
    exists = subst (Exists sets) is x;
    longest = λ j less y. let e : j ≡ 0 = omega arith in missing (subst (λ k. Exists sets (ancestor name k)) e y);
  };
}

-- where its features say so no wildcard stands below it
pub none_wild : (zone : Zone) (name : DomainName) (t : ℕ) (has : Features) (behind : Option RrKey) → AreFeatures zone has → IsBare has name behind → WildFound zone.sets (ancestor name 1) t None
none_wild zone name t has behind features bare = λ x. bare.wildcards (features.wildcards (ancestor name 1) bare.labels x)

pub answered_bare : (zone : Zone) (name : DomainName) (t : ℕ) (has : Features) (behind : Option RrKey) (above : Option Records) → AreFeatures zone has → IsBare has name behind
    → ¬ (Exists zone.sets name) → Exists zone.sets (ancestor name 1) → CutAbove zone name above → Answers zone name t (missing_outcome above)
answered_bare zone name t has behind (Some servers) features bare missing x cut = undirected zone name t servers (features.dnames bare.dnames) cut
answered_bare zone name t has behind None features bare missing x cut =
    let parent = ancestor name 1 in
    let e : IsEncloser zone.sets name parent = encloser zone.sets name parent refl missing x in
    direct (λ k r. features.dnames bare.dnames (ancestor name k) r.owner)
    (below_encloser zone name parent t None None e missing refl (above_encloser zone name parent e (is_above zone.sets name parent e missing) cut) (none_wild zone name t has behind features bare))

-- how many bytes the labels of a name take without the first one
pub parent_size : (ls : List (List ℕ)) (wire : List ℕ) → wire ≡ wire_form ls → 0 < length wire → length wire ≡ 1 + get_or wire 0 0 + length (wire_form (drop 1 ls))
parent_size [] wire is some = absurd (omega (arith, ap length is))
parent_size (l ∷ ls) wire is some = omega (arith, ap length is, ap (λ bytes. get_or bytes 0 0) is, length-append l (wire_form ls))

pub no_parent : (ls : List (List ℕ)) (wire : List ℕ) → wire ≡ wire_form ls → length wire ≡ 0 → 0 ≡ length (wire_form (drop 1 ls))
no_parent [] wire is none = refl
no_parent (l ∷ ls) wire is none = absurd (omega (arith, ap length is))
