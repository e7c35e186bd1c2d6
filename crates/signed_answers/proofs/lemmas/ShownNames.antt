-- Names and RRsets for which something is shown.
use Rattle.std.proofs.Common.{◌≡◌, ℕ, zero, suc, ◌<◌, ◌≤◌, true, false, Bool, cond, ◌&&◌, List, [], ◌∷◌, ◌++◌, drop, length, length-append, Option, Some, None, inl, inr, refl, sym, ap, subst, ◌∙◌, arith}
use Rattle.std.specs.Prelude.{◌⊎◌, ◌↔◌}
use Rattle.std.specs.List.{flat_map}
use Rattle.std.specs.List.Sorted.{IsStrictlySortedBy}
use Rattle.std.specs.Map.{keys_of, lookup}
use Rattle.std.specs.BTreeMap.Range.{entries_between}
use Rattle.std.specs.Ordering.{is_eq, is_gt, nat_cmp, ordering_then}
use Rattle.std.specs.declared.ops.Bound.TheVariants.{Included, Unbounded}
use Rattle.wire_names.specs.representation.NameHash.{equal_is}
use Rattle.wire_names.specs.rr.domain.DomainName.{AreLabels, DomainName, IsLabel, name_len}
use Rattle.wire_names.specs.rr.domain.NameOrder.{SameName, name_cmp}
use Rattle.wire_names.proofs.lemmas.rr.domain.SameNames.{same_order}
use Rattle.wire_messages.specs.rr.RrKeys.{key_cmp}
use Rattle.wire_messages.specs.declared.rr.rdata.RData.{RData}
use Rattle.wire_messages.specs.declared.rr.record.Record.{Record}
use Rattle.wire_messages.specs.declared.rr.rr_key.RrKey.{RrKey}
use Rattle.hickory_base.proofs.lemmas.zone_store.KeyOrder.{from_first_on, of_name, while_of}
use Rattle.hickory_base.proofs.lemmas.zone_store.SharedSets.{records-shared}
use Rattle.hickory_base.proofs.lemmas.zone_store.ZoneByName.{eq_then, itself}
use Rattle.hickory_base.specs.zone_store.ZoneAnswers.{records_at}
use Rattle.hickory_base.specs.zone_store.ZoneSets.{IsZone, IsZoneSet, has_name, is_key, sets_of}
use Rattle.zone_answers.proofs.lemmas.zones.Beside.{tells}
use Rattle.zone_answers.proofs.lemmas.zones.Every.{all_in_front}
use Rattle.zone_answers.proofs.lemmas.zones.Owners.{above_same, turned}
use Rattle.zone_answers.specs.representation.FoundRecords.{IsAbove}
use Rattle.zone_answers.specs.representation.KeysBeside.{Entry, SharedMap, StandsBehind}
use Rattle.zone_answers.specs.Zones.{AreOwners, Exists, HasClosestEncloser, Records, Sets, ancestor, answer, any_of, rrset, wildcard}
use Rattle.zone_denials.proofs.lemmas.EnclosedBetween.{same_back, same_of}
use Rattle.zone_denials.proofs.lemmas.SignedZones.{same_trans}
use Rattle.signed_answers.specs.LentSets.{IsLastBelow}
use Rattle.signed_answers.specs.NsecSets.{IsUpTo, NsecFor, Rrset}

key_same : (a b : DomainName) (t : ℕ) (key : RrKey) → SameName a b → is_key a t key ≡ is_key b t key
key_same a b t key s = ap (λ o. is_eq (ordering_then o (nat_cmp t key.record_type))) (same_order a key.name b key.name s (itself key.name))

-- names that are the same own the same RRsets
pub rrset_same : (sets : Sets) (a b : DomainName) (t : ℕ) → SameName a b → rrset sets a t ≡ rrset sets b t
rrset_same [] a b t s = refl
rrset_same (e ∷ sets) a b t s =
    ap (λ c. cond c (Some e.1) (lookup (is_key a t) sets)) (key_same a b t e.0 s) ∙ ap (λ (o : Option Records). cond (is_key b t e.0) (Some e.1) o) (rrset_same sets a b t s)

and_first : (a b : Bool) → (a && b) ≡ true → a ≡ true
and_first true b h = refl
and_first false b h = absurd cc

some_same : {A : Type 0} {x y : A} → Some x ≡ Some y → x ≡ y
some_same e = cc

-- An RRset of a zone, under its own key.
record Kept (name : DomainName) (rs : Records) : Type 0 where
  key : RrKey
  named : SameName name key.name
  set : IsZoneSet key rs

kept_step : (b : Bool) (name : DomainName) (t : ℕ) (e : Rrset) (sets : Sets) (rs : Records) → is_key name t e.0 ≡ b → IsZoneSet e.0 e.1 → cond b (Some e.1) (lookup (is_key name t) sets) ≡ Some rs → (rrset sets name t ≡ Some rs → Kept name rs) → Kept name rs
kept_step true name t e sets rs is zone h go = record {
  key = e.0;
  named = same_of name e.0.name (equal_is (name_cmp name e.0.name) (and_first (is_eq (name_cmp name e.0.name)) (is_eq (nat_cmp t e.0.record_type)) (sym (eq_then (name_cmp name e.0.name) (nat_cmp t e.0.record_type)) ∙ is)));
  set = subst (λ (qs : Records). IsZoneSet e.0 qs) (some_same h) zone;
}
kept_step false name t e sets rs is zone h go = go h

kept : (sets : Sets) (name : DomainName) (t : ℕ) (rs : Records) → IsZone sets → rrset sets name t ≡ Some rs → Kept name rs
kept [] name t rs zone h = absurd cc
kept (e ∷ sets) name t rs zone h = kept_step (is_key name t e.0) name t e sets rs refl zone.0 h (kept sets name t rs zone.1)

-- the records of an RRset have the name of its owner
pub name_of_first : (sets : Sets) (name : DomainName) (t : ℕ) (r : Record RData) (rs : Records) → IsZone sets → rrset sets name t ≡ Some (r ∷ rs) → SameName r.name name
name_of_first sets name t r rs zone h = let k = kept sets name t (r ∷ rs) zone h in same_trans r.name k.key.name name k.set.under.0.name (same_back name k.key.name k.named)

-- and there is one
pub none_empty : (sets : Sets) (name : DomainName) (t : ℕ) → IsZone sets → rrset sets name t ≡ Some [] → ⊥
none_empty sets name t zone h = omega (arith, (kept sets name t [] zone h).set.filled)

up_same : (x a b : DomainName) → SameName a b → IsUpTo x a → IsUpTo x b
up_same x a b s up = ap is_gt (same_order x b x a (itself x) (same_back a b s)) ∙ up

-- names that are the same have the same NSEC RRset
pub nsec_same : (sets : Sets) (a b : DomainName) (o : Option Rrset) → SameName a b → NsecFor sets a o → NsecFor sets b o
nsec_same sets a b None s none = λ f held typed up. none f held typed (up_same f.0.name b a (same_back a b s) up)
nsec_same sets a b (Some e) s at = record {
  held = at.held;
  nsec = at.nsec;
  up_to = up_same e.0.name a b s at.up_to;
  last = λ f held typed up. at.last f held typed (up_same f.0.name b a (same_back a b s) up);
}

-- the keys on both sides of a name tell which names above it exist
pub sides_tell : (sets : SharedMap) (first : RrKey) (origin : DomainName) (before after : Option RrKey) → first.record_type ≡ 0 → first.name.is_fqdn ≡ true → AreOwners origin (sets_of sets) → IsLastBelow sets first before → StandsBehind sets first after
    → (k : ℕ) → Exists (sets_of sets) (ancestor first.name k) ↔ (IsAbove (ancestor first.name k) before ⊎ IsAbove (ancestor first.name k) after)
sides_tell sets first origin before after least qualified owners low b k =
    let own = tells sets first least qualified origin owners b.range low.range b.whole b.of low.whole low.of k b.own before b.least low.last in
    let n = ancestor first.name k in (
      λ x. elim (own.0 x) [ inl l ↦ inl l | inr h ↦ inr (above_same n b.own after (turned after b.own b.same) h) ],
      λ a. own.1 (elim a [ inl l ↦ inl l | inr h ↦ inr (above_same n after b.own b.same h) ]),
    )

-- names are not longer than those below them
drop_len : (k : ℕ) (ls : List (List ℕ)) → name_len (drop k ls) ≤ name_len ls
drop_len zero ls = omega arith
drop_len (suc k) [] = omega arith
drop_len (suc k) (l ∷ ls) = omega (arith, drop_len k ls)

-- the wildcard for a name that does not exist is not too long
pub wild_short : (sets : Sets) (name : DomainName) (k : ℕ) → AreLabels name.labels → ¬ (Exists sets name) → HasClosestEncloser sets name k → 255 < name_len (wildcard (ancestor name k)).labels → ⊥
wild_short sets name k labels none c long = by_labels k name.labels refl labels c.exists long where
  by_labels : (j : ℕ) (ls : List (List ℕ)) → name.labels ≡ ls → AreLabels ls → Exists sets (ancestor name j) → 255 < name_len ((42 ∷ []) ∷ drop j name.labels) → ⊥
  by_labels zero ls is of x far = none x
  by_labels (suc j) [] is of x far = absurd (omega (arith, far, ap (λ (xs : List (List ℕ)). name_len (drop (suc j) xs)) is))
  by_labels (suc j) (l ∷ ls) is of x far =
      let first : IsLabel l = of.each 0 l (omega arith) in
      absurd (omega (arith, far, ap (λ (xs : List (List ℕ)). name_len (drop (suc j) xs)) is, drop_len j ls, of.short, first.0))

pub owns_first : (sets : SharedMap) (first : RrKey) (range rest : List Entry) (e : Entry) → first.record_type ≡ 0 → IsStrictlySortedBy key_cmp (keys_of sets.entries) → range ≡ entries_between key_cmp (Included first) Unbounded sets.entries → range ≡ e ∷ rest
    → has_name first.name e.0 ≡ true → 0 < length e.1.value → 0 < length (records_at first.name (sets_of sets))
owns_first sets first range rest e least sorted whole starts named filled =
    let is : records_at first.name (sets_of sets) ≡ all_in_front first (e ∷ rest) =
    records-shared (has_name first.name) sets.entries ∙ ap (flat_map (λ (q : Entry). q.1.value)) (from_first_on first sets.entries range least sorted whole) ∙ ap (all_in_front first) starts in
    let own : all_in_front first (e ∷ rest) ≡ e.1.value ++ all_in_front first rest = ap (λ b. flat_map (λ (q : Entry). q.1.value) (cond b (e ∷ while_of (of_name first) rest) [])) named in
    omega (arith, ap length (is ∙ own), length-append e.1.value (all_in_front first rest), filled)

pub some_answer : (rs : Records) → 0 < length rs → any_of rs ≡ answer rs
some_answer [] h = absurd (omega arith)
some_answer (r ∷ rs) h = refl
