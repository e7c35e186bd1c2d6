-- Rules of transfers that are put among those of their zone.
use Rattle.std.proofs.Common.{◌≡◌, ◌∙◌, ◌<◌, ◌≤◌, ◌⊎◌, ◌+◌, ◌++◌, ◌∷◌, [], ℕ, Bool, List, MatchOption, None, Option, Some, ap, arith, cond, false, get_or, inl, inr, length, nat_lt, not, refl, subst, sym, true, unwrap_or}
use Rattle.std.proofs.Math.Dec.{eqb}
use Rattle.std.proofs.lemmas.Cmp.{eq_by_cmp_equiv}
use Rattle.std.proofs.lemmas.Bool.Decides.{nat_tests}
use Rattle.std.proofs.lemmas.Grind.{common_steps}
use Rattle.std.proofs.lemmas.List.Folds.{find-append, find-set, find_at, find_past, position_or_len_push}
use Rattle.std.proofs.lemmas.List.Sums.{passes_at_first, prefix_len-le-length}
use Rattle.std.proofs.lemmas.Option.{get_or_from_slice_get, slice_get-get_or, slice_get_cases, slice_get_past}
use Rattle.std.proofs.Math.Seq.{get_or-append_seam}
use Rattle.std.specs.List.{position, position_or_len, slice_get}
use Rattle.std.specs.Option.{option_or}
use Rattle.wire_names.specs.rr.domain.DomainName.{DomainName}
use Rattle.wire_names.specs.rr.domain.NameOrder.{name_cmp_total, name_eq}
use Rattle.hickory_server.specs.server.Ruling.{own_of}
use Rattle.hickory_server.specs.declared.server.rules.ZoneTransfers.{ZoneTransfers}
use Rattle.server.specs.Transfers.{ChangesOwn, IsClosed, IsOwnOrClosed, IsPlace, SetsAt}

itself : (name : DomainName) → name_eq name name ≡ true
itself name = (eq_by_cmp_equiv name_cmp_total).refl name

apart : (one apex name : DomainName) → name_eq one apex ≡ true → name_eq apex name ≡ false → name_eq one name ≡ false
apart one apex name same differs = (eq_by_cmp_equiv name_cmp_total).congr one apex name same ∙ differs

or_none : {A : Type 0} (found : Option A) → option_or found None ≡ found
or_none None = refl
or_none (Some a) = refl

either_length : (b : Bool) (n : ℕ) → cond b (n + 0) n ≡ n
either_length true n = omega arith
either_length false n = refl

longer : {A : Type 0} (xs : List A) (x : A) → length xs < length (xs ++ x ∷ [])
longer xs x = grind (arith, common_steps)

last : {A : Type 0} (xs : List A) (x : A) → slice_get (xs ++ x ∷ []) (length xs) ≡ Some x
last xs x = slice_get-get_or (xs ++ x ∷ []) (length xs) x (longer xs x) ∙ ap Some (get_or-append_seam xs x [] x)

past_end : {A : Type 0} (xs : List A) → slice_get xs (length xs) ≡ None
past_end xs = slice_get_past xs (length xs) (omega arith)

-- the first place, or the end
pub or_end : {A : Type 0} (p : A → Bool) (xs : List A) → unwrap_or (position p xs) (length xs) ≡ position_or_len p xs
or_end p xs = by (nat_lt (position_or_len p xs) (length xs)) refl where
  by : (b : Bool) → nat_lt (position_or_len p xs) (length xs) ≡ b → unwrap_or (cond b (Some (position_or_len p xs)) None) (length xs) ≡ position_or_len p xs
  by true is = refl
  by false is = grind (arith, nat_tests, prefix_len-le-length (λ x. not (p x)) xs)

module _ (apex : DomainName) where
  abbrev is_of : ZoneTransfers → Bool
  is_of zone = name_eq zone.apex apex

  -- the zone has rules at this place
  pub place_found : (zones : List ZoneTransfers) (place : ℕ) → place ≡ position_or_len is_of zones → place < length zones → IsPlace apex zones zones place
  place_found zones place first inside = by (slice_get_cases zones place).1 where
    by : ((zone : ZoneTransfers) × (place < length zones) × (slice_get zones place ≡ Some zone) × (get_or zones place zone ≡ zone)) ⊎ ((length zones ≤ place) × (slice_get zones place ≡ None))
        → IsPlace apex zones zones place
    by (inl (zone, _, there, _)) =
        let found : own_of zones apex ≡ Some zone = find_at is_of zones ∙ ap (slice_get zones) (sym first) ∙ there in
        record {
          first = first;
          inside = inside;
          zone = zone;
          there = there;
          was = subst (λ (own : Option ZoneTransfers). MatchOption own (IsClosed apex zone) (λ it. zone ≡ it)) (sym found) refl;
          others = λ name differs. refl;
        }
    by (inr (past, _)) = absurd (omega (arith, past, inside))

  -- it has none, and gets those by which nobody may have it
  pub place_made : (zones : List ZoneTransfers) (zone : ZoneTransfers) → IsClosed apex zone → length zones ≡ position_or_len is_of zones → IsPlace apex zones (zones ++ zone ∷ []) (length zones)
  place_made zones zone closed none =
      let it : is_of zone ≡ true = ap (λ (name : DomainName). name_eq name apex) closed.apex_is ∙ itself apex in
      let missing : own_of zones apex ≡ None = find_at is_of zones ∙ ap (slice_get zones) (sym none) ∙ past_end zones in
      record {
        first = sym (position_or_len_push is_of zones zone
            ∙ subst (λ (n : ℕ). cond (eqb n (length zones)) (length zones + cond (is_of zone) 0 1) n ≡ length zones) none
            (subst (λ (b : Bool). cond (eqb (length zones) (length zones)) (length zones + cond b 0 1) (length zones) ≡ length zones) (sym it)
            (either_length (eqb (length zones) (length zones)) (length zones))));
        inside = longer zones zone;
        zone = zone;
        there = last zones zone;
        was = subst (λ (own : Option ZoneTransfers). MatchOption own (IsClosed apex zone) (λ it. zone ≡ it)) (sym missing) closed;
        others = λ name differs.
            find-append (λ (it : ZoneTransfers). name_eq it.apex name) zones (zone ∷ [])
            ∙ ap (λ (b : Bool). option_or (own_of zones name) (cond b (Some zone) None)) (apart zone.apex apex name it differs)
            ∙ or_none (own_of zones name);
      }

  pub place_made_at : (zones new : List ZoneTransfers) (zone : ZoneTransfers) (place : ℕ) → IsClosed apex zone → place ≡ position_or_len is_of zones → length zones ≤ place
      → new ≡ zones ++ zone ∷ [] → IsPlace apex zones new place
  place_made_at zones new zone place closed first past is =
      let none : length zones ≡ position_or_len is_of zones = omega (arith, first, past, prefix_len-le-length (λ (it : ZoneTransfers). not (is_of it)) zones) in
      let there : length zones ≡ place = none ∙ sym first in
      subst (IsPlace apex zones new) there (subst (λ (zs : List ZoneTransfers). IsPlace apex zones zs (length zones)) (sym is) (place_made zones zone closed none))

  module _ (Change : ZoneTransfers → ZoneTransfers → Type 0) (old middle new : List ZoneTransfers) (place : ℕ) (at : IsPlace apex old middle place) (sets : SetsAt Change place middle new) where
    there : get_or middle place sets.before ≡ sets.before
    there = get_or_from_slice_get middle place sets.before sets.before sets.was

    is_before : is_of sets.before ≡ true
    is_before =
        ap is_of (sym there)
        ∙ subst (λ (n : ℕ). is_of (get_or middle n sets.before) ≡ true) (sym at.first)
        (passes_at_first is_of middle sets.before (subst (λ (n : ℕ). n < length middle) at.first at.inside))

    is_after : is_of sets.after ≡ true
    is_after = ap (λ (name : DomainName). name_eq name apex) sets.same_apex ∙ is_before

    same : at.zone ≡ sets.before
    same = let one : Some at.zone ≡ Some sets.before = sym at.there ∙ sets.was in cc

    pub changed_at : ChangesOwn Change apex old new
    changed_at = record {
      before = sets.before;
      after = sets.after;
      was = subst (IsOwnOrClosed apex old) same at.was;
      changes = sets.changes;
      is = subst (λ (zones : List ZoneTransfers). own_of zones apex ≡ Some sets.after) (sym sets.is) (find-set is_of middle place sets.after at.first at.inside is_after);
      others = λ name differs.
          ap (λ (zones : List ZoneTransfers). own_of zones name) sets.is
          ∙ find_past (λ (it : ZoneTransfers). name_eq it.apex name) middle place sets.after sets.before
          (ap (λ (it : ZoneTransfers). name_eq it.apex name) there ∙ apart sets.before.apex apex name is_before differs)
          (ap (λ (one : DomainName). name_eq one name) sets.same_apex ∙ apart sets.before.apex apex name is_before differs)
          ∙ at.others name differs;
    }
