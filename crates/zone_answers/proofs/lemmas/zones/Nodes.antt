-- The RRsets of a name are told by a walk from the name's first key on.
use Rattle.std.proofs.Common.{◌≡◌, ℕ, Bool, true, false, cond, ◌&&◌, List, [], ◌∷◌, filter, Option, Some, None, refl, sym, ap, ◌∙◌}
use Rattle.std.specs.Prelude.{◌==◌}
use Rattle.std.specs.List.Sorted.{IsStrictlySortedBy}
use Rattle.std.specs.Map.{keys_of, lookup}
use Rattle.std.specs.BTreeMap.Range.{entries_between}
use Rattle.std.specs.Ordering.{is_eq, nat_cmp}
use Rattle.std.specs.declared.alloc.Global.{Global}
use Rattle.std.specs.declared.ops.Bound.TheVariants.{Included, Unbounded}
use Rattle.std.specs.declared.rc.Rc.{Rc}
use Rattle.wire_names.specs.rr.domain.NameOrder.{name_cmp}
use Rattle.wire_messages.specs.rr.RrKeys.{key_cmp}
use Rattle.wire_messages.specs.declared.rr.rr_key.RrKey.{RrKey}
use Rattle.hickory_base.proofs.lemmas.zone_store.KeyOrder.{from_first_on, of_name, while_of}
use Rattle.hickory_base.proofs.lemmas.zone_store.ZoneByName.{eq_numbers, eq_then, itself}
use Rattle.hickory_base.specs.declared.zone_store.record_set.RecordSet.{RecordSet}
use Rattle.hickory_base.specs.zone_store.ZoneSets.{has_name, is_key, shared_sets}
use Rattle.std.specs.Option.{unwrap_or}
use Rattle.zone_answers.specs.representation.KeysBeside.{HaveOneName, IsFirst}
use Rattle.zone_answers.specs.Zones.{Records, rrset}
use Rattle.zone_answers.specs.representation.FoundRecords.{first_or}

abbrev pub Entries : Type 0
Entries = List (RrKey × Rc RecordSet Global)

abbrev pub of_type : ℕ → RrKey → Bool
of_type t key = t == key.record_type

module _ (first : RrKey) (t : ℕ) where
  -- the RRset of the type among the entries of the name in front
  abbrev pub in_front : Entries → Option Records
  in_front es = lookup (of_type t) (shared_sets (while_of (of_name first) es))

  key_is : (key : RrKey) → is_key first.name t key ≡ (has_name first.name key && of_type t key)
  key_is key = eq_then (name_cmp first.name key.name) (nat_cmp t key.record_type) ∙ ap (λ b. is_eq (name_cmp first.name key.name) && b) (eq_numbers t key.record_type)

  lookup_step : (b : Bool) (e : RrKey × Rc RecordSet Global) (es : Entries) (set : Option Records) → set ≡ lookup (of_type t) (shared_sets es)
      → cond (b && of_type t e.0) (Some e.1.value) set ≡ lookup (of_type t) (shared_sets (cond b (e ∷ es) es))
  lookup_step true e es set same = ap (λ rest. cond (of_type t e.0) (Some e.1.value) rest) same
  lookup_step false e es set same = same

  lookup_of_name : (es : Entries) → lookup (is_key first.name t) (shared_sets es) ≡ lookup (of_type t) (shared_sets (filter (of_name first) es))
  lookup_of_name [] = refl
  lookup_of_name (e ∷ es) =
      ap (λ b. cond b (Some e.1.value) (lookup (is_key first.name t) (shared_sets es))) (key_is e.0)
      ∙ lookup_step (has_name first.name e.0) e (filter (of_name first) es) _ (lookup_of_name es)

  pub front_is : (es range : Entries) → first.record_type ≡ 0 → IsStrictlySortedBy key_cmp (keys_of es)
      → range ≡ entries_between key_cmp (Included first) Unbounded es → in_front range ≡ rrset (shared_sets es) first.name t
  front_is es range e sorted is = ap (λ xs. lookup (of_type t) (shared_sets xs)) (sym (from_first_on first es range e sorted is)) ∙ sym (lookup_of_name es)

or_step : (a x : Option Records) (b : Bool) (r : Records) → first_or (first_or a (cond b (Some r) None)) x ≡ first_or a (cond b (Some r) x)
or_step (Some rs) x b r = refl
or_step None x true r = refl
or_step None x false r = refl

pub or_none : (a : Option Records) → first_or a None ≡ a
or_none (Some rs) = refl
or_none None = refl

-- a step of the walk over an entry of the name
pub walks_on : (first : RrKey) (t : ℕ) (a b : Option Records) (e : RrKey × Rc RecordSet Global) (rest its : Entries) (r : Records) (whole : Option Records) → has_name first.name e.0 ≡ true → e.1.value ≡ r → its ≡ e ∷ rest
    → b ≡ first_or a (cond (of_type t e.0) (Some r) None) → first_or a (in_front first t its) ≡ whole → first_or b (in_front first t rest) ≡ whole
walks_on first t a b e rest its r whole named value front is before =
    ap (λ x. first_or x (in_front first t rest)) is ∙ or_step a (in_front first t rest) (of_type t e.0) r
    ∙ ap (λ v. first_or a (cond (of_type t e.0) (Some v) (in_front first t rest))) (sym value)
    ∙ sym (ap (λ n. first_or a (lookup (of_type t) (shared_sets (cond n (e ∷ while_of (of_name first) rest) [])))) named)
    ∙ sym (ap (λ xs. first_or a (in_front first t xs)) front) ∙ before

-- the walk ends at an entry of another name
pub walk_ends : (first : RrKey) (t : ℕ) (a : Option Records) (e : RrKey × Rc RecordSet Global) (rest : Entries) (whole : Option Records) → has_name first.name e.0 ≡ false
    → first_or a (in_front first t (e ∷ rest)) ≡ whole → a ≡ whole
walk_ends first t a e rest whole other before =
    sym (or_none a) ∙ sym (ap (λ n. first_or a (lookup (of_type t) (shared_sets (cond n (e ∷ while_of (of_name first) rest) [])))) other) ∙ before

-- the first key that was met, or else the first of these entries
abbrev pub key_or : Option RrKey → Entries → Option RrKey
key_or (Some key) es = Some key
key_or None [] = None
key_or None (e ∷ es) = Some e.0

pub first_met : (es : Entries) → IsFirst es (key_or None es)
first_met [] = refl
first_met (e ∷ es) = (e.1, es, refl)

-- a key that is met
pub key_met : (found kept : Option RrKey) (e : RrKey × Rc RecordSet Global) (rest its : Entries) → its ≡ e ∷ rest → kept ≡ Some (unwrap_or found e.0) → key_or kept rest ≡ key_or found its
key_met (Some key) kept e rest its is k = ap (λ o. key_or o rest) k
key_met None kept e rest its is k = ap (λ o. key_or o rest) k ∙ ap (key_or None) (sym is)

-- where no key is left
pub none_met : (found : Option RrKey) (its : Entries) → its ≡ [] → key_or found its ≡ found
none_met (Some key) its is = refl
none_met None its is = ap (key_or None) is

pub met_at_break : (found kept : Option RrKey) (e : RrKey × Rc RecordSet Global) (rest its : Entries) → its ≡ e ∷ rest → kept ≡ Some (unwrap_or found e.0) → kept ≡ key_or found its
met_at_break (Some key) kept e rest its is k = k
met_at_break None kept e rest its is k = k ∙ ap (key_or None) (sym is)

-- a key has its own name
pub one_itself : (key : Option RrKey) → HaveOneName key key
one_itself None = tt
one_itself (Some key) = itself key.name
