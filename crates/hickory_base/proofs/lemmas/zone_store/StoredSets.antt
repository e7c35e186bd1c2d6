-- The set of a name and type, and whether the name has others, are told by a walk from the name's first key on.
use Rattle.std.proofs.Common.{◌≡◌, ℕ, Bool, true, false, cond, ◌&&◌, ◌||◌, List, [], ◌∷◌, filter, Option, Some, Result, refl, sym, ap, ◌∙◌}
use Rattle.std.specs.Prelude.{◌==◌}
use Rattle.std.specs.List.Sorted.{IsStrictlySortedBy}
use Rattle.std.specs.Map.{keys_of, lookup}
use Rattle.std.specs.BTreeMap.Range.{entries_between}
use Rattle.std.specs.Ordering.{is_eq, nat_cmp}
use Rattle.std.specs.declared.alloc.Global.{Global}
use Rattle.std.specs.declared.ops.Bound.TheVariants.{Included, Unbounded}
use Rattle.std.specs.declared.rc.Rc.{Rc}
use Rattle.wire_names.specs.rr.domain.NameOrder.{name_cmp}
use Rattle.wire_messages.specs.declared.rr.rdata.RData.{RData}
use Rattle.wire_messages.specs.declared.rr.record.Record.{Record}
use Rattle.wire_messages.specs.declared.rr.rr_key.RrKey.{RrKey}
use Rattle.hickory_base.proofs.lemmas.zone_store.KeyOrder.{any_filtered, from_first_on, is_filled, of_name, while_of}
use Rattle.hickory_base.proofs.lemmas.zone_store.SharedSets.{any-shared}
use Rattle.hickory_base.proofs.lemmas.zone_store.ZoneByName.{eq_numbers, eq_then}
use Rattle.hickory_base.specs.declared.errors.LookupError.{LookupError}
use Rattle.hickory_base.specs.declared.zone_store.lookup.AuthLookup.{AuthLookup}
use Rattle.hickory_base.specs.declared.zone_store.record_set.RecordSet.{RecordSet}
use Rattle.hickory_base.specs.zone_store.ZoneAnswers.{found, no_data, no_name, set_answer, set_or_denial}
use Rattle.hickory_base.specs.zone_store.ZoneSets.{has_name, is_key, shared_sets}
use Rattle.wire_messages.specs.rr.RrKeys.{key_cmp}

abbrev Entries : Type 0
Entries = List (RrKey × Rc RecordSet Global)

abbrev pub Answer : Type 0
Answer = Result AuthLookup LookupError

module _ (first : RrKey) (t : ℕ) where
  -- what a walk over these entries answers, where it answers so without any
  abbrev pub walked : Answer → Entries → Answer
  walked without [] = without
  walked without (e ∷ es) = cond (has_name first.name e.0) (cond (t == e.0.record_type) (found e.1.value) (walked no_data es)) without

  -- the same over entries of the name alone
  abbrev within : Answer → Entries → Answer
  within without [] = without
  within without (e ∷ es) = cond (t == e.0.record_type) (found e.1.value) (within no_data es)

  abbrev of_type : RrKey → Bool
  of_type key = t == key.record_type

  front_step : (b : Bool) (without : Answer) (e : RrKey × Rc RecordSet Global) (es : Entries) → walked no_data es ≡ within no_data (while_of (of_name first) es)
      → cond b (cond (t == e.0.record_type) (found e.1.value) (walked no_data es)) without ≡ within without (cond b (e ∷ while_of (of_name first) es) [])
  front_step true without e es same = ap (λ rest. cond (t == e.0.record_type) (found e.1.value) rest) same
  front_step false without e es same = refl

  in_front : (without : Answer) (es : Entries) → walked without es ≡ within without (while_of (of_name first) es)
  in_front without [] = refl
  in_front without (e ∷ es) = front_step (has_name first.name e.0) without e es (in_front no_data es)

  set_step : (b used : Bool) (e : RrKey × Rc RecordSet Global) (rest : Answer) (set : Option (List (Record RData))) → rest ≡ set_or_denial set true
      → cond b (found e.1.value) rest ≡ set_or_denial (cond b (Some e.1.value) set) (used || true)
  set_step true used e rest set same = refl
  set_step false true e rest set same = same
  set_step false false e rest set same = same

  within_is : (used : Bool) (es : Entries) → within (cond used no_data no_name) es ≡ set_or_denial (lookup of_type (shared_sets es)) (used || is_filled es)
  within_is true [] = refl
  within_is false [] = refl
  within_is used (e ∷ es) = set_step (of_type e.0) used e _ _ (within_is true es)

  lookup_step : (b : Bool) (e : RrKey × Rc RecordSet Global) (es : Entries) (set : Option (List (Record RData))) → set ≡ lookup of_type (shared_sets es)
      → cond (b && of_type e.0) (Some e.1.value) set ≡ lookup of_type (shared_sets (cond b (e ∷ es) es))
  lookup_step true e es set same = ap (λ rest. cond (of_type e.0) (Some e.1.value) rest) same
  lookup_step false e es set same = same

  key_is : (key : RrKey) → is_key first.name t key ≡ (has_name first.name key && of_type key)
  key_is key = eq_then (name_cmp first.name key.name) (nat_cmp t key.record_type) ∙ ap (λ b. is_eq (name_cmp first.name key.name) && b) (eq_numbers t key.record_type)

  lookup_of_name : (es : Entries) → lookup (is_key first.name t) (shared_sets es) ≡ lookup of_type (shared_sets (filter (of_name first) es))
  lookup_of_name [] = refl
  lookup_of_name (e ∷ es) =
      ap (λ b. cond b (Some e.1.value) (lookup (is_key first.name t) (shared_sets es))) (key_is e.0)
      ∙ lookup_step (has_name first.name e.0) e (filter (of_name first) es) _ (lookup_of_name es)

  -- from the first key on the walk answers as the whole zone does
  pub walk_answers : (es range : Entries) → first.record_type ≡ 0 → IsStrictlySortedBy key_cmp (keys_of es)
      → range ≡ entries_between key_cmp (Included first) Unbounded es → walked no_name range ≡ set_answer (shared_sets es) first.name t
  walk_answers es range e sorted is =
      in_front no_name range
      ∙ ap (within no_name) (sym (from_first_on first es range e sorted is))
      ∙ within_is false (filter (of_name first) es)
      ∙ ap (λ set. set_or_denial set (is_filled (filter (of_name first) es))) (sym (lookup_of_name es))
      ∙ ap (λ used. set_or_denial (lookup (is_key first.name t) (shared_sets es)) used) (sym (any-shared (has_name first.name) es ∙ any_filtered (of_name first) es))
