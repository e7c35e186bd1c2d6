-- What is read of a map of shared sets is read of its sets.
use Rattle.std.proofs.Common.{◌≡◌, Bool, true, false, cond, List, [], ◌∷◌, ◌++◌, filter, refl, sym, ap, ◌∙◌, Option, Some}
use Rattle.std.specs.Option.{option_map}
use Rattle.std.specs.List.{flat_map, list_any}
use Rattle.std.specs.Map.{keys_of, lookup}
use Rattle.std.specs.declared.alloc.Global.{Global}
use Rattle.std.specs.declared.rc.Rc.{Rc}
use Rattle.wire_messages.specs.declared.rr.rdata.RData.{RData}
use Rattle.wire_messages.specs.declared.rr.record.Record.{Record}
use Rattle.hickory_base.specs.zone_store.ZoneSets.{shared_sets}
use Rattle.hickory_base.specs.declared.zone_store.record_set.RecordSet.{RecordSet}
use Rattle.wire_messages.specs.declared.rr.rr_key.RrKey.{RrKey}

module _ (test : RrKey → Bool) where
  lookup_step : (b : Bool) (set : Rc RecordSet Global) (x : Option (List (Record RData))) (y : Option (Rc RecordSet Global)) → x ≡ option_map (λ s. s.value) y
      → cond b (Some set.value) x ≡ option_map (λ s. s.value) (cond b (Some set) y)
  lookup_step true set x y e = refl
  lookup_step false set x y e = e

  pub lookup-shared : (es : List (RrKey × Rc RecordSet Global)) → lookup test (shared_sets es) ≡ option_map (λ s. s.value) (lookup test es)
  lookup-shared [] = refl
  lookup-shared (e ∷ es) = lookup_step (test e.0) e.1 _ _ (lookup-shared es)

  -- what a map gives at a key is the set that the zone has there
  pub lookup-is : (es : List (RrKey × Rc RecordSet Global)) (o : Option (Rc RecordSet Global)) → o ≡ lookup test es → option_map (λ s. s.value) o ≡ lookup test (shared_sets es)
  lookup-is es o e = ap (option_map (λ s. s.value)) e ∙ sym (lookup-shared es)

  pub any-shared : (es : List (RrKey × Rc RecordSet Global)) → list_any (λ e. test e.0) (shared_sets es) ≡ list_any (λ e. test e.0) es
  any-shared [] = refl
  any-shared (e ∷ es) = rw (any-shared es) refl

  records_step : (b : Bool) (e : RrKey × Rc RecordSet Global) (x : List (RrKey × List (Record RData))) (y : List (RrKey × Rc RecordSet Global))
      → flat_map (λ s. s.1) x ≡ flat_map (λ s. s.1.value) y → flat_map (λ s. s.1) (cond b ((e.0, e.1.value) ∷ x) x) ≡ flat_map (λ s. s.1.value) (cond b (e ∷ y) y)
  records_step true e x y same = ap (λ rest. e.1.value ++ rest) same
  records_step false e x y same = same

  pub records-shared : (es : List (RrKey × Rc RecordSet Global)) → flat_map (λ e. e.1) (filter (λ e. test e.0) (shared_sets es)) ≡ flat_map (λ e. e.1.value) (filter (λ e. test e.0) es)
  records-shared [] = refl
  records-shared (e ∷ es) = records_step (test e.0) e _ _ (records-shared es)

  keys_step : (b : Bool) (e : RrKey × Rc RecordSet Global) (ks : List RrKey) (es : List (RrKey × Rc RecordSet Global)) → ks ≡ keys_of es
      → cond b (e.0 ∷ ks) ks ≡ keys_of (cond b (e ∷ es) es)
  keys_step true e ks es same = ap (λ rest. e.0 ∷ rest) same
  keys_step false e ks es same = same

  -- the keys that pass are those of the entries whose keys pass
  pub keys-of-name : (es : List (RrKey × Rc RecordSet Global)) → filter test (keys_of (shared_sets es)) ≡ keys_of (filter (λ e. test e.0) es)
  keys-of-name [] = refl
  keys-of-name (e ∷ es) = keys_step (test e.0) e _ _ (keys-of-name es)
