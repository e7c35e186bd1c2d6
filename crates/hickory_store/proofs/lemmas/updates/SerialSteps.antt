-- The serial of the apex: an update without a change leaves the zone as it is, and any other increments the serial
-- once.
use Rattle.std.proofs.Common.{◌≡◌, ◌∙◌, ap, sym, refl, ℕ, ◌+◌, Bool, true, false, cond, not, ◌&&◌, ◌||◌, ◌++◌, List, [], ◌∷◌, filter, map, Ok, Err, arith}
use Rattle.std.specs.Prelude.{◌==◌}
use Rattle.std.specs.List.{list_any}
use Rattle.std.proofs.lemmas.List.{append-nil}
use Rattle.wire_names.specs.rr.domain.DomainName.{DomainName}
use Rattle.wire_messages.specs.declared.rr.rdata.RData.{RData}
use Rattle.wire_messages.specs.declared.rr.rdata.RData.TheVariants as rdata
use Rattle.hickory_base.specs.zone_store.ZoneRecords.{is_at}
use Rattle.hickory_store.specs.updates.Changes.{after_counted, after_record, after_updates, any_change, changes, counted, counted_changes, is_added, is_deleted_when, is_spared, one_ttl}
use Rattle.hickory_store.specs.updates.Serials.{next_serial}
use Rattle.hickory_store.specs.updates.UpdateAnswers.{Outcome, incremented, is_apex_soa, next_data, with_next_serial}
use Rattle.hickory_store.specs.updates.UpdateLaws.{SerialSteps, SoaStays, apex_serials, how_many, serials_in}
use Rattle.hickory_store.proofs.lemmas.updates.ApexNs.{Records, Resource}
use Rattle.hickory_store.proofs.lemmas.updates.UpdatedZones.{next_type}

-- ---- no change

pub or_first : (a b : Bool) → (a || b) ≡ false → a ≡ false
or_first true b h = cc
or_first false b h = refl

pub or_rest : (a b : Bool) → (a || b) ≡ false → b ≡ false
or_rest true b h = cc
or_rest false b h = h

keep_step : (b : Bool) (q : Resource) (more z : Records) → b ≡ false → more ≡ z → cond (not b) (q ∷ more) more ≡ q ∷ z
keep_step true q more z h e = cc
keep_step false q more z h e = ap (λ v. q ∷ v) e

all_stay : (p : Resource → Bool) (z : Records) → list_any p z ≡ false → filter (λ q. not (p q)) z ≡ z
all_stay p [] h = refl
all_stay p (q ∷ z) h = keep_step (p q) q (filter (λ q. not (p q)) z) z (or_first (p q) _ h) (all_stay p z (or_rest (p q) _ h))

unsettled : (f : Bool) (z w : Records) → cond (f && false) w z ≡ z
unsettled true z w = refl
unsettled false z w = refl

counted_stays : (f : Bool) (o : DomainName) (z : Records) (r : Resource) → counted_changes f o z r ≡ false → after_counted f o z r ≡ z
counted_stays f o z r h =
    let going = is_deleted_when o r (is_added f z r) (is_spared f o z r) in
    let kept : Records = filter (λ q. not (going q)) z in
    ap (λ v. cond (f && v) (one_ttl r (kept ++ cond v (r ∷ []) [])) (kept ++ cond v (r ∷ []) [])) (or_rest (list_any going z) _ h)
    ∙ unsettled f (kept ++ []) (one_ttl r (kept ++ []))
    ∙ append-nil kept ∙ all_stay going z (or_first (list_any going z) _ h)

turn_stays : (f : Bool) (o : DomainName) (z : Records) (r : Resource) → changes f o z r ≡ false → after_record f o z r ≡ z
unfolding after_record changes
turn_stays f o z r h = counted_stays f o z (counted f r) h

pub fold_stays : (f : Bool) (o : DomainName) (rs z : Records) → any_change f o z rs ≡ false → after_updates f o z rs ≡ z
fold_stays f o [] z h = refl
fold_stays f o (r ∷ rs) z h =
    fold_stays f o rs (after_record f o z r) (or_rest (changes f o z r) _ h) ∙ turn_stays f o z r (or_first (changes f o z r) _ h)

-- ---- a change

some_of_one : {X : Type 0} (p : X → Bool) (xs : List X) → how_many p xs ≡ 1 → list_any p xs ≡ true
some_of_one p [] h = absurd (omega (arith, h))
some_of_one p (x ∷ xs) h = first (p x) (some_of_one p xs) h
  where
    first : (b : Bool) → (how_many p xs ≡ 1 → list_any p xs ≡ true) → cond b 1 0 + how_many p xs ≡ 1 → (b || list_any p xs) ≡ true
    first true f e = refl
    first false f e = f (omega (arith, e))

-- an SOA of the apex is one with the next serial too
pub apex_next : (o : DomainName) (q : Resource) → is_apex_soa o (record q { rdata = next_data q.rdata }) ≡ is_apex_soa o q
apex_next o q = ap (λ t. is_at o q && (t == 6)) (next_type q.rdata)

serials_next : (d : RData) → serials_in (next_data d) ≡ map next_serial (serials_in d)
serials_next (rdata.SOA s) = refl
serials_next (rdata.A x) = refl
serials_next (rdata.AAAA x) = refl
serials_next (rdata.NS x) = refl
serials_next (rdata.CNAME x) = refl
serials_next (rdata.PTR x) = refl
serials_next (rdata.MX x) = refl
serials_next (rdata.TXT x) = refl
serials_next (rdata.OPT x) = refl
serials_next (rdata.TSIG x) = refl
serials_next (rdata.NULL x) = refl
serials_next (rdata.Update0 x) = refl
serials_next (rdata.Unknown x y) = refl

map_both : (f : ℕ → ℕ) (xs ys : List ℕ) → map f (xs ++ ys) ≡ map f xs ++ map f ys
map_both f [] ys = refl
map_both f (x ∷ xs) ys = ap (λ v. f x ∷ v) (map_both f xs ys)

module _ (o : DomainName) where
  of_record : Resource → List ℕ
  of_record q = cond (is_apex_soa o q) (serials_in q.rdata) []

  one_next : (q : Resource) (b : Bool) → is_apex_soa o q ≡ b
      → cond (is_apex_soa o (cond b (record q { rdata = next_data q.rdata }) q)) (serials_in (cond b (record q { rdata = next_data q.rdata }) q).rdata) [] ≡ map next_serial (cond b (serials_in q.rdata) [])
  one_next q true e = ap (λ v. cond v (serials_in (next_data q.rdata)) []) (apex_next o q ∙ e) ∙ serials_next q.rdata
  one_next q false e = ap (λ v. cond v (serials_in q.rdata) []) e

  all_next : (z : Records) → apex_serials o (map (incremented o) z) ≡ map next_serial (apex_serials o z)
  all_next [] = refl
  all_next (q ∷ z) =
      ap (λ v. v ++ apex_serials o (map (incremented o) z)) (one_next q (is_apex_soa o q) refl)
      ∙ ap (λ v. map next_serial (cond (is_apex_soa o q) (serials_in q.rdata) []) ++ v) (all_next z)
      ∙ sym (map_both next_serial (cond (is_apex_soa o q) (serials_in q.rdata) []) (apex_serials o z))

same_map : (xs : List ℕ) → xs ≡ map (λ s. cond false (next_serial s) s) xs
same_map [] = refl
same_map (x ∷ xs) = ap (λ v. x ∷ v) (same_map xs)

found_next : (o : DomainName) (z : Records) (b : Bool) → b ≡ true → ◌≡◌ {A = Outcome} (cond b (Ok (map (incremented o) z, true)) (Err 2)) (Ok (map (incremented o) z, true))
found_next o z true h = refl
found_next o z false h = cc

module _ (stays : SoaStays) (f : Bool) (o : DomainName) (rs z : Records) (one : how_many (is_apex_soa o) z ≡ 1) where
  steps_when : (b : Bool) → any_change f o z rs ≡ b
      → (after : Records) × (cond b (with_next_serial o (after_updates f o z rs)) (Ok (z, false)) ≡ Ok (after, b))
      × (apex_serials o after ≡ map (λ s. cond b (next_serial s) s) (apex_serials o (after_updates f o z rs)))
  steps_when true e = (
    map (incremented o) (after_updates f o z rs),
    found_next o (after_updates f o z rs) _ (some_of_one (is_apex_soa o) (after_updates f o z rs) (stays f o rs z one)),
    all_next o (after_updates f o z rs),
  )
  steps_when false e = (z, refl, same_map (apex_serials o z) ∙ ap (λ v. map (λ s. cond false (next_serial s) s) (apex_serials o v)) (sym (fold_stays f o rs z e)))

pub serial_steps : SoaStays → SerialSteps
serial_steps stays f o rs z one = steps_when stays f o rs z one (any_change f o z rs) refl
