-- Asking a chain from a place on.
use Rattle.std.proofs.Common.{◌≡◌, ℕ, suc, ◌+◌, ◌<◌, ◌≤◌, List, [], ◌∷◌, length, drop, get_or, None, refl, sym, ap, arith, add-one, add-zero, zero-add, drop-cons}
use Rattle.std.proofs.lemmas.List.{drop_all}
use Rattle.hickory_base.specs.zone_store.Lookups.{Flow, SignerContext}
use Rattle.hickory_base.specs.requests.Requests.{ReceivedRequest}
use Rattle.hickory_base.specs.declared.zone_store.handler.ZoneHandler.{Ghosts}
use Rattle.hickory_base.specs.declared.zone_store.lookup.LookupControlFlow.TheVariants.{Continue, Break, Skip}
use Rattle.hickory_base.specs.declared.zone_store.lookup.LookupOptions.{LookupOptions}
use Rattle.hickory_catalog.specs.queries.Transcripts.{Asked, Given, IsAnswer, nobody, skipped, answered}

-- the list from a place on begins with its item
pub front_at : {H : Type 0} (all : List H) (i : ℕ) (h : H) → i < length all → h ≡ get_or all i h → drop i all ≡ h ∷ drop (i + 1) all
front_at all i h lt is = rw (add-one, drop-cons all i h lt) (ap (λ x. x ∷ drop (suc i) all) (sym is))

-- what is no `Skip` is an answer
pub not_skip : (a : Flow) → (a ≡ Skip → ⊥) → IsAnswer a
not_skip (Continue _) _ = tt
not_skip (Break _) _ = tt
not_skip Skip differs = absurd (differs refl)

-- what is asked of the rest is asked of the whole
abbrev pub AskedOn : {H : Type 0} → Ghosts H → ReceivedRequest → LookupOptions → List H → ℕ → Type 0
AskedOn handler request options all i = (place : ℕ) (given : Given) → Asked handler request options (drop i all) place given → Asked handler request options all (i + place) given

module _ {H : Type 0} (handler : Ghosts H) (request : ReceivedRequest) (options : LookupOptions) (all : List H) where
  pub on_start : AskedOn handler request options all 0
  on_start place given r = rw zero-add r

  pub on_skip : (i : ℕ) (h : H) (dropped : SignerContext) → AskedOn handler request options all i → i < length all → h ≡ get_or all i h
      → handler.search_gives h request options Skip dropped → AskedOn handler request options all (i + 1)
  on_skip i h dropped on lt is skip place given r =
      let e : drop i all ≡ h ∷ drop (i + 1) all = front_at all i h lt is in
      let q : i + 1 + place ≡ i + suc place = omega arith in
      rw q (on (suc place) given (rw e (skipped skip r)))

  pub on_answer : (i : ℕ) (h : H) (given : Given) → AskedOn handler request options all i → i < length all → h ≡ get_or all i h
      → IsAnswer given.0 → handler.search_gives h request options given.0 given.1 → Asked handler request options all i given
  on_answer i h given on lt is an gave =
      let e : drop i all ≡ h ∷ drop (i + 1) all = front_at all i h lt is in
      let p : Asked handler request options all (i + 0) given = on 0 given (rw e (answered an gave)) in
      rw add-zero at p

  pub on_end : (i n : ℕ) → AskedOn handler request options all i → length all ≡ n → n ≤ i → i ≤ n → Asked handler request options all n (Skip, None)
  on_end i n on e low high =
      let none : drop i all ≡ [] = drop_all i all (omega arith) in
      let p : Asked handler request options all (i + 0) (Skip, None) = on 0 (Skip, None) (rw none nobody) in
      let q : i + 0 ≡ n = omega arith in
      rw q at p
