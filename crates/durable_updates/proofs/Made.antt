-- Zones that requests make of a first one, up to the order of their records.
use Rattle.std.proofs.Common.{◌≡◌, inl, inr, ◌∙◌, ap, sym, subst, refl, ℕ, List, [], ◌∷◌, ◌++◌, length, None, Ok, Err, append_assoc, arith}
use Rattle.std.proofs.lemmas.List.{append-nil}
use Rattle.std.proofs.lemmas.Bool.Decides.{nat_tests}
use Rattle.std.specs.Prelude.{Bool, true, false, cond, nat_eq, take}
use Rattle.std.specs.Int.{from_be_bytes, w64}
use Rattle.hickory_base.specs.requests.Requests.{ReceivedRequest}
use Rattle.hickory_base.specs.requests.RequestReading.{message_of}
use Rattle.hickory_base.specs.zone_store.ZoneAnswers.{MemoryZone}
use Rattle.hickory_base.specs.zone_store.ZoneSets.{zone_records}
use Rattle.hickory_store.specs.updates.Identity.{SameZone}
use Rattle.hickory_store.specs.updates.UpdateAnswers.{Outcome, applied}
use Rattle.hickory_store.specs.updates.UpdateLaws.{HasOneSoa, HoldsIn}
use Rattle.hickory_store.specs.updates.Prescan.{prescan_refusal}
use Rattle.hickory_store.proofs.lemmas.updates.ApexNs.{OfOneType, Records}
use Rattle.hickory_store.proofs.lemmas.updates.SameZones.{Identity}
use Rattle.journal.specs.Generations.{generation_of, number_of}
use Rattle.durable_updates.specs.Batches.{bytes_of}
use Rattle.durable_updates.specs.CompactedRuns.{IsMadeBy, Mean}
use Rattle.durable_updates.specs.ReadRequests.{AreRead}
use Rattle.durable_updates.specs.Redone.{Leaves, Makes, Redone, RedoesOne}
use Rattle.durable_updates.specs.Snapshots.{IsBase, IsPut, Recalls, compacted}
use Rattle.durable_updates.proofs.Entries.{more}
use Rattle.durable_updates.proofs.Recalled.{heads, not_read, one_split, plain, recalled_once, recalls_all, tails}
use Rattle.durable_updates.proofs.Sameness.{SameOutcome, applied_same, redone_once}

-- ---- entries in two parts

pub parts : (front back : List (List ℕ)) (old new : MemoryZone) → Redone (front ++ back) old new → (middle : MemoryZone) × Redone front old middle × Redone back middle new
parts [] back old new run = (old, refl, run)
parts (entry ∷ front) back old new run = let rest = parts front back run.0 new run.2 in (rest.0, (run.0, run.1, rest.1), rest.2)

-- ---- nothing changes but the sets

leaves_others : (outcome : Outcome) (old new : MemoryZone) → Leaves outcome old new → new ≡ record old { sets = new.sets }
leaves_others (Ok outcome) old new left = left.1
leaves_others (Err code) old new left = subst (λ (z : MemoryZone). z ≡ record old { sets = z.sets }) (sym left) refl

over_two : (first middle last : MemoryZone) → middle ≡ record first { sets = middle.sets } → last ≡ record middle { sets = last.sets } → last ≡ record first { sets = last.sets }
over_two first middle last one other = other ∙ ap (λ (z : MemoryZone). record z { sets = last.sets }) one

pub redone_others : (entries : List (List ℕ)) (old new : MemoryZone) → Redone entries old new → new ≡ record old { sets = new.sets }
redone_others [] old new same = subst (λ (z : MemoryZone). z ≡ record old { sets = z.sets }) (sym same) refl
redone_others (entry ∷ entries) old new run =
    over_two old run.0 new (leaves_others (applied true old.origin (zone_records old.sets) run.1.message.authorities true) old run.0 run.1.made.done) (redone_others entries run.0 new run.2)

base_others : (entries requests : List (List ℕ)) (first base : MemoryZone) → IsBase entries first base requests → base ≡ record first { sets = base.sets }
base_others entries requests first base (inl same) = subst (λ (z : MemoryZone). z ≡ record first { sets = z.sets }) (sym same.1) refl
base_others entries requests first base (inr put) = put.others

pub recalls_others : (entries : List (List ℕ)) (first zone : MemoryZone) → Recalls entries first zone → zone ≡ record first { sets = zone.sets }
recalls_others entries first zone p = over_two first p.base zone (base_others entries p.requests first p.base p.is_base) (redone_others p.requests p.base zone p.redone)

-- ---- entries and more

pub recalls_more : (entries added : List (List ℕ)) (first old new : MemoryZone) → Recalls entries first old → Redone added old new → Recalls (entries ++ added) first new
recalls_more entries added first old new p done = record {
  base = p.base;
  requests = p.requests ++ added;
  is_base = by p.is_base;
  redone = more p.requests added p.base old new p.redone done;
}
  where
    by : IsBase entries first p.base p.requests → IsBase (entries ++ added) first p.base (p.requests ++ added)
    by (inl same) = inl (ap (λ (l : List (List ℕ)). l ++ added) same.0, same.1)
    by (inr put) = inr (record {
      head = put.head;
      snapshot = put.snapshot;
      split = ap (λ (l : List (List ℕ)). l ++ added) put.split ∙ ap (λ (l : List (List ℕ)). put.head ∷ l) (append_assoc put.snapshot ([] ∷ p.requests) added);
      is_head = put.is_head;
      is_snapshot = put.is_snapshot;
      others = put.others;
    })

abbrev Between : List (List ℕ) → List (List ℕ) → MemoryZone → MemoryZone → Type 0
Between entries added first new = (middle : MemoryZone) × Recalls entries first middle × Redone added middle new

plain_parts : (entries added : List (List ℕ)) (first new : MemoryZone) → Redone (entries ++ added) first new → Between entries added first new
plain_parts entries added first new done = let p = parts entries added first new done in (p.0, recalls_all entries first p.0 p.1, p.2)

-- of a file whose entries are known the requests behind them are its last ones
module _ (entries : List (List ℕ)) (doubt : List ReceivedRequest) (read : AreRead doubt) (first zone new base : MemoryZone) (requests : List (List ℕ)) (put : IsPut (entries ++ bytes_of doubt) first base requests)
    (done : Redone requests base new) where
  no_head : {P : Type 0} (doubt : List ReceivedRequest) → AreRead doubt → bytes_of doubt ≡ compacted put.head put.snapshot requests → P
  no_head [] read is = let none : [] ≡ compacted put.head put.snapshot requests = is in absurd (cc)
  no_head (q ∷ doubt) read is = absurd (not_read q.bytes (message_of q.message) read.0 (ap length (heads is) ∙ put.is_head))

  not_first : (entries : List (List ℕ)) → Redone entries first zone → entries ++ bytes_of doubt ≡ compacted put.head put.snapshot requests → Between entries (bytes_of doubt) first new
  not_first [] made split = no_head doubt read split
  not_first (entry ∷ entries) made split = absurd (not_read entry made.1.message made.1.reads (ap length (heads split) ∙ put.is_head))

  put_parts : (one : MemoryZone) (before : List (List ℕ)) → IsPut entries first one before → Between entries (bytes_of doubt) first new
  put_parts one before was =
      let whole : entries ++ bytes_of doubt ≡ was.head ∷ (was.snapshot ++ [] ∷ (before ++ bytes_of doubt)) =
      ap (λ (l : List (List ℕ)). l ++ bytes_of doubt) was.split ∙ ap (λ (l : List (List ℕ)). was.head ∷ l) (append_assoc was.snapshot ([] ∷ before) (bytes_of doubt)) in
      let split = one_split was.snapshot put.snapshot (before ++ bytes_of doubt) requests was.is_snapshot.0 put.is_snapshot.0 was.is_snapshot.1 put.is_snapshot.1 (tails (sym whole ∙ put.split)) in
      let p = parts before (bytes_of doubt) base new (subst (λ (l : List (List ℕ)). Redone l base new) (sym split.1) done) in (
        p.0,
        record {
          base = base;
          requests = before;
          is_base = inr (record {
            head = was.head;
            snapshot = put.snapshot;
            split = was.split ∙ ap (λ (l : List (List ℕ)). was.head ∷ (l ++ [] ∷ before)) split.0;
            is_head = was.is_head;
            is_snapshot = put.is_snapshot;
            others = put.others;
          });
          redone = p.1;
        },
        p.2,
      )

  of_put : (one : MemoryZone) (before : List (List ℕ)) → IsBase entries first one before → Redone before one zone → Between entries (bytes_of doubt) first new
  of_put one before (inl same) made = not_first entries (plain entries first zone one before same made) put.split
  of_put one before (inr was) made = put_parts one before was

pub recalls_parts : (entries : List (List ℕ)) (doubt : List ReceivedRequest) (first zone new : MemoryZone) → AreRead doubt → Recalls entries first zone → Recalls (entries ++ bytes_of doubt) first new
    → Between entries (bytes_of doubt) first new
recalls_parts entries doubt first zone new read p q = by q.is_base
  where
    by : IsBase (entries ++ bytes_of doubt) first q.base q.requests → Between entries (bytes_of doubt) first new
    by (inl same) = plain_parts entries (bytes_of doubt) first new (plain (entries ++ bytes_of doubt) first new q.base q.requests same q.redone)
    by (inr put) = of_put entries doubt read first zone new q.base q.requests put q.redone p.base p.requests p.is_base p.redone

-- requests do not change the generation
no_number : (entry : List ℕ) → (length entry ≡ 8 → ⊥) → number_of entry ≡ 0
no_number entry other = by (nat_eq (length entry) 8) refl
  where
    by : (b : Bool) → nat_eq (length entry) 8 ≡ b → cond b (from_be_bytes w64 (take 8 entry)) 0 ≡ 0
    by true is = absurd (other (grind (arith, nat_tests)))
    by false is = refl

pub generation_stays : (entries : List (List ℕ)) (doubt : List ReceivedRequest) → AreRead doubt → generation_of (entries ++ bytes_of doubt) ≡ generation_of entries
generation_stays [] [] read = refl
generation_stays [] (q ∷ doubt) read = no_number q.bytes (λ size. not_read q.bytes (message_of q.message) read.0 size)
generation_stays (entry ∷ entries) doubt read = refl

-- ---- what requests make

module _ (identity : Identity) (same_type : OfOneType) where
  module _ (old new made : MemoryZone) (soa : HoldsIn HasOneSoa made) (same : SameZone (zone_records old.sets) (zone_records made.sets)) (others : old ≡ record made { sets = old.sets }) where
    abbrev Follows : Outcome → Type 0
    Follows outcome = (left : MemoryZone) × Leaves outcome made left × SameZone (zone_records new.sets) (zone_records left.sets) × (new ≡ record left { sets = new.sets })

    left_so : (one other : Outcome) → SameOutcome identity same_type one other → Leaves other old new → Follows one
    left_so (Ok one) (Ok other) alike left = (
      record made { sets = new.sets },
      ((λ r. left.0 r ∙ sym (alike r)), refl),
      (λ r. refl),
      left.1 ∙ ap (λ (z : MemoryZone). record z { sets = new.sets }) others,
    )
    left_so (Err c) (Err d) alike left = (
      made,
      refl,
      subst (λ (z : MemoryZone). SameZone (zone_records z.sets) (zone_records made.sets)) (sym left) same,
      subst (λ (z : MemoryZone). z ≡ record made { sets = z.sets }) (sym left) others,
    )
    left_so (Ok one) (Err d) alike left = absurd alike
    left_so (Err c) (Ok other) alike left = absurd alike

    made_so : (rs : Records) → Makes rs old new → (left : MemoryZone) × Makes rs made left × SameZone (zone_records new.sets) (zone_records left.sets) × (new ≡ record left { sets = new.sets })
    made_so rs m =
        let of_origin : old.origin ≡ made.origin = ap (λ (z : MemoryZone). z.origin) others in
        let f = left_so (applied true made.origin (zone_records made.sets) rs true) (applied true made.origin (zone_records old.sets) rs true)
        (applied_same identity same_type made.origin rs (zone_records made.sets) (zone_records old.sets) soa (λ r. sym (same r)))
        (subst (λ o. Leaves (applied true o (zone_records old.sets) rs true) old new) of_origin m.done) in
        (f.0, record { accepted = subst (λ o. prescan_refusal o rs ≡ None) of_origin m.accepted; done = f.1 }, f.2, f.3)

  module _ (base : MemoryZone) (soa : HoldsIn HasOneSoa base) where
    one_on : (requests : List (List ℕ)) (entry : List ℕ) (old new : MemoryZone) → IsMadeBy requests base old → RedoesOne entry old new → IsMadeBy (requests ++ entry ∷ []) base new
    one_on requests entry old new was one =
        let f = made_so old new was.made (redone_once identity same_type requests base was.made was.made soa was.redone was.redone).1 was.same was.others one.message.authorities one.made in
        record {
          made = f.0;
          redone = more requests (entry ∷ []) base was.made f.0 was.redone (f.0, record { message = one.message; reads = one.reads; made = f.1 }, refl);
          same = f.2;
          others = f.3;
        }

    pub made_on : (requests added : List (List ℕ)) (old new : MemoryZone) → IsMadeBy requests base old → Redone added old new → IsMadeBy (requests ++ added) base new
    made_on requests [] old new was done = subst (λ (l : List (List ℕ)). IsMadeBy l base new) (sym (append-nil requests)) (subst (IsMadeBy requests base) (sym done) was)
    made_on requests (entry ∷ added) old new was done =
        subst (λ (l : List (List ℕ)). IsMadeBy l base new) (append_assoc requests (entry ∷ []) added)
        (made_on (requests ++ entry ∷ []) added done.0 new (one_on requests entry old done.0 was done.1) done.2)

    -- a zone of the same records
    pub made_too : (requests : List (List ℕ)) (zone other : MemoryZone) → IsMadeBy requests base zone → SameZone (zone_records other.sets) (zone_records zone.sets) → other ≡ record base { sets = other.sets } → IsMadeBy requests base other
    made_too requests zone other was same others = record {
      made = was.made;
      redone = was.redone;
      same = λ r. same r ∙ was.same r;
      others = others ∙ sym (ap (λ (z : MemoryZone). record z { sets = other.sets }) (redone_others requests base was.made was.redone));
    }

    pub mean_of : (entries requests : List (List ℕ)) (zone : MemoryZone) → IsMadeBy requests base zone → Recalls entries base zone → Mean entries base requests
    mean_of entries requests zone was recalls other p = made_too requests zone other was (recalled_once identity same_type entries base other zone soa p recalls).0 (recalls_others entries base other p)

    pub mean_more : (entries requests : List (List ℕ)) (doubt : List ReceivedRequest) (zone : MemoryZone) → AreRead doubt → IsMadeBy requests base zone → Recalls entries base zone
        → Mean (entries ++ bytes_of doubt) base (requests ++ bytes_of doubt)
    mean_more entries requests doubt zone read was recalls other p =
        let b = recalls_parts entries doubt base zone other read recalls p in
        made_on requests (bytes_of doubt) b.0 other (mean_of entries requests zone was recalls b.0 b.1) b.2
