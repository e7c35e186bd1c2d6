-- Batches: what is judged of a front of the requests, and what a handler tells of a batch.
use Rattle.std.proofs.Common.{◌≡◌, inl, inr, ℕ, suc, ◌-◌, ◌<◌, ◌≤◌, arith, drop, get_or, length, take, true, Bool, List, [], ◌∷◌, ◌++◌, map, IfErr, Option, Result, Ok, Err, ap, refl, sym, subst, ◌∙◌, append_assoc}
use Rattle.std.proofs.lemmas.Bool.Decides.{nat_tests}
use Rattle.std.proofs.lemmas.List.{append-nil, take_all}
use Rattle.std.specs.Prelude.{◌==◌}
use Rattle.std.specs.List.{AllZip}
use Rattle.std.specs.declared.alloc.Global.{Global}
use Rattle.std.specs.declared.rc.Rc.{Rc}
use Rattle.wire_messages.specs.declared.rr.rr_key.RrKey.{RrKey}
use Rattle.wire_messages.specs.declared.rr.tsig.TSigResponseContext.{TSigResponseContext}
use Rattle.hickory_base.specs.requests.Requests.{ReceivedRequest}
use Rattle.hickory_base.specs.zone_store.ZoneAnswers.{MemoryZone}
use Rattle.hickory_base.specs.zone_store.ZoneSets.{shared_sets}
use Rattle.hickory_base.specs.declared.zone_store.record_set.RecordSet.{RecordSet}
use Rattle.hickory_base.specs.declared.errors.UpdateFault.{UpdateFault}
use Rattle.hickory_store.specs.updates.UpdatableZone.{UpdatableZone}
use Rattle.hickory_store.specs.updates.UpdateAnswers.{AnswersUpdate}
use Rattle.hickory_store.specs.declared.updates.verifier.Verifier.{Ghosts}
use Rattle.durable_updates.specs.Batches.{AnswersBatch, AnswersEach, AnswersRead, accepted, bytes_of, if_accepted}
use Rattle.durable_updates.specs.DurableUpdates.{IsWriteFault, Told}

one_before : (r : ReceivedRequest) (answer : Result Bool UpdateFault) (others : List ReceivedRequest) → bytes_of (if_accepted answer r others) ≡ bytes_of (if_accepted answer r []) ++ bytes_of others
one_before r (Ok changed) others = refl
one_before r (Err fault) others = refl

-- a reason that says nothing
pub for_any_reason : {V : Type 0} (Reason : List (List ℕ) → Type 0) (by : Ghosts V) (requests : List (ReceivedRequest × ℕ)) (told : List Told) (old new : UpdatableZone V)
    → AnswersBatch Reason by requests told old new → AnswersBatch (λ entries. Unit {0}) by requests told old new
for_any_reason Reason by requests told old new answers = record {
  judged = answers.judged;
  ahead = answers.ahead;
  written = answers.written;
  each = answers.each;
  ends = answers.ends;
  err = from answers.written answers.err;
}
  where
    from : (written : Result (Unit {0}) UpdateFault) → IfErr written (IsWriteFault (Reason (bytes_of (accepted requests answers.judged)))) → IfErr written (IsWriteFault (Unit {0}))
    from (Ok done) err = tt
    from (Err fault) (inl memory) = inl memory
    from (Err fault) (inr code) = inr (code.0, tt)

-- all else than the sets is kept
abbrev pub KeepsOthers : {V : Type 0} → UpdatableZone V → UpdatableZone V → Type 0
KeepsOthers old new = new ≡ record old { zone = record old.zone { sets = new.zone.sets } }

pub one_keeps : {V : Type 0} (by : Ghosts V) (r : ReceivedRequest) (now : ℕ) (answer : Result Bool UpdateFault) (context : Option TSigResponseContext) (old new : UpdatableZone V) → AnswersUpdate true by old (r, now) answer context new → KeepsOthers old new
one_keeps {V} by r now (Ok changed) context old new answers = answers.2 ∙ ap (λ (z : MemoryZone). record old { zone = z }) answers.0.1
one_keeps {V} by r now (Err fault) context old new answers = answers.2 ∙ ap (λ (z : MemoryZone). record old { zone = z }) (answers.0.1 ∙ ap (λ (z : MemoryZone). record old.zone { sets = z.sets }) (sym answers.0.1))

pub more_keeps : {V : Type 0} (first now next : UpdatableZone V) → KeepsOthers first now → KeepsOthers now next → KeepsOthers first next
more_keeps {V} first now next so_far one = one ∙ ap (λ (z : UpdatableZone V). record z { zone = record z.zone { sets = next.zone.sets } }) so_far

-- with its sets it is as before
pub put_back : {V : Type 0} (old now new : UpdatableZone V) → KeepsOthers old now → new ≡ record now { zone = record now.zone { sets = old.zone.sets } } → new ≡ old
put_back {V} old now new keeps is = is ∙ ap (λ (z : UpdatableZone V). record z { zone = record z.zone { sets = old.zone.sets } }) keeps

module _ {V : Type 0} (by : Ghosts V) (all rest : List (ReceivedRequest × ℕ)) (r : ReceivedRequest × ℕ) (t : Told) (before after : List Told) where
  one_told : after ≡ before ++ t ∷ [] → (told : List Told) → after ++ told ≡ before ++ t ∷ told
  one_told is told = ap (λ (l : List Told). l ++ told) is ∙ append_assoc before (t ∷ []) told

  pub leads_more : (first now next : UpdatableZone V) → ((told : List Told) (new : UpdatableZone V) → AnswersEach by (r ∷ rest) told now new → AnswersEach by all (before ++ told) first new)
      → AnswersRead by now r t next → after ≡ before ++ t ∷ [] → (told : List Told) (new : UpdatableZone V) → AnswersEach by rest told next new → AnswersEach by all (after ++ told) first new
  leads_more first now next leads one is told new each = subst (λ (l : List Told). AnswersEach by all l first new) (sym (one_told is told)) (leads (t ∷ told) new (next, one, each))

  pub written_more : (entries more : List (List ℕ)) → ((told : List Told) → entries ++ bytes_of (accepted (r ∷ rest) told) ≡ bytes_of (accepted all (before ++ told)))
      → more ≡ entries ++ bytes_of (if_accepted t.0 r.0 []) → after ≡ before ++ t ∷ [] → (told : List Told) → more ++ bytes_of (accepted rest told) ≡ bytes_of (accepted all (after ++ told))
  written_more entries more written adds is told =
      ap (λ (l : List (List ℕ)). l ++ bytes_of (accepted rest told)) adds
      ∙ append_assoc entries (bytes_of (if_accepted t.0 r.0 [])) (bytes_of (accepted rest told))
      ∙ ap (λ (l : List (List ℕ)). entries ++ l) (sym (one_before r.0 t.0 (accepted rest told)))
      ∙ written (t ∷ told)
      ∙ ap (λ (l : List Told). bytes_of (accepted all l)) (sym (one_told is told))

-- a copy of a map has the same sets
pub same_sets : (first others : List (RrKey × Rc RecordSet Global)) → AllZip (λ (p q : RrKey × Rc RecordSet Global). (q.0 ≡ p.0) × (q.1.value ≡ p.1.value)) first others → shared_sets others ≡ shared_sets first
same_sets [] [] same = refl
same_sets [] (q ∷ others) same = absurd same
same_sets (p ∷ first) [] same = absurd same
same_sets (p ∷ first) (q ∷ others) same = λ i. (same.0.0 i, same.0.1 i) ∷ same_sets first others same.1 i

pub front_of : {T : Type 0} (xs : List T) (x : T) → 1 ≤ length xs → x ≡ get_or xs 0 x → xs ≡ x ∷ take (length xs - 1) (drop 1 xs)
front_of [] x least is = absurd (omega (arith, least))
front_of {T} (y ∷ ys) x least is =
    let count : length (y ∷ ys) - 1 ≡ length ys = omega (arith) in
    ap (λ (z : T). z ∷ ys) (sym is) ∙ ap (λ (zs : List T). x ∷ zs) (sym (ap (λ (n : ℕ). take n ys) count ∙ take_all (length ys) ys (omega (arith))))

pub none_of : {T : Type 0} (xs : List T) → length xs < 1 → xs ≡ []
none_of [] few = refl
none_of (x ∷ xs) few = absurd (omega (arith, few))

drop_whole : {T : Type 0} (xs : List T) → drop (length xs) xs ≡ []
drop_whole [] = refl
drop_whole (x ∷ xs) = drop_whole xs

-- a slice that was lent whole
pub whole : {T : Type 0} (n : ℕ) (xs ys : List T) → length xs ≡ length ys → n ≡ length ys → take n (xs ++ drop (length xs) ys) ≡ xs
whole {T} n xs ys same size =
    ap (λ (m : ℕ). take n (xs ++ drop m ys)) same
    ∙ ap (λ (l : List T). take n (xs ++ l)) (drop_whole ys)
    ∙ ap (λ (l : List T). take n l) (append-nil xs)
    ∙ take_all n xs (omega (arith, same, size))

pub all_mapped : {S T : Type 0} (f : S → T) (xs : List S) → length (map f xs) ≡ length xs
all_mapped f [] = refl
all_mapped f (x ∷ xs) = ap suc (all_mapped f xs)

zero_of : (n : ℕ) → (n == 0) ≡ true → n ≡ 0
zero_of n is = grind (arith, nat_tests)

pub empty_of : {T : Type 0} (xs : List T) → (length xs == 0) ≡ true → xs ≡ []
empty_of [] none = refl
empty_of (x ∷ xs) none = absurd (omega (arith, zero_of (length (x ∷ xs)) none))
