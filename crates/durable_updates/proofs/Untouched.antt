-- What becomes of a journal that is left alone.
use Rattle.std.proofs.Common.{◌≡◌, inl, [], List, ◌++◌, ℕ, Ok, Err, refl, subst, sym}
use Rattle.std.proofs.lemmas.List.{append-nil}
use Rattle.journal.specs.JournalState.{JournalState}
use Rattle.journal.specs.Settled.{IsSettled}
use Rattle.journal.proofs.Steps.{rests}
use Rattle.durable_updates.specs.Journalling.{Journals, JournalsAll}

pub left_alone : {D : Type 0} (seen : D → List ℕ) (may_leave : D → List ℕ → Type 0) {T E : Type 0} (e : E) (entry : List ℕ) (journal : JournalState D) → Journals seen may_leave {T = T} (Err e) entry journal journal
left_alone seen may_leave e entry journal = record {
  acknowledged = tt;
  opened = tt;
  refused = inl refl;
  crash = λ entries s c left. inl (rests seen may_leave journal.disk journal.end entries s c left);
}

-- a batch without entries
pub nothing_added : {D : Type 0} (seen : D → List ℕ) (may_leave : D → List ℕ → Type 0) {T E : Type 0} (done : T) (added : List (List ℕ)) (journal : JournalState D) → added ≡ [] → JournalsAll seen may_leave {E = E} (Ok done) added journal journal
nothing_added seen may_leave done added journal none = record {
  acknowledged = λ entries s. subst (λ (l : List (List ℕ)). IsSettled seen may_leave journal (entries ++ l)) (sym none) (subst (λ (l : List (List ℕ)). IsSettled seen may_leave journal l) (sym (append-nil entries)) s);
  opened = inl (none, refl);
  refused = tt;
  crash = λ entries s c left. inl (rests seen may_leave journal.disk journal.end entries s c left);
}

-- a batch without entries that is not written
pub untouched : {D : Type 0} (seen : D → List ℕ) (may_leave : D → List ℕ → Type 0) {T E : Type 0} (e : E) (journal : JournalState D) → JournalsAll seen may_leave {T = T} (Err e) [] journal journal
untouched seen may_leave e journal = record {
  acknowledged = tt;
  opened = tt;
  refused = inl refl;
  crash = λ entries s c left. inl (rests seen may_leave journal.disk journal.end entries s c left);
}
