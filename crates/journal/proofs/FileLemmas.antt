-- What each call of a disk makes of a file of a host.
use Rattle.std.proofs.Common.{◌≡◌, ◌+◌, ◌-◌, ◌<◌, ℕ, suc, zero, min, max, true, false, List, [], ◌∷◌, ◌++◌, length, take, drop, replicate, get_or, refl, sym, ◌∙◌, ap, subst, inl, inr, arith, Result, Ok, Err, length-append, length-drop, length-take, append_assoc}
use Rattle.std.proofs.lemmas.Bool.{false≢true}
use Rattle.std.proofs.lemmas.Bool.{cases_lt}
use Rattle.std.proofs.lemmas.List.{ext_get_or, get_or-take, get_or-drop, get_or_append_left, get_or-append_right, get_or-replicate, length-replicate, drop_all}
use Rattle.std.specs.Prelude.{OnOk, OnErr, is_ok, cond, Bool}
use Rattle.std.specs.declared.io.Error.{Error}
use Rattle.std.specs.declared.alloc.AllocError.{AllocError}
use Rattle.sqlite_disk.specs.Disk.{Holds, Torn, Cut, Follows, Only}
use Rattle.sqlite_disk.specs.Events.{overlaid, padded}
use Rattle.sqlite_disk.proofs.EventLemmas.{Torn-overlaid, Holds-overlaid, Cut-padded, length-padded}
use Rattle.journal.specs.declared.host_file.operation.Operation.{Operation}
use Rattle.journal.specs.host_file.Answers.{Answers}
use Rattle.journal.specs.host_file.Calls.{HostCall, call_of, calls_of}
use Rattle.journal.specs.host_file.Calls.HostCall.{pwrite, ftruncate, fdatasync}
use Rattle.journal.specs.host_file.Crashes.{Range, MayLeave}
use Rattle.journal.specs.host_file.FileState.{FileState, unsynced_from, unsynced, may_leave, IsSound, written, resized, synced, refused, sync_refused, is_sync, ends_synced, all_made, owed}
use Rattle.journal.proofs.CrashLemmas.{Torn-refl, Cut-refl, before_written, before_resized, only_seen}

-- contents that were lengthened with zeros and then written over
pub overlaid_long : (file : List ℕ) (at : ℕ) (bytes : List ℕ) → take at (file ++ replicate (at + length bytes - length file) 0) ++ (bytes ++ drop (at + length bytes) (file ++ replicate (at + length bytes - length file) 0)) ≡ overlaid file at bytes
unfolding overlaid padded
overlaid_long file at bytes =
    let front : take at (file ++ replicate (at + length bytes - length file) 0) ≡ take at (file ++ replicate (at - length file) 0) = ext_get_or 0 _ _
    (omega (arith, length-take at (file ++ replicate (at + length bytes - length file) 0), length-take at (file ++ replicate (at - length file) 0), length-append file (replicate (at + length bytes - length file) 0), length-append file (replicate (at - length file) 0), length-replicate {A = ℕ} (at + length bytes - length file) 0, length-replicate {A = ℕ} (at - length file) 0))
    (λ i there. let low : i < at = omega (arith, there, length-take at (file ++ replicate (at + length bytes - length file) 0)) in
    get_or-take at _ i 0 low ∙ elim (cases_lt i (length file)) [
      | inl within ↦ get_or_append_left file _ 0 i within ∙ sym (get_or_append_left file _ 0 i within)
      | inr past ↦
          get_or-append_right file _ (length file) i 0 refl past ∙ get_or-replicate (at + length bytes - length file) (i - length file) 0 0 (omega arith)
          ∙ sym (get_or-append_right file _ (length file) i 0 refl past ∙ get_or-replicate (at - length file) (i - length file) 0 0 (omega arith))
    ] ∙ sym (get_or-take at _ i 0 low)) in
    let back : drop (at + length bytes) (file ++ replicate (at + length bytes - length file) 0) ≡ drop (at + length bytes) file = ext_get_or 0 _ _
    (omega (arith, length-drop (at + length bytes) (file ++ replicate (at + length bytes - length file) 0), length-drop (at + length bytes) file, length-append file (replicate (at + length bytes - length file) 0), length-replicate {A = ℕ} (at + length bytes - length file) 0))
    (λ i there. let within : at + length bytes + i < length file
    = omega (arith, there, length-drop (at + length bytes) (file ++ replicate (at + length bytes - length file) 0), length-append file (replicate (at + length bytes - length file) 0), length-replicate {A = ℕ} (at + length bytes - length file) 0) in
    get_or-drop (at + length bytes) _ i 0 ∙ get_or_append_left file _ 0 (at + length bytes + i) within ∙ sym (get_or-drop (at + length bytes) file i 0)) in
    rw (front, back) (sym (append_assoc (take at (file ++ replicate (at - length file) 0)) bytes (drop (at + length bytes) file)))

-- contents that were cut or lengthened with zeros
pub padded_parts : (file : List ℕ) (len : ℕ) → take len file ++ replicate (len - length file) 0 ≡ padded file len
unfolding padded
padded_parts file len = ext_get_or 0 _ _
    (omega (arith, length-take len (file ++ replicate (len - length file) 0), length-append file (replicate (len - length file) 0), length-replicate {A = ℕ} (len - length file) 0, length-append (take len file) (replicate (len - length file) 0), length-take len file))
    (λ i there. let low : i < len = omega (arith, there, length-append (take len file) (replicate (len - length file) 0), length-replicate {A = ℕ} (len - length file) 0, length-take len file) in
    elim (cases_lt i (length file)) [
      | inl within ↦ get_or_append_left (take len file) _ 0 i (omega (arith, length-take len file)) ∙ get_or-take len file i 0 low ∙ sym (get_or_append_left file _ 0 i within)
      | inr past ↦
          get_or-append_right (take len file) _ (length file) i 0 (omega (arith, length-take len file)) past ∙ sym (get_or-append_right file _ (length file) i 0 refl past)
    ] ∙ sym (get_or-take len (file ++ replicate (len - length file) 0) i 0 low))

pub length-overlaid : (file : List ℕ) (at : ℕ) (bytes : List ℕ) → length (overlaid file at bytes) ≡ max (length file) (at + length bytes)
length-overlaid file at bytes =
    let torn = Torn-overlaid file at bytes in
    let holds = Holds-overlaid file at bytes in
    omega (arith, torn.no_shorter, torn.no_longer, holds.within)

-- the last operation tells whether a sync comes last
pub ends_at : (xs : List Operation) (d : Operation) → 0 < length xs → ends_synced (calls_of xs) ≡ is_sync (call_of (get_or xs (length xs - 1) d))
ends_at [] d some = absurd (omega arith)
ends_at (x ∷ []) d some = refl
ends_at (x ∷ y ∷ ys) d some =
    let e : length (x ∷ y ∷ ys) - 1 ≡ suc (length (y ∷ ys) - 1) = omega arith in
    rw e (ends_at (y ∷ ys) d (omega arith))

pub unsynced_from-append : (ranges : List Range) (xs ys : List HostCall) → unsynced_from ranges (xs ++ ys) ≡ unsynced_from (unsynced_from ranges xs) ys
unsynced_from-append ranges [] ys = refl
unsynced_from-append ranges (pwrite at bytes ∷ xs) ys = unsynced_from-append ((at, length bytes) ∷ ranges) xs ys
unsynced_from-append ranges (ftruncate len ∷ xs) ys = unsynced_from-append ranges xs ys
unsynced_from-append ranges (fdatasync ∷ xs) ys = unsynced_from-append [] xs ys

-- Where a sync comes last, no range is unsynced.
none_unsynced : (ranges : List Range) (x : HostCall) (xs : List HostCall) → ends_synced (x ∷ xs) ≡ true → unsynced_from ranges (x ∷ xs) ≡ []
none_unsynced ranges (pwrite at bytes) [] e = absurd (false≢true e)
none_unsynced ranges (ftruncate len) [] e = absurd (false≢true e)
none_unsynced ranges fdatasync [] e = refl
none_unsynced ranges (pwrite at bytes) (y ∷ ys) e = none_unsynced ((at, length bytes) ∷ ranges) y ys e
none_unsynced ranges (ftruncate len) (y ∷ ys) e = none_unsynced ranges y ys e
none_unsynced ranges fdatasync (y ∷ ys) e = none_unsynced [] y ys e

nothing_unsynced : (calls : List HostCall) → ends_synced calls ≡ true → unsynced calls ≡ []
nothing_unsynced [] e = refl
nothing_unsynced (x ∷ xs) e = none_unsynced [] x xs e

-- what may be left of a file, once what is done is told
made_ranges : (calls : List HostCall) (synced : Bool) → ends_synced calls ≡ synced → unsynced (cond synced [] calls) ≡ unsynced calls
made_ranges calls true e = sym (nothing_unsynced calls e)
made_ranges calls false e = refl

pub made_leaves : (f : FileState) (c : List ℕ) → may_leave f c → may_leave (all_made f) c
made_leaves f c left = subst (λ (ranges : List Range). MayLeave f.kept f.most ranges f.seen c) (sym (made_ranges f.noted (ends_synced f.noted) refl)) left

pub left_made : (f : FileState) (c : List ℕ) → may_leave (all_made f) c → may_leave f c
left_made f c left = subst (λ (ranges : List Range). MayLeave f.kept f.most ranges f.seen c) (made_ranges f.noted (ends_synced f.noted) refl) left

none_owed : (calls : List HostCall) (synced : Bool) → drop (cond synced 0 (length calls)) (cond synced [] calls) ≡ []
none_owed calls true = refl
none_owed calls false = drop_all (length calls) calls (omega arith)

pub made_owes : (f : FileState) → owed (all_made f) ≡ []
made_owes f = none_owed f.noted (ends_synced f.noted)

pub drop_calls : (n : ℕ) (xs : List Operation) → calls_of (drop n xs) ≡ drop n (calls_of xs)
drop_calls zero xs = refl
drop_calls (suc n) [] = refl
drop_calls (suc n) (x ∷ xs) = drop_calls n xs

-- A call that memory allowed, or that left all but a count.
pub joined : (change : FileState → FileState) (old mid new : FileState) (noted : Result (Unit {0}) AllocError) (result : Result (Unit {0}) Error) → is_ok result ≡ is_ok noted → OnOk noted (mid ≡ change old) → OnErr noted (mid ≡ old)
    → OnOk result (new ≡ mid) → OnErr result (new ≡ refused mid) → Answers change refused old result new
joined change old mid new (Ok u) (Ok v) alike a b p q = p ∙ a
joined change old mid new (Ok u) (Err e) alike a b p q = absurd (false≢true alike)
joined change old mid new (Err e) (Ok v) alike a b p q = absurd (false≢true (sym alike))
joined change old mid new (Err d) (Err e) alike a b p q = q ∙ ap refused b

pub joined_sync : (old mid new : FileState) (noted : Result (Unit {0}) AllocError) (result : Result (Unit {0}) Error) → is_ok result ≡ is_ok noted → OnOk noted (mid ≡ synced old) → OnErr noted (mid ≡ record old { usable = false })
    → OnOk result (new ≡ mid) → OnErr result (new ≡ refused mid) → Answers synced sync_refused old result new
joined_sync old mid new (Ok u) (Ok v) alike a b p q = p ∙ a
joined_sync old mid new (Ok u) (Err e) alike a b p q = absurd (false≢true alike)
joined_sync old mid new (Err e) (Ok v) alike a b p q = absurd (false≢true (sym alike))
joined_sync old mid new (Err d) (Err e) alike a b p q = q ∙ ap refused b

-- a write
holds_written : (at : ℕ) (bytes : List ℕ) (f : FileState) → 0 < length bytes → Holds (written at bytes f).seen at bytes
holds_written at [] f some = absurd (omega arith)
holds_written at (byte ∷ bytes) f some = Holds-overlaid f.seen at (byte ∷ bytes)

torn_written : (at : ℕ) (bytes : List ℕ) (f : FileState) → Torn at (length bytes) f.seen (written at bytes f).seen
torn_written at [] f = Torn-refl at 0 f.seen
torn_written at (byte ∷ bytes) f = Torn-overlaid f.seen at (byte ∷ bytes)

left_before_written : (at : ℕ) (bytes : List ℕ) (f : FileState) → IsSound f → Follows (Torn at (length bytes)) (may_leave f) (may_leave (written at bytes f))
left_before_written at [] f sound c left = (c, left, Torn-refl at 0 c)
left_before_written at (byte ∷ bytes) f sound c left =
    before_written f.kept f.most (unsynced f.noted) f.seen sound.0 sound.1 at (byte ∷ bytes) c
    (subst (λ (ranges : List Range). MayLeave f.kept (max f.most (at + length (byte ∷ bytes))) ranges (overlaid f.seen at (byte ∷ bytes)) c) (unsynced_from-append [] f.noted (pwrite at (byte ∷ bytes) ∷ [])) left)

module _ (at : ℕ) (bytes : List ℕ) (old new : FileState) where
  pub holds_answered : (result : Result (Unit {0}) Error) → Answers (written at bytes) refused old result new → OnOk result (0 < length bytes → Holds new.seen at bytes)
  holds_answered (Ok u) same = λ some. subst (λ (f : FileState). Holds f.seen at bytes) (sym same) (holds_written at bytes old some)
  holds_answered (Err e) same = tt

  pub torn_answered : (result : Result (Unit {0}) Error) → Answers (written at bytes) refused old result new → Torn at (length bytes) old.seen new.seen
  torn_answered (Ok u) same = subst (λ (f : FileState). Torn at (length bytes) old.seen f.seen) (sym same) (torn_written at bytes old)
  torn_answered (Err e) same = subst (λ (f : FileState). Torn at (length bytes) old.seen f.seen) (sym same) (Torn-refl at (length bytes) old.seen)

  pub left_answered : IsSound old → (result : Result (Unit {0}) Error) → Answers (written at bytes) refused old result new → Follows (Torn at (length bytes)) (may_leave old) (may_leave new)
  left_answered sound (Ok u) same = λ c left. left_before_written at bytes old sound c (subst (λ (f : FileState). may_leave f c) same left)
  left_answered sound (Err e) same = λ c left. (c, subst (λ (f : FileState). may_leave f c) same left, Torn-refl at (length bytes) c)

-- a change of the length
left_before_resized : (len : ℕ) (f : FileState) → IsSound f → Follows (Cut len) (may_leave f) (may_leave (resized len f))
left_before_resized len f sound c left =
    before_resized f.kept f.most (unsynced f.noted) f.seen sound.0 sound.1 len c
    (subst (λ (ranges : List Range). MayLeave (min f.kept len) (max f.most len) ranges (padded f.seen len) c) (unsynced_from-append [] f.noted (ftruncate len ∷ [])) left)

module _ (len : ℕ) (old new : FileState) where
  pub len_answered : (result : Result (Unit {0}) Error) → Answers (resized len) refused old result new → OnOk result (length new.seen ≡ len)
  len_answered (Ok u) same = ap (λ (f : FileState). length f.seen) same ∙ length-padded old.seen len
  len_answered (Err e) same = tt

  pub cut_answered : (result : Result (Unit {0}) Error) → Answers (resized len) refused old result new → Cut len old.seen new.seen
  cut_answered (Ok u) same = subst (λ (f : FileState). Cut len old.seen f.seen) (sym same) (Cut-padded old.seen len)
  cut_answered (Err e) same = subst (λ (f : FileState). Cut len old.seen f.seen) (sym same) (Cut-refl len old.seen)

  pub left_resized : IsSound old → (result : Result (Unit {0}) Error) → Answers (resized len) refused old result new → Follows (Cut len) (may_leave old) (may_leave new)
  left_resized sound (Ok u) same = λ c left. left_before_resized len old sound c (subst (λ (f : FileState). may_leave f c) same left)
  left_resized sound (Err e) same = λ c left. (c, subst (λ (f : FileState). may_leave f c) same left, Cut-refl len c)

-- a sync
pub only_synced : (f : FileState) (c : List ℕ) → may_leave (synced f) c → c ≡ f.seen
only_synced f c left =
    only_seen f.seen c (subst (λ (ranges : List Range). MayLeave (length f.seen) (length f.seen) ranges f.seen c) (unsynced_from-append [] f.noted (fdatasync ∷ [])) left)

module _ (old new : FileState) where
  pub only_answered : (result : Result (Unit {0}) Error) → Answers synced sync_refused old result new → OnOk result (Only old.seen (may_leave new))
  only_answered (Ok u) same = λ c left. only_synced old c (subst (λ (f : FileState). may_leave f c) same left)
  only_answered (Err e) same = tt

  pub left_synced : (result : Result (Unit {0}) Error) → Answers synced sync_refused old result new → (c : List ℕ) → may_leave new c → may_leave old c
  left_synced (Ok u) same = λ c left. inl (only_synced old c (subst (λ (f : FileState). may_leave f c) same left))
  left_synced (Err e) same = λ c left. subst (λ (f : FileState). may_leave f c) same left
