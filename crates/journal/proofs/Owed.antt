-- What a file owes makes of what it held what it shows, and a crash leaves what it says.
use Rattle.std.proofs.Common.{◌≡◌, ◌⊎◌, ◌+◌, ◌-◌, ◌≤◌, ℕ, min, max, List, [], ◌∷◌, ◌++◌, length, take, drop, refl, sym, ◌∙◌, ap, subst, inl, inr, arith, append-nil, append_assoc, length-append, take-append-drop}
use Rattle.std.proofs.lemmas.List.{take_at, take-append-le, drop-append-le}
use Rattle.sqlite_disk.specs.Events.{overlaid, padded}
use Rattle.sqlite_disk.proofs.EventLemmas.{length-padded}
use Rattle.journal.specs.host_file.Calls.{HostCall, after_call, after}
use Rattle.journal.specs.host_file.Calls.HostCall.{pwrite, ftruncate, fdatasync}
use Rattle.journal.specs.host_file.Crashes.{Range, MayLeave, Midst, Behind, CrashLeaves}
use Rattle.journal.specs.host_file.FileState.{FileState, unsynced, may_leave, IsSound, owed, written, resized, synced}
use Rattle.journal.specs.host_file.Steps.{IsStep, IsReached}
use Rattle.journal.specs.host_file.Steps.IsStep.{writes, resizes, syncs, is_refused, is_shut, fails}
use Rattle.journal.specs.host_file.Steps.IsReached.{at_first, by_step}
use Rattle.journal.proofs.CrashLemmas.{behind_written, behind_resized}
use Rattle.journal.proofs.FileLemmas.{unsynced_from-append, length-overlaid}

after-append : (file : List ℕ) (xs ys : List HostCall) → after file (xs ++ ys) ≡ after (after file xs) ys
after-append file [] ys = refl
after-append file (x ∷ xs) ys = after-append (after_call x file) xs ys

leaves_last : (earlier : List ℕ → Type 0) (file : List ℕ) (xs : List HostCall) (y : HostCall) (c : List ℕ) → CrashLeaves earlier file (xs ++ y ∷ []) c → Behind y (after file xs) (CrashLeaves earlier file xs) c
leaves_last earlier file [] y c left = left
leaves_last earlier file (x ∷ xs) y c left = leaves_last (Behind x file earlier) (after_call x file) xs y c left

last_leaves : (earlier : List ℕ → Type 0) (file : List ℕ) (xs : List HostCall) (y : HostCall) (c : List ℕ) → Behind y (after file xs) (CrashLeaves earlier file xs) c → CrashLeaves earlier file (xs ++ y ∷ []) c
last_leaves earlier file [] y c left = left
last_leaves earlier file (x ∷ xs) y c left = last_leaves (Behind x file earlier) (after_call x file) xs y c left

-- what is noted is owed
owed-more : (f : FileState) (calls : List HostCall) → IsSound f → drop f.made (f.noted ++ calls) ≡ owed f ++ calls
owed-more f calls sound = drop-append-le f.made f.noted calls sound.2

-- the law of one moment
record IsOwed (first f : FileState) : Type 0 where
  sound : IsSound f
  seen : f.seen ≡ after first.seen (owed f)
  crash : (c : List ℕ) → CrashLeaves (may_leave first) first.seen (owed f) c → may_leave f c

module _ (first f : FileState) (o : IsOwed first f) where
  -- what a file holds that owes one call more
  seen_more : (call : HostCall) → after_call call f.seen ≡ after first.seen (drop f.made (f.noted ++ call ∷ []))
  seen_more call = ap (after_call call) o.seen ∙ sym (after-append first.seen (owed f) (call ∷ [])) ∙ ap (after first.seen) (sym (owed-more f (call ∷ []) o.sound))

  -- what a crash leaves of it
  left_more : (call : HostCall) (c : List ℕ) → CrashLeaves (may_leave first) first.seen (drop f.made (f.noted ++ call ∷ [])) c → Behind call (after first.seen (owed f)) (CrashLeaves (may_leave first) first.seen (owed f)) c
  left_more call c left =
      leaves_last (may_leave first) first.seen (owed f) call c (subst (λ (calls : List HostCall). CrashLeaves (may_leave first) first.seen calls c) (owed-more f (call ∷ []) o.sound) left)

  count_more : (call : HostCall) → f.made ≤ length (f.noted ++ call ∷ [])
  count_more call = omega (arith, o.sound.2, length-append f.noted (call ∷ []))

  owed_written : (at : ℕ) (bytes : List ℕ) → IsOwed first (written at bytes f)
  owed_written at [] = o
  owed_written at (byte ∷ bytes) =
      let size = length-overlaid f.seen at (byte ∷ bytes) in
      let low = o.sound.0 in
      let high = o.sound.1 in
      record {
        sound = (omega (arith, size), omega (arith, size), count_more (pwrite at (byte ∷ bytes)));
        seen = seen_more (pwrite at (byte ∷ bytes));
        crash = λ c left.
            let was = left_more (pwrite at (byte ∷ bytes)) c left in
            subst (λ (ranges : List Range). MayLeave f.kept (max f.most (at + length (byte ∷ bytes))) ranges (overlaid f.seen at (byte ∷ bytes)) c) (sym (unsynced_from-append [] f.noted (pwrite at (byte ∷ bytes) ∷ [])))
            (behind_written f.kept f.most (unsynced f.noted) f.seen o.sound.0 o.sound.1 at (byte ∷ bytes) c was.0 (o.crash was.0 was.1) was.2);
      }

  owed_resized : (len : ℕ) → IsOwed first (resized len f)
  owed_resized len =
      let size = length-padded f.seen len in
      let low = o.sound.0 in
      let high = o.sound.1 in
      record {
        sound = (omega (arith, size), omega (arith, size), count_more (ftruncate len));
        seen = seen_more (ftruncate len);
        crash = λ c left.
            let was = left_more (ftruncate len) c left in
            subst (λ (ranges : List Range). MayLeave (min f.kept len) (max f.most len) ranges (padded f.seen len) c) (sym (unsynced_from-append [] f.noted (ftruncate len ∷ [])))
            (behind_resized f.kept f.most (unsynced f.noted) f.seen o.sound.0 o.sound.1 len c was.0 (o.crash was.0 was.1) was.2);
      }

  owed_synced : IsOwed first (synced f)
  owed_synced =
      record {
        sound = (omega arith, omega arith, count_more fdatasync);
        seen = seen_more fdatasync;
        crash = λ c left. inl (left_more fdatasync c left ∙ sym o.seen);
      }

owed_step : (first f g : FileState) → IsOwed first f → IsStep f g → IsOwed first g
owed_step first f g o (writes at bytes) = owed_written first f o at bytes
owed_step first f g o (resizes len) = owed_resized first f o len
owed_step first f g o syncs = owed_synced first f o
owed_step first f g o is_refused = record { sound = o.sound; seen = o.seen; crash = o.crash }
owed_step first f g o is_shut = record { sound = o.sound; seen = o.seen; crash = o.crash }
owed_step first f g o fails = record { sound = o.sound; seen = o.seen; crash = o.crash }

owes : (first f : FileState) → IsOwed first first → IsReached first f → IsOwed first f
owes first f start at_first = start
owes first f start (by_step {f = before} reached step) = owed_step first before f (owes first before start reached) step

-- nothing is owed at the start
begins : (first : FileState) → IsSound first → owed first ≡ [] → IsOwed first first
begins first sound none =
    record {
      sound = sound;
      seen = subst (λ (calls : List HostCall). first.seen ≡ after first.seen calls) (sym none) refl;
      crash = λ c left. subst (λ (calls : List HostCall). CrashLeaves (may_leave first) first.seen calls c) none left;
    }

pub seen_owed : (first f : FileState) → IsSound first → owed first ≡ [] → IsReached first f → f.seen ≡ after first.seen (owed f)
seen_owed first f sound none reached = (owes first f (begins first sound none) reached).seen

pub crash_owed : (first f : FileState) → IsSound first → owed first ≡ [] → IsReached first f → (c : List ℕ) → CrashLeaves (may_leave first) first.seen (owed f) c → may_leave f c
crash_owed first f sound none reached = (owes first f (begins first sound none) reached).crash

-- what a step adds to the calls that are owed
added : (f g : FileState) → IsSound f → IsStep f g → (more : List HostCall) × (owed g ≡ owed f ++ more) × (length more ≤ 1)
added f g sound (writes at []) = ([], sym (append-nil (owed f)), omega arith)
added f g sound (writes at (byte ∷ bytes)) = (pwrite at (byte ∷ bytes) ∷ [], owed-more f (pwrite at (byte ∷ bytes) ∷ []) sound, omega arith)
added f g sound (resizes len) = (ftruncate len ∷ [], owed-more f (ftruncate len ∷ []) sound, omega arith)
added f g sound syncs = (fdatasync ∷ [], owed-more f (fdatasync ∷ []) sound, omega arith)
added f g sound is_refused = ([], sym (append-nil (owed f)), omega arith)
added f g sound is_shut = ([], sym (append-nil (owed f)), omega arith)
added f g sound fails = ([], sym (append-nil (owed f)), omega arith)

-- a front that is not all of the calls is a front of those before the last step
front_before : (xs more front : List HostCall) (y : HostCall) (ys : List HostCall) → length more ≤ 1 → xs ++ more ≡ front ++ y ∷ ys → xs ≡ front ++ drop (length front) xs
front_before xs more front y ys few same =
    let low : length front ≤ length xs = omega (arith, few, ap length same, length-append xs more, length-append front (y ∷ ys)) in
    let taken : take (length front) xs ≡ front
    = sym (take-append-le (length front) xs more low) ∙ ap (take (length front)) same ∙ take_at front (y ∷ ys) (length front) refl in
    sym (take-append-drop (length front) xs) ∙ ap (λ (l : List HostCall). l ++ drop (length front) xs) taken

-- the moment at which a front of the calls was owed
moment : (first f : FileState) (front rest : List HostCall) → IsSound first → owed first ≡ [] → IsReached first f → owed f ≡ front ++ rest → (way : FileState) × IsReached first way × IsReached way f × (owed way ≡ front)
moment first f front [] sound none reached same = (f, reached, at_first, same ∙ append-nil front)
moment first f front (y ∷ ys) sound none at_first same =
    let count : length (owed first) ≡ 0 = ap length none in
    absurd (omega (arith, count, ap length same, length-append front (y ∷ ys)))
moment first f front (y ∷ ys) sound none (by_step {f = before} reached step) same =
    let more = added before f (owes first before (begins first sound none) reached).sound step in
    let found = moment first before front (drop (length front) (owed before)) sound none reached (front_before (owed before) more.0 front y ys more.2 (sym more.1 ∙ same)) in
    (found.0, found.1, by_step found.2 step, found.3)

-- in the midst of a call a crash leaves what it leaves before it or behind it
midst : (earlier : List ℕ → Type 0) (file : List ℕ) (front : List HostCall) (call : HostCall) (c : List ℕ) → Midst call (CrashLeaves earlier file front) c
    → CrashLeaves earlier file front c ⊎ CrashLeaves earlier file (front ++ call ∷ []) c
midst earlier file front (pwrite at bytes) c left = inr (last_leaves earlier file front (pwrite at bytes) c left)
midst earlier file front (ftruncate len) c left = inr (last_leaves earlier file front (ftruncate len) c left)
midst earlier file front fdatasync c left = inl left

at_moment : (first f : FileState) (front rest : List HostCall) (c : List ℕ) → IsSound first → owed first ≡ [] → IsReached first f → owed f ≡ front ++ rest → CrashLeaves (may_leave first) first.seen front c
    → (way : FileState) × IsReached first way × IsReached way f × may_leave way c
at_moment first f front rest c sound none reached same left =
    let found = moment first f front rest sound none reached same in
    (found.0, found.1, found.2, crash_owed first found.0 sound none found.1 c (subst (λ (calls : List HostCall). CrashLeaves (may_leave first) first.seen calls c) (sym found.3) left))

pub told : (first f : FileState) (front rest : List HostCall) (call : HostCall) (c : List ℕ) → IsSound first → owed first ≡ [] → IsReached first f → owed f ≡ front ++ call ∷ rest
    → Midst call (CrashLeaves (may_leave first) first.seen front) c → (way : FileState) × IsReached first way × IsReached way f × may_leave way c
told first f front rest call c sound none reached same within =
    elim (midst (may_leave first) first.seen front call c within) [
      | inl before ↦ at_moment first f front (call ∷ rest) c sound none reached same before
      | inr behind ↦ at_moment first f (front ++ call ∷ []) rest c sound none reached (same ∙ sym (append_assoc front (call ∷ []) rest)) behind
    ]

-- behind a sync
pub stays : (first : FileState) (calls : List HostCall) (c : List ℕ) → CrashLeaves (may_leave first) first.seen (calls ++ fdatasync ∷ []) c → c ≡ after first.seen calls
stays first calls c left = leaves_last (may_leave first) first.seen calls fdatasync c left
