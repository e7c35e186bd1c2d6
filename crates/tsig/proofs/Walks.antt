-- Items are skipped exactly where so many stand one behind the other.
use Rattle.std.proofs.Common.{◌≡◌, ℕ, zero, suc, List, [], ◌∷◌, ◌++◌, length, Ok, refl, sym, ap, subst, ◌∙◌}
use Rattle.wire_messages.specs.serialize.reading.Cursor.{Cursor}
use Rattle.wire_messages.specs.serialize.layout.MessageLayout.{ItemsAt}
use Rattle.wire_messages.specs.serialize.reading.Reading.{Read}
use Rattle.wire_messages.proofs.lemmas.serialize.layout.ByteTexts.{here}
use Rattle.wire_messages.proofs.lemmas.serialize.reading.StringSteps.{ok_is, bind_ok, wrap}
use Rattle.wire_reading.proofs.lemmas.serialize.reading.CountedItems.{Finds, Reaches, is_here}
use Rattle.tsig.specs.Reading.{skip}

-- so many items that stand there are skipped
pub skip_here : {A : Type 0} (bytes : List ℕ) (read : Cursor → Read A) (at : ℕ → A → ℕ → Type 0) → Reaches bytes read at → (xs : List A) (place next : ℕ) → ItemsAt at place xs next
    → skip read (length xs) (here bytes place) ≡ Ok (here bytes next)
unfolding skip
skip_here bytes read at reach [] place next e = ap (λ (n : ℕ). wrap (here bytes n)) (sym e)
skip_here bytes read at reach (x ∷ xs) place next (middle, here_x, more) = rw (reach place x middle here_x) (skip_here bytes read at reach xs middle next more)

-- the items that were skipped
pub record Skipped {A : Type 0} (bytes : List ℕ) (at : ℕ → A → ℕ → Type 0) (n place : ℕ) (next : Cursor) : Type 0 where
  pub xs : List A
  pub stand : ItemsAt at place xs next.place
  pub count : length xs ≡ n
  pub kept : next.bytes ≡ bytes

-- so many items that are skipped stand there
pub skip_found : {A : Type 0} (bytes : List ℕ) (read : Cursor → Read A) (at : ℕ → A → ℕ → Type 0) → Finds bytes read at → (n place : ℕ) (next : Cursor) → skip read n (here bytes place) ≡ Ok next → Skipped bytes at n place next
unfolding skip
skip_found bytes read at find zero place next e =
    let same : here bytes place ≡ next = ok_is (here bytes place) next e in
    record { xs = []; stand = ap (λ (z : Cursor). z.place) (sym same); count = refl; kept = ap (λ (z : Cursor). z.bytes) (sym same) }
skip_found {A} bytes read at find (suc n) place next e =
    let b = bind_ok (read (here bytes place)) (λ (x : A × Cursor). skip read n x.1) next e in
    let f = find place b.0.0 b.0.1 b.1 in
    let h : skip read n (here bytes b.0.1.place) ≡ Ok next = ap (skip read n) (sym (is_here b.0.1 f.1)) ∙ b.2 in
    let r = skip_found bytes read at find n b.0.1.place next h in
    record { xs = b.0.0 ∷ r.xs; stand = (b.0.1.place, f.0, r.stand); count = ap suc r.count; kept = r.kept }

-- one item more stands behind the others
pub items_end : {A : Type 0} (at : ℕ → A → ℕ → Type 0) (xs : List A) (x : A) (place middle next : ℕ) → ItemsAt at place xs middle → at middle x next → ItemsAt at place (xs ++ x ∷ []) next
items_end at [] x place middle next e one = (next, subst (λ (n : ℕ). at n x next) e one, refl)
items_end at (y ∷ ys) x place middle next (between, first, more) one = (between, first, items_end at ys x between middle next more one)
