-- So many items are read, one behind the other, exactly where so many stand one behind the other.
use Rattle.std.proofs.Common.{◌≡◌, ◌↔◌, ℕ, zero, suc, List, [], ◌∷◌, ◌++◌, length, Ok, refl, sym, ap, subst, ◌∙◌, append_assoc}
use Rattle.std.proofs.lemmas.List.{append-nil}
use Rattle.wire_messages.specs.serialize.reading.Cursor.{Cursor}
use Rattle.wire_messages.specs.serialize.layout.MessageLayout.{ItemsAt}
use Rattle.wire_messages.specs.serialize.reading.Reading.{Read}
use Rattle.wire_messages.specs.serialize.reading.SectionReading.{items}
use Rattle.wire_messages.proofs.lemmas.serialize.layout.ByteTexts.{here, read_here}
use Rattle.wire_messages.proofs.lemmas.serialize.reading.StringSteps.{ok_is, bind_ok}

-- a cursor of these bytes is at its place in them
pub is_here : {bytes : List ℕ} (c : Cursor) → c.bytes ≡ bytes → c ≡ here bytes c.place
is_here c kept = ap (λ (b : List ℕ). here b c.place) kept

-- a reading at a cursor is one at its place
pub at_place : {A : Type 0} {bytes : List ℕ} (read : Cursor → Read A) (c : Cursor) → c.bytes ≡ bytes → (y : A × Cursor) → read c ≡ Ok y → read (here bytes c.place) ≡ Ok y
at_place read c kept y e = ap read (sym (is_here c kept)) ∙ e

-- what a reader reads stands there, and the bytes stay
abbrev pub Finds : {A : Type 0} → List ℕ → (Cursor → Read A) → (ℕ → A → ℕ → Type 0) → Type 0
Finds {A} bytes read at = (place : ℕ) (x : A) (next : Cursor) → read (here bytes place) ≡ Ok (x, next) → at place x next.place × (next.bytes ≡ bytes)

-- what stands there is read
abbrev pub Reaches : {A : Type 0} → List ℕ → (Cursor → Read A) → (ℕ → A → ℕ → Type 0) → Type 0
Reaches {A} bytes read at = (place : ℕ) (x : A) (next : ℕ) → at place x next → read (here bytes place) ≡ read_here x bytes next

-- so many items that stand there are read, behind those before
pub items_here : {A : Type 0} (bytes : List ℕ) (read : Cursor → Read A) (at : ℕ → A → ℕ → Type 0) → Reaches bytes read at → (xs before : List A) (place next : ℕ) → ItemsAt at place xs next
    → items read (length xs) before (here bytes place) ≡ read_here (before ++ xs) bytes next
unfolding items
items_here bytes read at reach [] before place next e = rw (append-nil before) (ap (read_here before bytes) (sym e))
items_here bytes read at reach (x ∷ xs) before place next (middle, here_x, more) =
    rw (reach place x middle here_x) (items_here bytes read at reach xs (before ++ x ∷ []) middle next more ∙ ap (λ ys. read_here ys bytes next) (append_assoc before (x ∷ []) xs))

-- the items behind those before, and how they stand
pub record Found {A : Type 0} (bytes : List ℕ) (at : ℕ → A → ℕ → Type 0) (n : ℕ) (before : List A) (place : ℕ) (all : List A) (next : Cursor) : Type 0 where
  pub more : List A
  pub whole : all ≡ before ++ more
  pub stand : ItemsAt at place more next.place
  pub count : length more ≡ n
  pub kept : next.bytes ≡ bytes

-- so many items that are read stand there
pub items_found : {A : Type 0} (bytes : List ℕ) (read : Cursor → Read A) (at : ℕ → A → ℕ → Type 0) → Finds bytes read at → (n : ℕ) (before : List A) (place : ℕ) (all : List A) (next : Cursor)
    → items read n before (here bytes place) ≡ Ok (all, next) → Found bytes at n before place all next
unfolding items
items_found {A} bytes read at find zero before place all next e =
    let y : List A × Cursor = (before, here bytes place) in
    let same : y ≡ (all, next) = ok_is y (all, next) e in
    record {
      more = [];
      whole = ap (λ (z : List A × Cursor). z.0) (sym same) ∙ sym (append-nil before);
      stand = ap (λ (z : List A × Cursor). z.1.place) (sym same);
      count = refl;
      kept = ap (λ (z : List A × Cursor). z.1.bytes) (sym same);
    }
items_found {A} bytes read at find (suc n) before place all next e =
    let b = bind_ok (read (here bytes place)) (λ x. items read n (before ++ x.0 ∷ []) x.1) (all, next) e in
    let f = find place b.0.0 b.0.1 b.1 in
    let h = at_place (items read n (before ++ b.0.0 ∷ [])) b.0.1 f.1 (all, next) b.2 in
    let r = items_found bytes read at find n (before ++ b.0.0 ∷ []) b.0.1.place all next h in
    record {
      more = b.0.0 ∷ r.more;
      whole = r.whole ∙ append_assoc before (b.0.0 ∷ []) r.more;
      stand = (b.0.1.place, f.0, r.stand);
      count = ap suc r.count;
      kept = r.kept;
    }

-- both ways
pub items_both : {A : Type 0} (bytes : List ℕ) (read : Cursor → Read A) (at : ℕ → A → ℕ → Type 0) → Finds bytes read at → Reaches bytes read at → (n place : ℕ) (xs : List A) (next : ℕ)
    → (ItemsAt at place xs next × (length xs ≡ n)) ↔ (items read n [] (here bytes place) ≡ read_here xs bytes next)
items_both bytes read at find reach n place xs next = (
  λ h. subst (λ (k : ℕ). items read k [] (here bytes place) ≡ read_here xs bytes next) h.1 (items_here bytes read at reach xs [] place next h.0),
  λ e. let f = items_found bytes read at find n [] place xs (here bytes next) e in
      subst (λ ys. ItemsAt at place ys next × (length ys ≡ n)) (sym f.whole) (f.stand, f.count),
)
