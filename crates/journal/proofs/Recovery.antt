-- What is read of a file, and that there is one reading.
use Rattle.std.proofs.Common.{◌≡◌, ◌≢◌, ◌⊎◌, inl, inr, ⊎_elim, ℕ, suc, ◌+◌, ◌<◌, ◌≤◌, List, [], ◌∷◌, ◌++◌, length, get_or, take, drop, sym, ◌∙◌, ap, subst, arith, append_assoc, length-append, length-drop, add-zero, take-append-drop, Vec}
use Rattle.std.specs.Int.{w32, to_be_bytes, from_be_bytes}
use Rattle.std.specs.declared.alloc.Global.{Global}
use Rattle.std.proofs.lemmas.Bool.{cases_eq}
use Rattle.std.proofs.lemmas.Bool.{cases_lt}
use Rattle.std.proofs.lemmas.List.{append-nil, take_at, drop_at, drop_more, length-take-le, drop-drop, get_or-drop, get_or-take, get_or_past}
use Rattle.std.proofs.lemmas.Nat.{be_bytes_4, from_be_bytes-to_be_bytes_4}
use Rattle.sqlite_disk.specs.Disk.{Holds, Torn}
use Rattle.journal.specs.Frames.{frame, frames, AreSmall, IsEnd, IsSmall, StandsFor, ended, framed}
use Rattle.journal.specs.JournalFile.{IsJournal}
use Rattle.journal.specs.Read.{contents, IsSplit}
use Rattle.journal.specs.Settled.{IsClosed}
use Rattle.journal.proofs.Files.{kept, written, one_byte}
use Rattle.journal.proofs.Entries.{after_frames, framed_journal, shut, zero_not_one, frames-append, small_all}

-- the length that stands in a frame
len_of : List ℕ → ℕ
len_of bytes = from_be_bytes w32 (take 4 (drop 1 bytes))

len_of_frame : (entry rest : List ℕ) → IsSmall entry → from_be_bytes w32 (take 4 (drop 1 (frame entry ++ rest))) ≡ length entry
len_of_frame entry rest small =
    ap (from_be_bytes w32) (ap (λ (l : List ℕ). take 4 l) (append_assoc (to_be_bytes w32 (length entry)) entry rest) ∙ take_at (to_be_bytes w32 (length entry)) (entry ++ rest) 4 (λ i. 4))
    ∙ from_be_bytes-to_be_bytes_4 (length entry) small

behind_len : (entry rest : List ℕ) → drop 5 (frame entry ++ rest) ≡ entry ++ rest
behind_len entry rest = ap (λ (l : List ℕ). drop 4 l) (append_assoc (to_be_bytes w32 (length entry)) entry rest) ∙ drop_at (to_be_bytes w32 (length entry)) (entry ++ rest) 4 (λ i. 4)

same_frame : (p q r s : List ℕ) → IsSmall p → IsSmall q → frame p ++ r ≡ frame q ++ s → (p ≡ q) × (r ≡ s)
same_frame p q r s small_p small_q e =
    let lens : length p ≡ length q = sym (len_of_frame p r small_p) ∙ ap (λ (l : List ℕ). from_be_bytes w32 (take 4 (drop 1 l))) e ∙ len_of_frame q s small_q in
    let bodies : p ++ r ≡ q ++ s = sym (behind_len p r) ∙ ap (λ (l : List ℕ). drop 5 l) e ∙ behind_len q s in (
      sym (take_at p r (length p) (λ i. length p)) ∙ ap (λ (l : List ℕ). take (length p) l) bodies ∙ take_at q s (length p) (sym lens),
      sym (drop_at p r (length p) (λ i. length p)) ∙ ap (λ (l : List ℕ). drop (length p) l) bodies ∙ drop_at q s (length p) (sym lens),
    )

pub unique : (file : List ℕ) (entries others : List (List ℕ)) → StandsFor file entries → StandsFor file others → entries ≡ others
unique file [] [] (ended e) (ended f) = λ i. []
unique file [] (q ∷ others) (ended e) (framed {rest = s} small is stands) = absurd (e q s small is)
unique file (p ∷ entries) [] (framed {rest = r} small is stands) (ended f) = absurd (f p r small is)
unique file (p ∷ entries) (q ∷ others) (framed {rest = r} small is stands) (framed {rest = s} small' is' stands') =
    let same = same_frame p q r s small small' (sym is ∙ is') in
    let rest = unique s entries others (subst (λ l. StandsFor l entries) same.1 stands) stands' in
    λ i. same.0 i ∷ rest i

pub split_stands : (file : List ℕ) (entries : List (List ℕ)) (end : ℕ) → IsSplit file entries end → StandsFor file entries
split_stands file entries end s =
    subst (λ f. StandsFor f entries) (sym s.split) (subst (StandsFor (frames entries ++ s.rest)) (append-nil entries) (after_frames entries s.rest [] s.small (ended s.ends)))

-- the bytes begin with a whole frame
pub whole_frame : (bytes entry behind : List ℕ) (len : ℕ) → 5 + len ≤ length bytes → get_or bytes 0 0 ≡ 1 → len ≡ from_be_bytes w32 (take 4 (drop 1 bytes)) → ((i : ℕ) → get_or bytes i 0 < 256)
    → entry ≡ take len (drop 5 bytes) → behind ≡ drop (5 + len) bytes → (length entry ≡ len) × (bytes ≡ frame entry ++ behind)
whole_frame [] entry behind len long gate is typed e b = absurd (omega arith)
whole_frame (g ∷ tail) entry behind len long gate is typed e b =
    let tail_len : 4 + len ≤ length tail = omega arith in
    let four : length (take 4 tail) ≡ 4 = length-take-le 4 tail (omega arith) in
    let size : length entry ≡ len = ap length e ∙ length-take-le len (drop 4 tail) (omega (arith, length-drop 4 tail)) in
    let head : take 4 tail ≡ to_be_bytes w32 (length entry) = sym (be_bytes_4 (take 4 tail) (length entry) four (λ i. typed_take i) (size ∙ is)) in
    let last : drop len (drop 4 tail) ≡ behind = drop-drop_5 ∙ sym b in (
      size,
      (λ i. gate i ∷ tail)
          ∙ ap (λ (l : List ℕ). 1 ∷ l) (sym (take-append-drop 4 tail) ∙ (λ i. head i ++ drop 4 tail)
          ∙ ap (λ (l : List ℕ). to_be_bytes w32 (length entry) ++ l) (sym (take-append-drop len (drop 4 tail)) ∙ (λ i. sym e i ++ last i))
          ∙ sym (append_assoc (to_be_bytes w32 (length entry)) entry behind)),
    )
  where
    typed_take : (i : ℕ) → get_or (take 4 tail) i 0 < 256
    typed_take i = ⊎_elim
        (λ low. let t : get_or tail i 0 < 256 = typed (suc i) in omega (arith, t, get_or-take 4 tail i 0 low))
        (λ high. omega (arith, get_or_past (take 4 tail) i 0 (omega (arith, length-take-le 4 tail (omega arith), high))))
        (cases_lt i 4)

    drop-drop_5 : drop len (drop 4 tail) ≡ drop (5 + len) (g ∷ tail)
    drop-drop_5 = drop-drop len 5 (g ∷ tail)

pub contents_more : (entries : List (Vec ℕ Global)) (v : Vec ℕ Global) → contents (entries ++ v ∷ []) ≡ contents entries ++ v.items ∷ []
contents_more [] v = λ i. v.items ∷ []
contents_more (e ∷ entries) v = ap (λ (l : List (List ℕ)). e.items ∷ l) (contents_more entries v)

-- one frame more is read
pub split_more : (bytes rest entry behind : List ℕ) (read : List (Vec ℕ Global)) (v : Vec ℕ Global) → bytes ≡ frames (contents read) ++ rest → rest ≡ frame entry ++ behind → v.items ≡ entry → bytes ≡ frames (contents (read ++ v ∷ [])) ++ behind
split_more bytes rest entry behind read v so_far more is =
    so_far ∙ ap (λ (l : List ℕ). frames (contents read) ++ l) (more ∙ ap (λ (l : List ℕ). frame l ++ behind) (sym is))
    ∙ ap (λ (l : List ℕ). frames (contents read) ++ (l ++ behind)) (sym (append-nil (frame v.items)))
    ∙ sym (frames-append (contents read) (v.items ∷ []) behind)
    ∙ ap (λ (l : List (List ℕ)). frames l ++ behind) (sym (contents_more read v))

pub small_and_more : (read : List (Vec ℕ Global)) (v : Vec ℕ Global) (entry : List ℕ) → AreSmall (contents read) → IsSmall entry → v.items ≡ entry → AreSmall (contents (read ++ v ∷ []))
small_and_more read v entry small new is =
    subst AreSmall (sym (contents_more read v)) (small_all (contents read) (v.items ∷ []) small (subst IsSmall (sym is) new, tt))

-- so few bytes are no frame
short : (bytes : List ℕ) → length bytes < 5 → IsEnd bytes
short bytes few entry rest small e = absurd (omega (arith, ap length e, few, length-append (frame entry) rest, length-append (to_be_bytes w32 (length entry)) entry))

-- What a write of one byte at the end leaves, where what stands there is no gate or an open one, or is all that the
-- file has.
pub closing : (file : List ℕ) (entries : List (List ℕ)) (end : ℕ) (c : List ℕ) → IsSplit file entries end → (end < length file → (get_or file end 0 ≡ 1) ⊎ (length file ≤ 1)) → Torn end 1 file c → StandsFor c entries
closing file entries end c s tested torn = by s.rest s.split s.ends
  where
    by : (rest : List ℕ) → file ≡ frames entries ++ rest → IsEnd rest → StandsFor c entries
    by [] split ends =
        let torn' : Torn end 1 (frames entries ++ []) c = subst (λ f. Torn end 1 f c) split torn in
        let is : c ≡ frames entries ++ drop end c = kept end 1 (frames entries) [] c torn' s.place in
        let few : length (drop end c) < 5 = omega (arith, length-drop end c, torn'.no_longer, length-append (frames entries) [], s.place) in
        subst (λ f. StandsFor f entries) (sym is) (subst (StandsFor (frames entries ++ drop end c)) (append-nil entries) (after_frames entries (drop end c) [] s.small (ended (short (drop end c) few))))
    by (b ∷ r) split ends =
        let torn' : Torn end 1 (frames entries ++ b ∷ r) c = subst (λ f. Torn end 1 f c) split torn in
        let is : c ≡ frames entries ++ get_or c end 0 ∷ r = one_byte end (frames entries) r b c s.place torn' in
        let within : end < length file = omega (arith, ap length split, length-append (frames entries) (b ∷ r), s.place) in
        let no_frame : IsEnd (get_or c end 0 ∷ r) = ⊎_elim
        (λ opened. elim (cases_eq (get_or c end 0) 1) [
          | inl again ↦ subst (λ g. IsEnd (g ∷ r)) (sym (here b r) ∙ ap (λ (l : List ℕ). get_or l end 0) (sym split) ∙ opened ∙ sym again) ends
          | inr closed ↦ shut (get_or c end 0) r closed
        ])
        (λ alone. short (get_or c end 0 ∷ r) (omega (arith, alone, ap length split, length-append (frames entries) (b ∷ r))))
        (tested within) in
        subst (λ f. StandsFor f entries) (sym is) (subst (StandsFor (frames entries ++ get_or c end 0 ∷ r)) (append-nil entries) (after_frames entries (get_or c end 0 ∷ r) [] s.small (ended no_frame)))
      where
        here : (b : ℕ) (r : List ℕ) → get_or (frames entries ++ b ∷ r) end 0 ≡ b
        here b r = ap (λ k. get_or (frames entries ++ b ∷ r) k 0) (s.place ∙ sym (add-zero (length (frames entries)))) ∙ sym (get_or-drop (length (frames entries)) (frames entries ++ b ∷ r) 0 0) ∙ ap (λ (l : List ℕ). get_or l 0 0) (drop_at (frames entries) (b ∷ r) (length (frames entries)) (λ i. length (frames entries)))

-- the gate that stands there
pub gate_there : (file : List ℕ) (entries : List (List ℕ)) (end : ℕ) → IsSplit file entries end → end < length file → (junk : List ℕ) × (file ≡ frames entries ++ get_or file end 0 ∷ junk)
gate_there file entries end s within = (
  drop (end + 1) file,
  sym (take-append-drop end file)
      ∙ (λ i. front i ++ drop end file)
      ∙ ap (λ (l : List ℕ). frames entries ++ l) (drop_more file end 0 within),
)
  where
    front : take end file ≡ frames entries
    front = ap (λ (l : List ℕ). take end l) s.split ∙ take_at (frames entries) s.rest end (sym s.place)

pub closed_by : (file : List ℕ) (entries : List (List ℕ)) (end : ℕ) (new : List ℕ) → IsSplit file entries end → Torn end 1 file new → Holds new end (0 ∷ []) → (junk : List ℕ) × (new ≡ frames entries ++ 0 ∷ junk)
closed_by file entries end new s torn holds =
    (drop 1 (drop end new), written end (0 ∷ []) (frames entries) s.rest new (subst (λ f. Torn end 1 f new) s.split torn) s.place holds)

-- It leaves a journal's file a journal's.
pub closing_journal : (file : List ℕ) (entries : List (List ℕ)) (end : ℕ) (c : List ℕ) → IsSplit file entries end → (end < length file → (get_or file end 0 ≡ 1) ⊎ (length file ≤ 1)) → IsJournal file → Torn end 1 file c → IsJournal c
closing_journal file (entry ∷ entries) end c s tested was torn =
    subst IsJournal (sym (kept end 1 (frames (entry ∷ entries)) s.rest c (subst (λ f. Torn end 1 f c) s.split torn) s.place)) (framed_journal entry entries (drop end c) s.small)
closing_journal file [] end c s tested was torn = by was (cases_lt end (length file))
  where
    few : length file ≤ 1 → IsJournal c
    few alone = inl (omega (arith, alone, torn.no_longer, s.place))

    by : IsJournal file → (end < length file) ⊎ (length file ≤ end) → IsJournal c
    by is (inr none) = few (omega (arith, none, s.place))
    by (inl alone) (inl some) = few alone
    by (inr (inl closed)) (inl some) = ⊎_elim (λ opened. absurd (zero_not_one (get_or file 0 0) closed (ap (λ k. get_or file k 0) (sym s.place) ∙ opened))) few (tested some)
    by (inr (inr begins)) (inl some) = absurd (s.ends begins.0 begins.1 begins.2 (sym s.split ∙ begins.3))

-- The gate that stands behind the frames of a journal's file is closed, where it is not open, and 0 where it is alone.
pub closed_there : (file : List ℕ) (entries : List (List ℕ)) (end : ℕ) → IsSplit file entries end → IsJournal file → get_or file end 0 ≢ 1 → (1 < length file) ⊎ (get_or file 0 0 ≡ 0) → IsClosed entries (get_or file end 0)
closed_there file (entry ∷ entries) end s was shut first = shut
closed_there file [] end s was shut first = ap (λ k. get_or file k 0) s.place ∙ by was first
  where
    by : IsJournal file → (1 < length file) ⊎ (get_or file 0 0 ≡ 0) → get_or file 0 0 ≡ 0
    by is (inr closed) = closed
    by (inl alone) (inl more) = absurd (omega (arith, alone, more))
    by (inr (inl closed)) (inl more) = closed
    by (inr (inr begins)) (inl more) = absurd (s.ends begins.0 begins.1 begins.2 (sym s.split ∙ begins.3))

-- Bytes that begin with no whole frame, of which there is more than one, and the first is not 0.
pub no_journal : (bytes : List ℕ) → 1 < length bytes → get_or bytes 0 0 ≢ 0 → IsEnd bytes → IsJournal bytes → ⊥
no_journal bytes more opened ends (inl alone) = omega (arith, alone, more)
no_journal bytes more opened ends (inr (inl closed)) = opened closed
no_journal bytes more opened ends (inr (inr begins)) = ends begins.0 begins.1 begins.2 begins.3
