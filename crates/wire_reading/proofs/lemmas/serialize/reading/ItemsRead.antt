-- Items that were read before, and those that are still read.
use Rattle.std.proofs.Common.{◌≡◌, ℕ, suc, ◌+◌, ◌-◌, ◌<◌, ◌≤◌, List, [], ◌∷◌, ◌++◌, Result, Ok, Err, refl, sym, ap, ◌∙◌, arith}
use Rattle.wire_names.specs.declared.error.DecodeError.{DecodeError}
use Rattle.wire_messages.specs.declared.rr.rdata.RData.{RData}
use Rattle.wire_messages.specs.declared.rr.record.Record.{Record}
use Rattle.wire_messages.specs.serialize.reading.Cursor.{Cursor}
use Rattle.wire_messages.specs.serialize.reading.Reading.{Read, ◌>>=◌, Fails}
use Rattle.wire_messages.specs.serialize.reading.RecordReading.{resource}
use Rattle.wire_messages.specs.serialize.reading.SectionReading.{items, Additionals, add_record, additionals_after}

module _ {A : Type 0} (read : Cursor → Read A) (count i : ℕ) (before : List A) (c : Cursor) (total : Read (List A)) (so_far : items read (count - i) before c ≡ total) where
  pub items_go_on : (x : A) (d : Cursor) → i < count → read c ≡ Ok (x, d) → items read (count - (i + 1)) (before ++ x ∷ []) d ≡ total
  unfolding items
  items_go_on x d lt h =
      let k : count - i ≡ suc (count - (i + 1)) = omega arith in
      let one : items read (count - i) before c ≡ items read (count - (i + 1)) (before ++ x ∷ []) d = rw (k, h) refl in
      sym one ∙ so_far

  pub items_fail : (e : DecodeError) → i < count → Fails e (read c) → Fails e total
  unfolding items
  items_fail e lt h not_memory =
      let k : count - i ≡ suc (count - (i + 1)) = omega arith in
      let one : items read (count - i) before c ≡ Err e = rw (k, h not_memory) refl in
      sym so_far ∙ one

  pub items_done : count ≤ i → total ≡ Ok (before, c)
  unfolding items
  items_done le =
      let k : count - i ≡ 0 = omega arith in
      let one : items read (count - i) before c ≡ Ok (before, c) = rw k refl in
      sym so_far ∙ one

-- what was read, and where it ends
abbrev pub read_to : {A : Type 0} → A → Cursor → Read A
read_to x c = Ok (x, c)

put_then : (put : Result Additionals DecodeError) (d : Cursor) (go : Additionals → Cursor → Read Additionals) → (put >>= λ y. go y d) ≡ ((put >>= λ y. read_to y d) >>= λ z. go z.0 z.1)
put_then (Ok y) d go = refl
put_then (Err e) d go = refl

-- the next record, and then the others
regroup : (r : Read (Record RData)) (put : Record RData → Result Additionals DecodeError) (go : Additionals → Cursor → Read Additionals)
    → (r >>= λ x. put x.0 >>= λ y. go y x.1) ≡ ((r >>= λ x. put x.0 >>= λ y. read_to y x.1) >>= λ z. go z.0 z.1)
regroup (Ok x) put go = put_then (put x.0) x.1 go
regroup (Err e) put go = refl

one_more : (n : ℕ) (before : Additionals) (c : Cursor) → additionals_after (suc n) before c ≡ (additionals_after 1 before c >>= λ z. additionals_after n z.0 z.1)
unfolding additionals_after
one_more n before c = regroup (resource c) (add_record before) (additionals_after n)

module _ (count i : ℕ) (before : Additionals) (c : Cursor) (total : Read Additionals) (so_far : additionals_after (count - i) before c ≡ total) where
  pub additionals_go_on : (d : Cursor) (after : Additionals) → i < count → additionals_after 1 before c ≡ Ok (after, d) → additionals_after (count - (i + 1)) after d ≡ total
  additionals_go_on d after lt h =
      let k : count - i ≡ suc (count - (i + 1)) = omega arith in
      let one : additionals_after (count - i) before c ≡ additionals_after (count - (i + 1)) after d = ap (λ (n : ℕ). additionals_after n before c) k ∙ one_more (count - (i + 1)) before c ∙ rw h refl in
      sym one ∙ so_far

  pub additionals_fail : (e : DecodeError) → i < count → Fails e (additionals_after 1 before c) → Fails e total
  additionals_fail e lt h not_memory =
      let k : count - i ≡ suc (count - (i + 1)) = omega arith in
      let one : additionals_after (count - i) before c ≡ Err e = ap (λ (n : ℕ). additionals_after n before c) k ∙ one_more (count - (i + 1)) before c ∙ rw (h not_memory) refl in
      sym so_far ∙ one

  pub additionals_done : count ≤ i → total ≡ Ok (before, c)
  unfolding additionals_after
  additionals_done le =
      let k : count - i ≡ 0 = omega arith in
      let one : additionals_after (count - i) before c ≡ Ok (before, c) = rw k refl in
      sym so_far ∙ one
