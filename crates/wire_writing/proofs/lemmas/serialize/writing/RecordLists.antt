-- Lists of records that are written record by record.
use Rattle.std.proofs.Common.{◌≡◌, ◌≢◌, ℕ, ◌+◌, ◌<◌, ◌≤◌, List, [], ◌∷◌, ◌++◌, length, map, take, drop, Bool, true, false, Option, Some, None, refl, sym, ap, ◌∙◌, subst, arith, length-append}
use Rattle.std.specs.Prelude.{is_some, ◌||◌}
use Rattle.std.proofs.lemmas.List.{take_all, take-append-le, drop-append-le, drop_at, map-append}
use Rattle.std.specs.Borrow.{Bor}
use Rattle.wire_writing.specs.representation.Endings.{RecordEnds, count_of_one, fault_of, is_cut_by, front_of_ending, ListAdds, ListFollows}
use Rattle.wire_writing.specs.serialize.writing.Writing.{Puts, PutsAll, Ends, ListWritten, ListFront, ListsWritten, ending_of, nothing_put}
use Rattle.wire_writing.specs.serialize.writing.Writing.ListsWritten.{none_left, next_list, stuck_list}
use Rattle.wire_names.specs.declared.error.ProtoError.{ProtoError}
use Rattle.wire_messages.specs.declared.rr.rdata.RData.{RData}
use Rattle.wire_messages.specs.declared.rr.record.Record.{Record}
use Rattle.wire_writing.specs.declared.serialize.writing.list_encoder.Stops.{Stops}
use Rattle.wire_writing.specs.declared.serialize.writing.record_encoder.Ending.{Ending}
use Rattle.wire_writing.specs.declared.serialize.writing.record_encoder.Ending.TheVariants.{Whole, Cut, Stuck}
use Rattle.wire_messages.proofs.lemmas.serialize.layout.FormKeeps.{LabelsAt-longer}

-- a record takes a byte at least
pub Puts-longer : {limit : ℕ} {old new : List ℕ} {r : Record RData} → Puts limit old r new → length old < length new
Puts-longer p = let n = LabelsAt-longer p.form.owner.labels in omega (arith, n.0, p.form.counted)

some_is : {A : Type 0} (x y : A) → Some x ≡ Some y → x ≡ y
some_is x y e = cc

puts_more : (limit : ℕ) (rs : List (Record RData)) (r : Record RData) (old mid new : List ℕ) → PutsAll limit old rs mid → Puts limit mid r new → PutsAll limit old (rs ++ r ∷ []) new
puts_more limit [] r old mid new e p = (new, subst (λ m. Puts limit m r new) e p, refl)
puts_more limit (q ∷ rs) r old mid new (between, one, rest) p = (between, one, puts_more limit rs r between mid new rest p)

pub list_none : (limit : ℕ) (old : List ℕ) → ListWritten limit old [] old 0 Whole
list_none limit old = record { counted = omega arith; puts = refl; ends = refl }

module _ (limit : ℕ) (old : List ℕ) (rs : List (Record RData)) (r : Record RData) (mid : List ℕ) (count : ℕ) where
  pub list_put : (new : List ℕ) → ListWritten limit old rs mid count Whole → Puts limit mid r new → ListWritten limit old (rs ++ r ∷ []) new (count + 1) Whole
  list_put new w p =
      let more = length-append rs (r ∷ []) in
      let all : take (count + 1) (rs ++ r ∷ []) ≡ rs ++ r ∷ [] = take_all (count + 1) (rs ++ r ∷ []) (omega (arith, more, w.ends)) in
      let front : take count rs ≡ rs = take_all count rs (omega (arith, w.ends)) in
      record {
        counted = omega (arith, more, w.ends);
        puts = subst (λ xs. PutsAll limit old xs new) (sym all) (puts_more limit rs r old mid new (subst (λ xs. PutsAll limit old xs mid) front w.puts) p);
        ends = omega (arith, more, w.ends);
      }

  -- the same front, with another end
  ended : (was now : Ending) → ListWritten limit old rs mid count was → Ends limit (rs ++ r ∷ []) count mid now → ListWritten limit old (rs ++ r ∷ []) mid count now
  ended was now w e = record {
    counted = omega (arith, w.counted, length-append rs (r ∷ []));
    puts = subst (λ xs. PutsAll limit old xs mid) (sym (take-append-le count rs (r ∷ []) w.counted)) w.puts;
    ends = e;
  }

  last_left : count ≡ length rs → drop count (rs ++ r ∷ []) ≡ r ∷ []
  last_left e = drop_at rs (r ∷ []) count (sym e)

  -- the next record is left out
  pub list_ends : (new : List ℕ) (ending : Ending) → ending ≢ Whole → ListWritten limit old rs mid count Whole → RecordEnds limit mid r new ending → ListWritten limit old (rs ++ r ∷ []) new count ending
  list_ends new Whole ne w h = absurd (ne refl)
  list_ends new Cut ne w h =
      subst (λ b. ListWritten limit old (rs ++ r ∷ []) b count Cut) (sym h.0)
      (ended Whole Cut w (record { next = r; rest = []; is = last_left w.ends; formed = h.1; large = h.2 }))
  list_ends new (Stuck e) ne w h =
      subst (λ b. ListWritten limit old (rs ++ r ∷ []) b count (Stuck e)) (sym h.0)
      (ended Whole (Stuck e) w (record { next = r; rest = []; is = last_left w.ends; formless = h.1 }))

  still_left : (next : Record RData) (rest : List (Record RData)) → count ≤ length rs → drop count rs ≡ next ∷ rest → drop count (rs ++ r ∷ []) ≡ next ∷ (rest ++ r ∷ [])
  still_left next rest h e = drop-append-le count rs (r ∷ []) h ∙ ap (λ xs. xs ++ r ∷ []) e

  -- behind a record that was left out nothing is written
  pub list_skips : (ending : Ending) → ending ≢ Whole → ListWritten limit old rs mid count ending → ListWritten limit old (rs ++ r ∷ []) mid count ending
  list_skips Whole ne w = absurd (ne refl)
  list_skips Cut ne w = let k = w.ends in
      ended Cut Cut w (record { next = k.next; rest = k.rest ++ r ∷ []; is = still_left k.next k.rest w.counted k.is; formed = k.formed; large = k.large })
  list_skips (Stuck e) ne w = let k = w.ends in
      ended (Stuck e) (Stuck e) w (record { next = k.next; rest = k.rest ++ r ∷ []; is = still_left k.next k.rest w.counted k.is; formless = k.formless })

-- the records that references point to
abbrev pub nows : List (Bor (Record RData)) → List (Record RData)
nows xs = map (λ x. x.now) xs

pub nows-more : (xs : List (Bor (Record RData))) (x : Bor (Record RData)) → nows (xs ++ x ∷ []) ≡ nows xs ++ x.now ∷ []
nows-more xs x = map-append (λ y. y.now) xs (x ∷ [])

-- what is left out changes nothing
pub ends_same : (limit : ℕ) (old new : List ℕ) (r : Record RData) (ending : Ending) → ending ≢ Whole → RecordEnds limit old r new ending → new ≡ old
ends_same limit old new r Whole ne h = absurd (ne refl)
ends_same limit old new r Cut ne h = h.0
ends_same limit old new r (Stuck e) ne h = h.0

-- a list written behind others
lists_more : {limit : ℕ} {lists : List (List (Record RData))} {start mid : List ℕ} {fronts : List ListFront} {fault : Option ProtoError} (records : List (Record RData)) (new : List ℕ) (front : ListFront) → ListsWritten limit lists start mid fronts fault → fault ≡ None
    → ListWritten limit mid records new front.count (ending_of front.is_cut) → ListsWritten limit (lists ++ records ∷ []) start new (fronts ++ front ∷ []) None
lists_more records new front none_left e w = next_list w none_left
lists_more records new front (next_list one more) e w = next_list one (lists_more records new front more e w)
lists_more records new front (stuck_list one uncut behind) e w = absurd cc

-- a list that gets stuck behind others
lists_stuck : {limit : ℕ} {lists : List (List (Record RData))} {start mid : List ℕ} {fronts : List ListFront} {fault : Option ProtoError} (records : List (Record RData)) (new : List ℕ) (count : ℕ) (e : ProtoError) → ListsWritten limit lists start mid fronts fault → fault ≡ None
    → ListWritten limit mid records new count (Stuck e) → ListsWritten limit (lists ++ records ∷ []) start new (fronts ++ record { count = count; is_cut = false } ∷ []) (Some e)
lists_stuck records new count e none_left h w = stuck_list w refl refl
lists_stuck records new count e (next_list one more) h w = next_list one (lists_stuck records new count e more h w)
lists_stuck records new count e (stuck_list one uncut behind) h w = absurd cc

-- behind a list that is stuck nothing is written
lists_done : {limit : ℕ} {lists : List (List (Record RData))} {start mid : List ℕ} {fronts : List ListFront} {fault : Option ProtoError} (records : List (Record RData)) (e : ProtoError) → ListsWritten limit lists start mid fronts fault → fault ≡ Some e → ListsWritten limit (lists ++ records ∷ []) start mid (fronts ++ nothing_put ∷ []) (Some e)
lists_done records e none_left h = absurd cc
lists_done records e (next_list one more) h = next_list one (lists_done records e more h)
lists_done {limit} {start = start} {mid = mid} records e (stuck_list {records = before} {lists = others} {front = front} {fronts = fronts} {e = d} one uncut behind) h =
    stuck_list {records = before} {lists = others ++ records ∷ []} {front = front} (subst (λ x. ListWritten limit start before mid front.count (Stuck x)) (some_is d e h) one) uncut
    (ap (λ fs. fs ++ nothing_put ∷ []) behind ∙ sym (map-append (λ list. nothing_put) others (records ∷ [])))

-- what a run says, behind lists that were not stuck
pub follows_run : (limit : ℕ) (old new : List ℕ) (records : List (Record RData)) (count : ℕ) (ending : Ending) → ListWritten limit old records new count ending → ListFollows limit None old records new (front_of_ending count ending)
follows_run limit old new records count Whole w lists start fronts h = lists_more records new (record { count = count; is_cut = false }) h refl w
follows_run limit old new records count Cut w lists start fronts h = lists_more records new (record { count = count; is_cut = true }) h refl w
follows_run limit old new records count (Stuck e) w lists start fronts h = lists_stuck records new count e h refl w

-- what stays behind a list that is stuck
pub follows_stuck : (limit : ℕ) (old : List ℕ) (records : List (Record RData)) (e : ProtoError) → ListFollows limit (Some e) old records old (record { count = 0; is_cut = false; fault = Some e })
follows_stuck limit old records e lists start fronts h = lists_done records e h refl

-- the list of no record
pub follows_none : (limit : ℕ) (old : List ℕ) → ListFollows limit None old [] old (record { count = 0; is_cut = false; fault = None })
follows_none limit old = follows_run limit old old [] 0 Whole (list_none limit old)

-- the list of one record
pub list_one : (limit : ℕ) (old new : List ℕ) (r : Record RData) (ending : Ending) → RecordEnds limit old r new ending → ListWritten limit old (r ∷ []) new (count_of_one ending) ending
list_one limit old new r Whole h = list_put limit old [] r old 0 new (list_none limit old) h
list_one limit old new r Cut h = list_ends limit old [] r old 0 new Cut (λ e. absurd cc) (list_none limit old) h
list_one limit old new r (Stuck e) h = list_ends limit old [] r old 0 new (Stuck e) (λ e. absurd cc) (list_none limit old) h

-- what was put of it
pub one_put : (limit : ℕ) (old new : List ℕ) (r : Record RData) (ending : Ending) → RecordEnds limit old r new ending → PutsAll limit old (take (count_of_one ending) (r ∷ [])) new
one_put limit old new r Whole h = (new, h, refl)
one_put limit old new r Cut h = h.0
one_put limit old new r (Stuck e) h = h.0

-- the list of no record, whatever the lists before it
nothing_follows : (limit : ℕ) (old : List ℕ) (fault : Option ProtoError) → ListFollows limit fault old [] old (record { count = 0; is_cut = false; fault = fault })
nothing_follows limit old None = follows_none limit old
nothing_follows limit old (Some e) = follows_stuck limit old [] e

or_false : (b : Bool) → b ≡ (b || false)
or_false true = refl
or_false false = refl

pub adds_none : (limit : ℕ) (stops : Stops) (old : List ℕ) → ListAdds limit (record { bytes = old; stops = stops }) [] (record { bytes = old; stops = stops }) 0 false
adds_none limit stops old = (nothing_follows limit old stops.fault, or_false stops.is_cut, λ none. none)

-- what is remembered of a list behind one that is stuck
pub adds_stuck : (limit : ℕ) (stops : Stops) (old : List ℕ) (records : List (Record RData)) (e : ProtoError) → stops.fault ≡ Some e → ListAdds limit (record { bytes = old; stops = stops }) records (record { bytes = old; stops = stops }) 0 false
adds_stuck limit stops old records e is = (rw is (follows_stuck limit old records e), or_false stops.is_cut, λ none. none)

-- what is remembered of a run
pub adds_run : (limit : ℕ) (stops stops' : Stops) (old new : List ℕ) (records : List (Record RData)) (count : ℕ) (ending : Ending) → stops.fault ≡ None → stops'.fault ≡ fault_of ending → stops'.is_cut ≡ (stops.is_cut || is_cut_by ending)
    → ListWritten limit old records new count ending → ListAdds limit (record { bytes = old; stops = stops }) records (record { bytes = new; stops = stops' }) count (is_cut_by ending)
adds_run limit stops stops' old new records count ending none fault cut w = (rw (none, fault) (follows_run limit old new records count ending w), cut, λ unstuck. none)

-- what is remembered of the list of one record
pub adds_one : (limit : ℕ) (stops stops' : Stops) (old new : List ℕ) (r : Record RData) (ending : Ending) → stops.fault ≡ None → stops'.fault ≡ fault_of ending → stops'.is_cut ≡ (stops.is_cut || is_cut_by ending)
    → RecordEnds limit old r new ending → ListAdds limit (record { bytes = old; stops = stops }) (r ∷ []) (record { bytes = new; stops = stops' }) (count_of_one ending) (is_cut_by ending)
adds_one limit stops stops' old new r ending none fault cut h = adds_run limit stops stops' old new (r ∷ []) (count_of_one ending) ending none fault cut (list_one limit old new r ending h)

-- a record leaves the header and the limit
pub ends_room : (limit : ℕ) (old new : List ℕ) (r : Record RData) (ending : Ending) → 12 ≤ length old → length old ≤ limit → RecordEnds limit old r new ending → (12 ≤ length new) × (length new ≤ limit)
ends_room limit old new r Whole low fits p = (omega (arith, Puts-longer p), p.within)
ends_room limit old new r Cut low fits h = (omega (arith, ap length h.0), omega (arith, ap length h.0))
ends_room limit old new r (Stuck e) low fits h = (omega (arith, ap length h.0), omega (arith, ap length h.0))

pub fault_is : (fault : Option ProtoError) → is_some fault ≡ true → (e : ProtoError) × (fault ≡ Some e)
fault_is None h = absurd cc
fault_is (Some e) h = (e, refl)
