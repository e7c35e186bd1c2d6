-- What fits the limit whole is written whole.
use Rattle.std.proofs.Common.{◌≡◌, ℕ, zero, suc, ◌+◌, ◌≤◌, List, [], ◌∷◌, ◌++◌, length, map, take, drop, replicate, Bool, true, false, Option, Some, None, refl, sym, ap, ◌∙◌, subst, arith, length-append}
use Rattle.std.proofs.lemmas.List.{take_all}
use Rattle.std.proofs.lemmas.List.Sums.{sum_by-cons}
use Rattle.std.specs.Prelude.{sum_by}
use Rattle.std.specs.List.{AllByRecursion}
use Rattle.wire_messages.specs.serialize.writing.RecordSize.{full_size}
use Rattle.wire_messages.specs.serialize.writing.Reply.{Reply}
use Rattle.wire_writing.specs.serialize.writing.WholeReply.{HasForm, total_size, FitsWhole, IsWhole}
use Rattle.wire_writing.specs.serialize.writing.Writing.{PutsAll, ListWritten, ListFront, ListsWritten, Fronts, ending_of, Written, GetsStuck}
use Rattle.wire_writing.specs.declared.serialize.writing.record_encoder.Ending.TheVariants.{Stuck}
use Rattle.wire_writing.specs.serialize.writing.Writing.ListsWritten.{none_left, next_list, stuck_list}
use Rattle.wire_names.specs.declared.error.ProtoError.{ProtoError}
use Rattle.wire_messages.specs.declared.rr.rdata.RData.{RData}
use Rattle.wire_messages.specs.declared.rr.record.Record.{Record}

puts_small : (limit : ℕ) (rs : List (Record RData)) (old new : List ℕ) → PutsAll limit old rs new → length new ≤ length old + sum_by full_size rs
puts_small limit [] old new e = omega (arith, ap length e)
puts_small limit (r ∷ rs) old new (middle, one, more) = omega (arith, puts_small limit rs middle new more, ap length one.appended, length-append old one.more, one.small, sum_by-cons full_size r rs)

front_and_next : (rs : List (Record RData)) (count : ℕ) (next : Record RData) (rest : List (Record RData)) → drop count rs ≡ next ∷ rest → sum_by full_size (take count rs) + full_size next ≤ sum_by full_size rs
front_and_next [] zero next rest e = absurd cc
front_and_next [] (suc count) next rest e = absurd cc
front_and_next (r ∷ rs) zero next rest e = let same : r ≡ next = cc in omega (arith, ap full_size same, sum_by-cons full_size r rs)
front_and_next (r ∷ rs) (suc count) next rest e = omega (arith, front_and_next rs count next rest e, sum_by-cons full_size r rs, sum_by-cons full_size r (take count rs))

next_formed : (rs : List (Record RData)) (count : ℕ) (next : Record RData) (rest : List (Record RData)) → AllByRecursion HasForm rs → drop count rs ≡ next ∷ rest → HasForm next
next_formed [] zero next rest h e = absurd cc
next_formed [] (suc count) next rest h e = absurd cc
next_formed (r ∷ rs) zero next rest h e = let same : r ≡ next = cc in subst HasForm same h.0
next_formed (r ∷ rs) (suc count) next rest h e = next_formed rs count next rest h.1 e

-- a list that fits is not cut
pub record WholeList (old : List ℕ) (records : List (Record RData)) (new : List ℕ) (front : ListFront) : Type 0 where
  pub uncut : front.is_cut ≡ false
  pub count : front.count ≡ length records
  pub size : length new ≤ length old + sum_by full_size records

list_size : (limit : ℕ) (old : List ℕ) (records : List (Record RData)) (new : List ℕ) (count : ℕ) → PutsAll limit old (take count records) new → count ≡ length records → length new ≤ length old + sum_by full_size records
list_size limit old records new count p e = omega (arith, puts_small limit (take count records) old new p, ap (sum_by full_size) (take_all count records (omega (arith, e))))

whole_list : (limit : ℕ) (old : List ℕ) (records : List (Record RData)) (new : List ℕ) (front : ListFront) (is_cut : Bool) → front.is_cut ≡ is_cut → AllByRecursion HasForm records → length old + sum_by full_size records ≤ limit → ListWritten limit old records new front.count (ending_of is_cut) → WholeList old records new front
whole_list limit old records new front false e formed fits w = record { uncut = e; count = w.ends; size = list_size limit old records new front.count w.puts w.ends }
whole_list limit old records new front true e formed fits w =
    let k = w.ends in
    absurd (omega (arith, k.large, fits, puts_small limit (take front.count records) old new w.puts, front_and_next records front.count k.next k.rest k.is))

pub formless_none : {limit : ℕ} {old : List ℕ} {records : List (Record RData)} {new : List ℕ} {count : ℕ} {e : ProtoError} → AllByRecursion HasForm records → ListWritten limit old records new count (Stuck e) → ⊥
formless_none {records = records} {count = count} {e = e} formed w =
    let k = w.ends in
    let none : None ≡ Some e = sym (next_formed records count k.next k.rest formed k.is) ∙ k.formless in
    cc

-- lists that fit are written whole, one behind the other
pub record WholeRun (lists : List (List (Record RData))) (fronts : List ListFront) (fault : Option ProtoError) : Type 0 where
  pub uncut : AllByRecursion (λ (front : ListFront). front.is_cut ≡ false) fronts
  pub counts : map (λ (front : ListFront). front.count) fronts ≡ map length lists
  pub unstuck : fault ≡ None

pub whole_lists : {limit : ℕ} {lists : List (List (Record RData))} {old new : List ℕ} {fronts : List ListFront} {fault : Option ProtoError} → ListsWritten limit lists old new fronts fault → AllByRecursion (AllByRecursion HasForm) lists → length old + total_size lists ≤ limit → WholeRun lists fronts fault
whole_lists none_left formed fits = record { uncut = tt; counts = refl; unstuck = refl }
whole_lists {limit} (next_list {records = records} {lists = others} {old = old} {middle = middle} {front = front} {fronts = fronts} one more) formed fits =
    let both = sum_by-cons (sum_by full_size) records others in
    let first = whole_list limit old records middle front front.is_cut refl formed.0 (omega (arith, both, fits)) one in
    let rest = whole_lists more formed.1 (omega (arith, first.size, both, fits)) in
    record { uncut = (first.uncut, rest.uncut); counts = ap (λ n. n ∷ map (λ (f : ListFront). f.count) fronts) first.count ∙ ap (λ ns. length records ∷ ns) rest.counts; unstuck = rest.unstuck }
whole_lists (stuck_list one uncut behind) formed fits = absurd (formless_none formed.0 one)

start_size : (question : List ℕ) → length (replicate 12 0 ++ question) ≡ 12 + length question
start_size question = length-append (replicate 12 0) question

pub written_whole : (limit : ℕ) (reply : Reply) (bytes : List ℕ) (fronts : Fronts) → FitsWhole limit reply → Written limit reply bytes fronts → IsWhole reply fronts
written_whole limit reply bytes fronts h w =
    let run = whole_lists w.lists h.formed (omega (arith, start_size reply.question, h.fits)) in
    record {
      uncut = rw (run.uncut.0, run.uncut.1.0, run.uncut.1.1.0, run.uncut.1.1.1.0, run.uncut.1.1.1.1.0) refl;
      counts = run.counts;
    }

pub whole_unstuck : (limit : ℕ) (reply : Reply) (e : ProtoError) → FitsWhole limit reply → GetsStuck limit reply e → ⊥
whole_unstuck limit reply e h s =
    let run = whole_lists s.lists h.formed (omega (arith, start_size reply.question, h.fits)) in
    let none : Some e ≡ None = run.unstuck in
    cc
