-- Replies that fit the limit whole.
use Rattle.std.specs.Prelude.{◌≡◌, ℕ, ◌+◌, ◌≤◌, List, length, map, sum_by, false, None}
use Rattle.std.specs.List.{AllByRecursion}
use Rattle.wire_messages.specs.serialize.writing.RecordSize.{full_size, unwritable_reason}
use Rattle.wire_messages.specs.serialize.writing.Reply.{Reply, reply_lists}
use Rattle.wire_writing.specs.serialize.writing.Writing.{Fronts, ListFront, fronts_list, is_any_cut}
use Rattle.wire_messages.specs.declared.rr.rdata.RData.{RData}
use Rattle.wire_messages.specs.declared.rr.record.Record.{Record}

-- the record has a form in bytes
abbrev pub HasForm : Record RData → Type 0
HasForm r = unwritable_reason r.rdata ≡ None

-- how many bytes lists of records take in full
abbrev pub total_size : List (List (Record RData)) → ℕ
total_size lists = sum_by (sum_by full_size) lists

-- Header, questions and all records in full fit the limit, and each record has a form.
pub record FitsWhole (limit : ℕ) (reply : Reply) : Type 0 where
  pub formed : AllByRecursion (AllByRecursion HasForm) (reply_lists reply)
  pub fits : 12 + length reply.question + total_size (reply_lists reply) ≤ limit

-- Nothing of the reply was left out.
pub record IsWhole (reply : Reply) (fronts : Fronts) : Type 0 where
  pub uncut : is_any_cut fronts ≡ false
  pub counts : map (λ (front : ListFront). front.count) (fronts_list fronts) ≡ map length (reply_lists reply)
