-- A TSIG record that is put behind a whole message, and counted, stands last in it; and without it the message is what
-- it was.
use Rattle.std.proofs.Common.{◌≡◌, ℕ, zero, suc, ◌+◌, ◌-◌, ◌^◌, ◌<◌, ◌≤◌, List, [], ◌∷◌, ◌++◌, length, length-append, get_or, take, drop, refl, sym, ap, subst, ◌∙◌, arith, append_assoc, lit≤}
use Rattle.std.specs.Int.{w16, from_be_bytes, to_be_bytes}
use Rattle.std.proofs.Math.Seq.{take-append_seam}
use Rattle.std.proofs.lemmas.List.{get_or-drop, get_or-take, get_or_append_left, get_or-append-add, length-take, length-drop}
use Rattle.std.proofs.lemmas.Nat.{be_bytes_2, from_be_bytes-to_be_bytes_2}
use Rattle.wire_names.specs.rr.domain.DomainName.{AreLabels}
use Rattle.wire_names.specs.serialize.layout.Bytes.{AreBytes, BytesAt, KeepsFrom}
use Rattle.wire_messages.specs.serialize.layout.HeaderLayout.{HeaderAt}
use Rattle.wire_messages.specs.serialize.layout.MessageLayout.{ItemsAt, QuestionRead, tsig_record}
use Rattle.wire_messages.specs.serialize.layout.RecordLayout.{IsFormedRecord}
use Rattle.wire_messages.specs.serialize.writing.FullForm.{record_octets}
use Rattle.wire_messages.specs.serialize.writing.RecordSize.{data_len, full_size}
use Rattle.wire_messages.specs.declared.op.header.Header.{Header}
use Rattle.wire_messages.specs.declared.op.query.Query.{Query}
use Rattle.wire_messages.specs.declared.rr.rdata.RData.{RData}
use Rattle.wire_messages.specs.declared.rr.record.Record.{Record}
use Rattle.wire_messages.specs.declared.rr.tsig.TSIG.{TSIG}
use Rattle.wire_messages.proofs.lemmas.serialize.layout.ByteTexts.{BytesAt-both, BytesAt-left, BytesAt-right, stands_take}
use Rattle.wire_messages.proofs.lemmas.serialize.layout.FormKeeps.{FormAt-keeps, QuestionAt-keeps}
use Rattle.wire_reading.proofs.lemmas.serialize.reading.RecordsAgree.{formed_record}
use Rattle.wire_writing.proofs.lemmas.serialize.writing.FullForms.{record_octets-len, record_stands}
use Rattle.tsig.specs.Digest.{unsigned_message}
use Rattle.tsig.specs.Signing.{additionals_of, appended, id_of}
use Rattle.tsig.specs.Standing.{OtherAt, SignedAt}
use Rattle.tsig.specs.Verifying.{AskedAt, IsWholeMessage, OwnAt}

abbrev b16 : ℕ → List ℕ
b16 n = to_be_bytes w16 n

-- ---- the message again

-- what stands between two places of what was put behind others
seam : (rest more : List ℕ) (n : ℕ) → n ≡ length rest → take n (rest ++ more) ≡ rest
seam rest more n e = ap (λ (k : ℕ). take k (rest ++ more)) e ∙ take-append_seam rest more

-- of a message of twelve bytes and others
restored : (b0 b1 b2 b3 b4 b5 b6 b7 b8 b9 b10 b11 : ℕ) (rest more : List ℕ) (oid n len : ℕ) → len ≡ 12 + length rest → b16 oid ≡ b0 ∷ b1 ∷ [] → b16 n ≡ b10 ∷ b11 ∷ []
    → unsigned_message ((b0 ∷ b1 ∷ b2 ∷ b3 ∷ b4 ∷ b5 ∷ b6 ∷ b7 ∷ b8 ∷ b9 ∷ []) ++ b16 (n + 1) ++ rest ++ more) oid (n + 1) len
    ≡ b0 ∷ b1 ∷ b2 ∷ b3 ∷ b4 ∷ b5 ∷ b6 ∷ b7 ∷ b8 ∷ b9 ∷ b10 ∷ b11 ∷ rest
restored b0 b1 b2 b3 b4 b5 b6 b7 b8 b9 b10 b11 rest more oid n len size id count =
    let less : n + 1 - 1 ≡ n = omega arith in
    let behind : take (len - 12) (rest ++ more) ≡ rest = seam rest more (len - 12) (omega arith) in
    let a : b16 (n + 1 - 1) ≡ b10 ∷ b11 ∷ [] = ap b16 less ∙ count in
    (λ i. id i ++ (b2 ∷ b3 ∷ b4 ∷ b5 ∷ b6 ∷ b7 ∷ b8 ∷ b9 ∷ []) ++ a i ++ behind i)

-- any message of twelve bytes at least
again : (message more : List ℕ) → AreBytes message → 12 ≤ length message
    → unsigned_message (take 10 message ++ b16 (additionals_of message + 1) ++ drop 12 message ++ more) (id_of message) (additionals_of message + 1) (length message) ≡ message
again (b0 ∷ b1 ∷ b2 ∷ b3 ∷ b4 ∷ b5 ∷ b6 ∷ b7 ∷ b8 ∷ b9 ∷ b10 ∷ b11 ∷ rest) more a h =
    let m : List ℕ = b0 ∷ b1 ∷ b2 ∷ b3 ∷ b4 ∷ b5 ∷ b6 ∷ b7 ∷ b8 ∷ b9 ∷ b10 ∷ b11 ∷ rest in
    let front : List ℕ = b0 ∷ b1 ∷ [] in
    let count : List ℕ = b10 ∷ b11 ∷ [] in
    let id : b16 (from_be_bytes w16 front) ≡ front = be_bytes_2 front (from_be_bytes w16 front) refl (two b0 b1 (a 0) (a 1)) refl in
    let is : b16 (from_be_bytes w16 count) ≡ count = be_bytes_2 count (from_be_bytes w16 count) refl (two b10 b11 (a 10) (a 11)) refl in
    restored b0 b1 b2 b3 b4 b5 b6 b7 b8 b9 b10 b11 rest more (from_be_bytes w16 front) (from_be_bytes w16 count) (length m) (omega arith) id is
  where
    two : (x y : ℕ) → x < 256 → y < 256 → (i : ℕ) → get_or (x ∷ y ∷ []) i 0 < 256
    two x y p q zero = p
    two x y p q (suc zero) = q
    two x y p q (suc (suc i)) = omega arith
again short more a h = absurd (omega arith)

-- ---- what stands in the bytes

-- what stood behind the header stands there still
module _ (message more : List ℕ) (long : 12 ≤ length message) where
  abbrev count : List ℕ
  count = b16 (additionals_of message + 1)

  abbrev new : List ℕ
  new = take 10 message ++ count ++ drop 12 message ++ more

  ten : length (take 10 message) ≡ 10
  ten = omega (arith, length-take 10 message)

  two : length count ≡ 2
  two = refl

  regrouped : (take 10 message ++ count) ++ (drop 12 message ++ more) ≡ new
  regrouped = sym (append_assoc (take 10 message ++ count) (drop 12 message) more)

  header_len : length (take 10 message ++ count) ≡ 12
  header_len = let a = ten in let b = two in omega (arith, length-append (take 10 message) count)

  all_len : length new ≡ length message + length more
  all_len =
      let h = header_len in
      omega (arith, ap length (sym regrouped), length-append (take 10 message ++ count) (drop 12 message ++ more), length-append (drop 12 message) more, length-drop 12 message)

  pub kept : KeepsFrom 12 message new
  kept = record {
    longer = let l = all_len in omega arith;
    same = λ (k : ℕ) (low : 12 ≤ k) (within : k < length message).
        let h = header_len in
        let is : k ≡ length (take 10 message ++ count) + (k - 12) = omega arith in
        let first : get_or new k 0 ≡ get_or ((take 10 message ++ count) ++ (drop 12 message ++ more)) (length (take 10 message ++ count) + (k - 12)) 0 =
        ap (λ (xs : List ℕ). get_or xs k 0) (sym regrouped) ∙ ap (λ (i : ℕ). get_or ((take 10 message ++ count) ++ (drop 12 message ++ more)) i 0) is in
        let inside : k - 12 < length (drop 12 message) = omega (arith, length-drop 12 message) in
        first ∙ get_or-append-add (take 10 message ++ count) (drop 12 message ++ more) (k - 12) 0
        ∙ get_or_append_left (drop 12 message) more 0 (k - 12) inside ∙ get_or-drop 12 message (k - 12) 0
        ∙ ap (λ (i : ℕ). get_or message i 0) (omega arith);
  }

  -- a text in the first ten bytes stands there still
  pub front_kept : (text : List ℕ) → length text ≤ 10 → BytesAt message 0 text → BytesAt new 0 text
  front_kept text short s = record {
    fits = let l = all_len in omega arith;
    same = λ (k : ℕ) (lt : k < length text).
        let t = ten in
        let h = header_len in
        let is : 0 + k ≡ k = omega arith in
        ap (λ (i : ℕ). get_or new i 0) is
        ∙ ap (λ (xs : List ℕ). get_or xs k 0) (sym regrouped) ∙ get_or_append_left (take 10 message ++ count) (drop 12 message ++ more) 0 k (omega arith)
        ∙ get_or_append_left (take 10 message) count 0 k (omega arith) ∙ get_or-take 10 message k 0 (omega arith)
        ∙ ap (λ (i : ℕ). get_or message i 0) (sym is) ∙ s.same k lt;
  }

  -- the new count stands behind them
  pub count_stands : BytesAt new 10 count
  count_stands = record {
    fits = let l = all_len in let t = two in omega arith;
    same = λ (k : ℕ) (lt : k < length count).
        let t = ten in
        let u = two in
        let h = header_len in
        let is : 10 + k ≡ length (take 10 message) + k = omega arith in
        ap (λ (xs : List ℕ). get_or xs (10 + k) 0) (sym regrouped) ∙ get_or_append_left (take 10 message ++ count) (drop 12 message ++ more) 0 (10 + k) (omega arith)
        ∙ ap (λ (i : ℕ). get_or (take 10 message ++ count) i 0) is ∙ get_or-append-add (take 10 message) count k 0;
  }

  -- what was put stands behind the message
  pub more_stands : BytesAt new (length message) more
  more_stands = record {
    fits = let l = all_len in omega arith;
    same = λ (k : ℕ) (lt : k < length more).
        let h = header_len in
        let body = length-drop 12 message in
        let is : length message + k ≡ length (take 10 message ++ count) + (length (drop 12 message) + k) = omega arith in
        ap (λ (xs : List ℕ). get_or xs (length message + k) 0) (sym regrouped)
        ∙ ap (λ (i : ℕ). get_or ((take 10 message ++ count) ++ (drop 12 message ++ more)) i 0) is
        ∙ get_or-append-add (take 10 message ++ count) (drop 12 message ++ more) (length (drop 12 message) + k) 0
        ∙ get_or-append-add (drop 12 message) more k 0;
  }

  pub new_len : length new ≡ length message + length more
  new_len = all_len

-- ---- the header

-- the number of additional records that the header tells
counted : (message : List ℕ) (h : Header) → HeaderAt message h → additionals_of message ≡ h.counts.additionals
counted message h at =
    let counts = h.counts in
    let front : List ℕ = b16 at.id ++ (at.one ∷ at.two ∷ []) ++ b16 counts.queries ++ b16 counts.answers ++ b16 counts.authorities in
    let last = BytesAt-right message 0 front (b16 counts.additionals) at.stands in
    ap (from_be_bytes w16) (stands_take message 10 (b16 counts.additionals) last) ∙ from_be_bytes-to_be_bytes_2 counts.additionals at.counts.additionals

abbrev one_more : Header → Header
one_more h = record h { counts = record h.counts { additionals = h.counts.additionals + 1 } }

header_appended : (message more : List ℕ) (h : Header) (long : 12 ≤ length message) → h.counts.additionals < 65535 → HeaderAt message h
    → HeaderAt (take 10 message ++ b16 (additionals_of message + 1) ++ drop 12 message ++ more) (one_more h)
header_appended message more h long small at =
    let counts = h.counts in
    let bytes : List ℕ = take 10 message ++ b16 (additionals_of message + 1) ++ drop 12 message ++ more in
    let front : List ℕ = b16 at.id ++ (at.one ∷ at.two ∷ []) ++ b16 counts.queries ++ b16 counts.answers ++ b16 counts.authorities in
    let ten : length front ≤ 10 = lit≤ tt in
    let first : BytesAt bytes 0 front = front_kept message more long front ten (BytesAt-left message 0 front (b16 counts.additionals) at.stands) in
    let last : BytesAt bytes 10 (b16 (counts.additionals + 1)) = subst (λ (n : ℕ). BytesAt bytes 10 (b16 (n + 1))) (counted message h at) (count_stands message more long) in
    let c = at.counts in
    record {
      id = at.id;
      one = at.one;
      two = at.two;
      stands = BytesAt-both bytes 0 front (b16 (counts.additionals + 1)) first last;
      id_small = at.id_small;
      counts = record { queries = c.queries; answers = c.answers; authorities = c.authorities; additionals = omega arith };
      metadata = at.metadata;
    }

-- ---- the whole

-- what stands in one way one behind the other stands in another way
map_items : {A : Type 0} (at by : ℕ → A → ℕ → Type 0) → ((place : ℕ) (x : A) (next : ℕ) → at place x next → by place x next) → (place : ℕ) (xs : List A) (next : ℕ) → ItemsAt at place xs next → ItemsAt by place xs next
map_items at by f place [] next e = e
map_items at by f place (x ∷ xs) next (middle, one, more) = (middle, f place x middle one, map_items at by f middle xs next more)

-- A TSIG record that reads back where it stands in full.
pub record IsWritable (r : Record TSIG) : Type 0 where
  pub labels : AreLabels r.name.labels
  pub algorithm : AreLabels r.rdata.algorithm.labels
  pub formed : IsFormedRecord (tsig_record r)
  pub small : data_len (tsig_record r).rdata < 2 ^ 16

-- A message with a record behind it ends in that record.
pub appended_signed : (message : List ℕ) (r : Record TSIG) → IsWholeMessage message → 12 ≤ length message → IsWritable r
    → SignedAt (appended message r) (additionals_of message + 1) (length message) r (length (appended message r))
appended_signed message r w long writable =
    let more : List ℕ = record_octets (tsig_record r) in
    let bytes : List ℕ = appended message r in
    let is = counted message w.header w.stands in
    let counts = w.header.counts in
    let keeps = kept message more long in
    let number = w.number in
    let end : length bytes ≡ length message + full_size (tsig_record r) = new_len message more long ∙ ap (λ (n : ℕ). length message + n) (record_octets-len (tsig_record r)) in
    record {
      counts = record counts { additionals = counts.additionals + 1 };
      records_at = w.records_at;
      records = w.records;
      begin = record {
        header = one_more w.header;
        stands = header_appended message more w.header long w.count w.stands;
        counted = refl;
        queries = w.queries;
        questions = map_items (AskedAt message) (QuestionRead bytes)
            (λ (place : ℕ) (q : Query) (next : ℕ) (at : AskedAt message place q next). record { stands = QuestionAt-keeps keeps (omega arith) at.stands; formed = at.formed })
            12 w.queries w.records_at w.questions;
        query_count = w.query_count;
      };
      last = omega arith;
      some = omega arith;
      stand = map_items (OwnAt message) (OtherAt bytes)
          (λ (place : ℕ) (q : Record RData) (next : ℕ) (at : OwnAt message place q next).
          record { stands = formed_record 0 bytes place next q at.formed (FormAt-keeps keeps (omega arith) at.form); other = at.other })
          w.records_at w.records (length message) w.stand;
      number = omega arith;
      stands = formed_record 0 bytes (length message) (length bytes) (tsig_record r) writable.formed
          (record_stands bytes 0 (length message) (length bytes) (tsig_record r) writable.labels writable.algorithm writable.small (omega arith) (more_stands message more long) end);
    }

-- And without that record it is the message.
pub appended_again : (message : List ℕ) (r : Record TSIG) → AreBytes message → 12 ≤ length message
    → unsigned_message (appended message r) (id_of message) (additionals_of message + 1) (length message) ≡ message
appended_again message r a long = again message (record_octets (tsig_record r)) a long
