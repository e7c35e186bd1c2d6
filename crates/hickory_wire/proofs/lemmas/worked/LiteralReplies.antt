-- Records that are written out, put behind any bytes.
use Rattle.std.proofs.Common.{◌≡◌, ℕ, zero, suc, ◌+◌, ◌*◌, ◌<◌, ◌≤◌, true, leb, List, [], ◌∷◌, ◌++◌, length, get_or, take, drop, replicate, codes, None, refl, sym, ap, ◌∙◌, arith, append_assoc, length-append, subst}
use Rattle.std.proofs.lemmas.List.{get_or-append-add, append-nil}
use Rattle.wire_names.specs.serialize.layout.Bytes.{BytesAt}
use Rattle.wire_names.specs.rr.domain.DomainName.{IsLabel}
use Rattle.wire_messages.specs.serialize.layout.NameLayout.{LabelsAt, NameAt}
use Rattle.wire_messages.specs.serialize.layout.NameLayout.LabelsAt.{at_end, at_label, at_pointer}
use Rattle.hickory_wire.specs.worked.Worked.{root, record_of, address, a_record, www_name}
use Rattle.hickory_wire.specs.worked.WorkedReplies.{www_answer, www_answer_bytes, answer_by_pointer, repeated, all_of, fronts_with, www_reply, www_reply_in_full}
use Rattle.wire_writing.specs.serialize.writing.Writing.{Puts, PutsAll, PutsRepeating, ListWritten, ListsWritten, Written, header_and_questions}
use Rattle.wire_writing.specs.serialize.writing.OwnerNames.{OwnerPlace, RepeatsOwner}
use Rattle.wire_writing.specs.declared.serialize.writing.record_encoder.Ending.TheVariants.{Whole}
use Rattle.wire_writing.specs.serialize.writing.Writing.ListsWritten.{none_left, next_list}
use Rattle.wire_messages.specs.declared.rr.rdata.RData.{RData}
use Rattle.wire_messages.specs.declared.rr.record.Record.{Record}
use Rattle.wire_messages.proofs.lemmas.serialize.layout.Stable.{NameAt-keeps, KeepsFrom-append}
use Rattle.hickory_wire.proofs.lemmas.worked.Literals.{stands, is_label}

-- of a list with no records nothing is put
pub no_records : (limit : ℕ) (old : List ℕ) → ListWritten limit old [] old 0 Whole
no_records limit old = record { counted = omega arith; puts = refl; ends = refl }

-- three and four lists with no records
pub three_empty : (limit : ℕ) (old : List ℕ) → ListsWritten limit ([] ∷ [] ∷ [] ∷ []) old old (all_of 0 ∷ all_of 0 ∷ all_of 0 ∷ []) None
three_empty limit old = next_list (no_records limit old) (next_list (no_records limit old) (next_list (no_records limit old) none_left))

pub four_empty : (limit : ℕ) (old : List ℕ) → ListsWritten limit ([] ∷ [] ∷ [] ∷ [] ∷ []) old old (all_of 0 ∷ all_of 0 ∷ all_of 0 ∷ all_of 0 ∷ []) None
four_empty limit old = next_list (no_records limit old) (three_empty limit old)

module _ (old more : List ℕ) where
  -- a text that stands in what was put
  part : (place k : ℕ) (text : List ℕ) → place ≡ length old + k → leb (k + length text) (length more) ≡ true → take (length text) (drop k more) ≡ text → BytesAt (old ++ more) place text
  part place k text is fits cut =
      let here : BytesAt more k text = stands more k text fits cut in
      record {
        fits = omega (arith, length-append old more, here.fits);
        same = λ i lt. ap (λ j. get_or (old ++ more) j 0) (omega arith) ∙ get_or-append-add old more (k + i) 0 ∙ here.same i lt;
      }

  -- the end byte of a name in what was put
  end_in : {start next : ℕ} (place k : ℕ) → 12 ≤ length old → place ≡ length old + k → leb (k + 1) (length more) ≡ true → take 1 (drop k more) ≡ 0 ∷ [] → next ≡ place + 1 → LabelsAt 12 (old ++ more) start place [] next
  end_in place k outside is fits cut after = at_end (omega arith) (part place k (0 ∷ []) is fits cut) after

  -- a label in what was put
  label_in : {start next : ℕ} {labels : List (List ℕ)} (place behind k : ℕ) (text : List ℕ) → 12 ≤ length old → place ≡ length old + k → IsLabel text
      → leb (k + length (length text ∷ text)) (length more) ≡ true → take (length (length text ∷ text)) (drop k more) ≡ length text ∷ text → behind ≡ place + 1 + length text
      → LabelsAt 12 (old ++ more) start behind labels next → LabelsAt 12 (old ++ more) start place (text ∷ labels) next
  label_in place behind k text outside is small fits cut after others = at_label (omega arith) small (part place k (length text ∷ text) is fits cut) after others

-- www.example.com. in full
www_in : (old : List ℕ) → 12 ≤ length old → NameAt 12 (old ++ www_answer_bytes) (length old) www_name (length old + 17)
www_in old outside = record {
  labels = label_in old www_answer_bytes (length old) (length old + 4) 0 (codes "www") outside (omega arith) (is_label (codes "www") refl) refl refl (omega arith)
      (label_in old www_answer_bytes (length old + 4) (length old + 12) 4 (codes "example") outside refl (is_label (codes "example") refl) refl refl (omega arith)
      (label_in old www_answer_bytes (length old + 12) (length old + 16) 12 (codes "com") outside refl (is_label (codes "com") refl) refl refl (omega arith)
      (end_in old www_answer_bytes (length old + 16) 16 outside refl refl refl (omega arith))));
  short = omega arith;
}

-- an answer with its name in full
pub put_answer : (limit : ℕ) (old : List ℕ) → 12 ≤ length old → length old + 31 ≤ limit → Puts limit old www_answer (old ++ www_answer_bytes)
put_answer limit old outside room = record {
  more = www_answer_bytes;
  formed = refl;
  in_range = record { class = omega arith; ttl = omega arith; rdata = record { four = refl } };
  appended = refl;
  in_full = tt;
  small = omega arith;
  within = omega (arith, length-append old www_answer_bytes);
  form = record {
    middle = length old + 17;
    len = 4;
    owner = www_in old outside;
    fixed = part old www_answer_bytes (length old + 17) 17 _ refl refl refl;
    small = omega arith;
    rdata = record { above = omega arith; stands = part old www_answer_bytes (length old + 17 + 10) 27 _ (omega arith) refl refl; after = omega (arith, length-append old www_answer_bytes) };
    counted = omega (arith, length-append old www_answer_bytes);
  };
}

-- an address at the root
pub put_address : (limit : ℕ) (old : List ℕ) → 12 ≤ length old → length old + 15 ≤ limit → Puts limit old (record_of root 1 0 address) (old ++ a_record)
put_address limit old outside room = record {
  more = a_record;
  formed = refl;
  in_range = record { class = omega arith; ttl = omega arith; rdata = record { four = refl } };
  appended = refl;
  in_full = tt;
  small = omega arith;
  within = omega (arith, length-append old a_record);
  form = record {
    middle = length old + 1;
    len = 4;
    owner = record { labels = end_in old a_record (length old) 0 outside (omega arith) refl refl refl; short = omega arith };
    fixed = part old a_record (length old + 1) 1 _ refl refl refl;
    small = omega arith;
    rdata = record { above = omega arith; stands = part old a_record (length old + 1 + 10) 11 _ (omega arith) refl refl; after = omega (arith, length-append old a_record) };
    counted = omega (arith, length-append old a_record);
  };
}

-- the header, and the answer in full behind it
abbrev pub answered_once : List ℕ
answered_once = replicate 12 0 ++ www_answer_bytes

-- the answer again behind these and others, its name a pointer to the first answer's
put_by_pointer : (limit : ℕ) (others : List ℕ) → length (answered_once ++ others) + 31 ≤ limit + 15 → Puts limit (answered_once ++ others) www_answer ((answered_once ++ others) ++ answer_by_pointer)
put_by_pointer limit others room =
    let old = answered_once ++ others in
    let size : length (old ++ answer_by_pointer) ≡ length old + 16 = length-append old answer_by_pointer in
    let low : 12 ≤ length old = omega (arith, length-append answered_once others) in
    let far : 12 < length old = omega (arith, length-append answered_once others) in
    let first : NameAt 12 answered_once 12 www_name 29 = www_in (replicate 12 0) (omega arith) in
    let kept : NameAt 12 (old ++ answer_by_pointer) 12 www_name 29 = NameAt-keeps (KeepsFrom-append 12 old answer_by_pointer) (omega arith) (NameAt-keeps (KeepsFrom-append 12 answered_once others) (omega arith) first) in
    record {
      more = answer_by_pointer;
      formed = refl;
      in_range = record { class = omega arith; ttl = omega arith; rdata = record { four = refl } };
      appended = refl;
      in_full = tt;
      small = omega arith;
      within = omega (arith, size);
      form = record {
        middle = length old + 2;
        len = 4;
        owner = record { labels = at_pointer 0 12 12 29 low (part old answer_by_pointer (length old) 0 (0xc0 ∷ 0x0c ∷ []) (omega arith) refl refl) refl far refl kept.labels; short = omega arith };
        fixed = part old answer_by_pointer (length old + 2) 2 _ refl refl refl;
        small = omega arith;
        rdata = record { above = omega arith; stands = part old answer_by_pointer (length old + 2 + 10) 12 _ (omega arith) refl refl; after = omega (arith, size) };
        counted = omega (arith, size);
      };
    }

-- so many answers again, one behind the other
pub put_again : (limit count : ℕ) (before : List OwnerPlace) (others new : List ℕ) → length (answered_once ++ others) + 16 * count ≤ limit → new ≡ (answered_once ++ others) ++ repeated count answer_by_pointer → PutsRepeating limit before (answered_once ++ others) (replicate count www_answer) new
put_again limit zero before others new room is = is ∙ append-nil (answered_once ++ others)
put_again limit (suc count) before others new room is =
    let old = answered_once ++ others in
    let middle = old ++ answer_by_pointer in
    let size : length middle ≡ length old + 16 = length-append old answer_by_pointer in
    let moved : answered_once ++ (others ++ answer_by_pointer) ≡ middle = sym (append_assoc answered_once others answer_by_pointer) in
    let here : length old ≡ length old + 0 = omega arith in
    let pointer : get_or middle (length old) 0 ≡ 0xc0 = ap (λ i. get_or middle i 0) here ∙ get_or-append-add old answer_by_pointer 0 0 in
    let repeats : RepeatsOwner before middle (length old) www_name.labels = λ earlier has low some. omega (arith, pointer) in
    let owner : OwnerPlace = record { place = length old; labels = www_name.labels } in
    let rest = put_again limit count (before ++ owner ∷ []) (others ++ answer_by_pointer) new (omega (arith, ap length moved, size)) (is ∙ sym (append_assoc old answer_by_pointer (repeated count answer_by_pointer)) ∙ ap (λ b. b ++ repeated count answer_by_pointer) (sym moved)) in
    (middle, put_by_pointer limit others (omega arith), repeats, subst (λ b. PutsRepeating limit (before ++ owner ∷ []) b (replicate count www_answer) new) moved rest)

-- records that are put, their owner names repeated or not
pub all_put : (limit : ℕ) (before : List OwnerPlace) (rs : List (Record RData)) (old new : List ℕ) → PutsRepeating limit before old rs new → PutsAll limit old rs new
all_put limit before [] old new is = is
all_put limit before (r ∷ rs) old new (middle, one, repeats, rest) = (middle, one, all_put limit (before ++ record { place = length old; labels = r.name.labels } ∷ []) rs middle new rest)

-- no owner name stood before the first
pub none_before : (bytes : List ℕ) (place : ℕ) (labels : List (List ℕ)) → RepeatsOwner [] bytes place labels
none_before bytes place labels earlier has low some = absurd (omega (arith, has.1))

-- one record of a section
pub one_owner : {limit : ℕ} {old new : List ℕ} {r : Record RData} → Puts limit old r new → PutsRepeating limit [] old (r ∷ []) new
one_owner {limit} {old} {new} {r} p = (new, p, none_before new (length old) r.name.labels, refl)

-- the bytes of a message with zeros in the place of its header
abbrev pub body_of : List ℕ → List ℕ
body_of bytes = replicate 12 0 ++ drop 12 bytes

-- the reply to www.example.com. in full
pub www_written : Written 512 www_reply www_reply_in_full (fronts_with (all_of 1) (all_of 0) (all_of 0))
www_written = record {
  body = body_of www_reply_in_full;
  limited = omega arith;
  in_range = record { metadata = record { id = omega arith; op_code = omega arith; response_code = omega arith }; edns = tt };
  fits = omega arith;
  lists = next_list (record { counted = omega arith; puts = (body_of www_reply_in_full, put_answer 512 (header_and_questions www_reply) (omega arith) (omega arith), refl); ends = refl }) (four_empty 512 (body_of www_reply_in_full));
  owners = record { sections = body_of www_reply_in_full; repeating = one_owner (put_answer 512 (header_and_questions www_reply) (omega arith) (omega arith)); last = refl };
  is = refl;
}
