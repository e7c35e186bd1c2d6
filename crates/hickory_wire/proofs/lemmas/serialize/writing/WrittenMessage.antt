-- A reply that was written reads back as its header, its questions and what was written of its lists.
use Rattle.std.proofs.Common.{◌≡◌, ℕ, ◌+◌, ◌-◌, ◌%◌, ◌≤◌, List, [], ◌∷◌, ◌++◌, length, map, take, drop, replicate, get_or, None, refl, sym, ap, ◌∙◌, subst, arith, length-append, zero-add}
use Rattle.std.specs.Prelude.{option_map, option_to_list}
use Rattle.std.proofs.lemmas.List.{length-take, length-drop, length-map, get_or-append_right, get_or_append_left, get_or-drop}
use Rattle.wire_names.specs.serialize.layout.Bytes.{BytesAt, KeepsFrom, AreBytes}
use Rattle.hickory_wire.specs.serialize.writing.Decoding.{without_proof, front_of_option, IsDecodable, decoded_message}
use Rattle.wire_messages.specs.serialize.layout.HeaderLayout.{header_octets}
use Rattle.wire_messages.specs.serialize.layout.MessageLayout.{tsig_record}
use Rattle.wire_reading.specs.serialize.layout.WholeMessage.{MessageAt}
use Rattle.wire_reading.specs.serialize.reading.MessageReading.{Reads}
use Rattle.wire_messages.specs.serialize.layout.RecordLayout.{RecordAt}
use Rattle.wire_messages.specs.serialize.writing.Reply.{Reply, opt_record}
use Rattle.wire_writing.specs.serialize.writing.Writing.{PutsAll, ListWritten, ListFront, ListsWritten, Fronts, ending_of, Written, header_and_questions, written_header}
use Rattle.wire_writing.specs.declared.serialize.writing.record_encoder.Ending.{Ending}
use Rattle.wire_writing.specs.serialize.writing.Writing.ListsWritten.{none_left, next_list}
use Rattle.wire_messages.specs.declared.op.query.Query.{Query}
use Rattle.wire_messages.specs.declared.rr.rdata.RData.{RData}
use Rattle.wire_messages.specs.declared.rr.record.Record.{Record}
use Rattle.wire_messages.proofs.lemmas.serialize.layout.ByteTexts.{here}
use Rattle.wire_reading.proofs.lemmas.serialize.reading.HeaderLaws.{header_stands}
use Rattle.wire_messages.proofs.lemmas.serialize.layout.Stable.{KeepsFrom-trans}
use Rattle.wire_reading.proofs.lemmas.serialize.reading.WholeMessage.{message_here}
use Rattle.hickory_wire.proofs.lemmas.serialize.writing.WrittenAdditionals.{opt_written, tsig_written, section_made}
use Rattle.hickory_wire.proofs.lemmas.serialize.writing.WrittenItems.{PutsAll-keeps, PutsAll-longer, PutsAll-within, put_in_range, put_stand, readable_stand, readable_plain, readable_front, readable_both, items_both, questions_stand, questions_few}

-- what a list leaves, of which so many were put
record Part (limit : ℕ) (old : List ℕ) (records : List (Record RData)) (new : List ℕ) (count : ℕ) : Type 0 where
  counted : count ≤ length records
  puts : PutsAll limit old (take count records) new
  keeps : KeepsFrom 12 old new
  longer : length old + count ≤ length new
  within : length old ≤ limit → length new ≤ limit

part : (limit : ℕ) (old : List ℕ) (records : List (Record RData)) (new : List ℕ) (count : ℕ) (ending : Ending) → ListWritten limit old records new count ending → Part limit old records new count
part limit old records new count ending w =
    let front = take count records in
    record {
      counted = w.counted;
      puts = w.puts;
      keeps = PutsAll-keeps limit front old new w.puts;
      longer = omega (arith, PutsAll-longer limit front old new w.puts, length-take count records, w.counted);
      within = λ h. PutsAll-within limit front old new h w.puts;
    }

first_part : {limit : ℕ} {records : List (Record RData)} {lists : List (List (Record RData))} {old new : List ℕ} {front : ListFront} {fronts : List ListFront} → ListsWritten limit (records ∷ lists) old new (front ∷ fronts) None
    → (middle : List ℕ) × Part limit old records middle front.count × ListsWritten limit lists middle new fronts None
first_part {limit} {records} {lists} {old} {new} {front} {fronts} (next_list {middle = middle} one more) = (middle, part limit old records middle front.count (ending_of front.is_cut) one, more)

nothing_more : {limit : ℕ} {old new : List ℕ} → ListsWritten limit [] old new [] None → old ≡ new
nothing_more none_left = refl

-- the first twelve bytes may change
patched : (header run : List ℕ) → length header ≡ 12 → 12 ≤ length run → KeepsFrom 12 run (header ++ drop 12 run)
patched header run e low = record {
  longer = omega (arith, length-append header (drop 12 run), length-drop 12 run);
  same = λ k l lt.
      let back : 12 + (k - 12) ≡ k = omega arith in
      get_or-append_right header (drop 12 run) 12 k 0 e l ∙ get_or-drop 12 run (k - 12) 0 ∙ ap (λ i. get_or run i 0) back;
}

at_front : (header more bytes : List ℕ) → bytes ≡ header ++ more → BytesAt bytes 0 header
at_front header more bytes e = record {
  fits = omega (arith, ap length e, length-append header more);
  same = λ k h. ap (λ i. get_or bytes i 0) (zero-add k) ∙ ap (λ s. get_or s k 0) e ∙ get_or_append_left header more 0 k h;
}

front_len : (n : ℕ) (rs : List (Record RData)) → n ≤ length rs → length (map without_proof (take n rs)) ≡ n
front_len n rs h = omega (arith, length-map (take n rs) (without_proof {R = RData}), length-take n rs)

module _ (limit : ℕ) (reply : Reply) (bytes : List ℕ) (f : Fronts) (queries : List Query) (w : Written limit reply bytes f) (d : IsDecodable reply queries) where
  abbrev start : List ℕ
  start = header_and_questions reply

  abbrev edns_list : List (Record RData)
  edns_list = option_to_list (option_map opt_record reply.edns)

  abbrev tsig_list : List (Record RData)
  tsig_list = option_to_list (option_map tsig_record reply.signature)

  pub message_stands : MessageAt bytes (decoded_message reply queries f)
  message_stands =
      let low = w.limited in
      let one = first_part w.lists in
      let two = first_part one.2 in
      let three = first_part two.2 in
      let four = first_part three.2 in
      let five = first_part four.2 in
      let done : five.0 ≡ w.body = nothing_more five.2 in
      let long : length start ≡ 12 + length reply.question = length-append (replicate 12 0) reply.question in
      let fit1 = one.1.within (omega (arith, long, w.fits)) in
      let fit2 = two.1.within fit1 in
      let fit3 = three.1.within fit2 in
      let fit4 = four.1.within fit3 in
      let fit5 = five.1.within fit4 in
      let h = written_header reply f in
      let final : KeepsFrom 12 w.body bytes = subst (λ b. KeepsFrom 12 w.body b) (sym w.is)
      (patched (header_octets h) w.body refl (omega (arith, long, one.1.longer, two.1.longer, three.1.longer, four.1.longer, five.1.longer, ap length done))) in
      let f5 : KeepsFrom 12 five.0 bytes = subst (λ b. KeepsFrom 12 b bytes) (sym done) final in
      let f4 = KeepsFrom-trans five.1.keeps f5 in
      let f3 = KeepsFrom-trans four.1.keeps f4 in
      let f2 = KeepsFrom-trans three.1.keeps f3 in
      let f1 = KeepsFrom-trans two.1.keeps f2 in
      let f0 = KeepsFrom-trans one.1.keeps f1 in
      let both = reply.authorities ++ reply.soa in
      let readable1 = readable_front f.answers.count reply.answers d.answers in
      let readable2 = readable_front f.authorities.count both (readable_both reply.authorities reply.soa d.authorities d.soa) in
      let readable3 = readable_front f.additionals.count reply.additionals d.additionals in
      let s1 = readable_stand bytes (take f.answers.count reply.answers) (length start) (length one.0) readable1 (put_in_range limit (take f.answers.count reply.answers) start one.0 one.1.puts) (put_stand limit (take f.answers.count reply.answers) start one.0 bytes one.1.puts f1) in
      let s2 = readable_stand bytes (take f.authorities.count both) (length one.0) (length two.0) readable2 (put_in_range limit (take f.authorities.count both) one.0 two.0 two.1.puts) (put_stand limit (take f.authorities.count both) one.0 two.0 bytes two.1.puts f2) in
      let s3 = readable_stand bytes (take f.additionals.count reply.additionals) (length two.0) (length three.0) readable3 (put_in_range limit (take f.additionals.count reply.additionals) two.0 three.0 three.1.puts) (put_stand limit (take f.additionals.count reply.additionals) two.0 three.0 bytes three.1.puts f3) in
      let opt = opt_written bytes (length three.0) (length four.0) f.opt.count reply.edns w.in_range.edns four.1.counted (put_in_range limit (take f.opt.count edns_list) three.0 four.0 four.1.puts) (put_stand limit (take f.opt.count edns_list) three.0 four.0 bytes four.1.puts f4) in
      let tsig = tsig_written bytes (length four.0) (length five.0) f.signature.count reply.signature d.signature five.1.counted (put_in_range limit (take f.signature.count tsig_list) four.0 five.0 five.1.puts) (put_stand limit (take f.signature.count tsig_list) four.0 five.0 bytes five.1.puts f5) in
      let rs = map without_proof (take f.additionals.count reply.additionals) in
      let opts = take f.opt.count edns_list in
      let last = map tsig_record (option_to_list (option_map without_proof (front_of_option f.signature.count reply.signature))) in
      let asked_few = questions_few 12 start queries 12 (length start) d.asked in
      record {
        header = record h { metadata = record h.metadata { response_code = h.metadata.response_code % 16 } };
        all = rs ++ opts ++ last;
        answers_at = length start;
        authorities_at = length one.0;
        additionals_at = length two.0;
        stop = length five.0;
        header_stands = header_stands bytes h w.in_range.metadata.id w.in_range.metadata.op_code
            (record {
              queries = omega (arith, d.question_count, asked_few, long, w.fits);
              answers = omega (arith, one.1.longer, fit1);
              authorities = omega (arith, two.1.longer, fit2);
              additionals = omega (arith, three.1.longer, four.1.longer, five.1.longer, fit5);
            })
            (at_front (header_octets h) (drop 12 w.body) bytes w.is);
        queries = questions_stand start bytes queries 12 (length start) f0 d.questions d.asked;
        answers = s1;
        authorities = s2;
        additionals = items_both (RecordAt bytes) (rs ++ opts) last (length two.0) (length four.0) (length five.0) (items_both (RecordAt bytes) rs opts (length two.0) (length three.0) (length four.0) s3 opt.stand) tsig.stand;
        query_count = sym d.question_count;
        answer_count = front_len f.answers.count reply.answers one.1.counted;
        authority_count = front_len f.authorities.count both two.1.counted;
        additional_count = omega (arith, length-append (rs ++ opts) last, length-append rs opts, front_len f.additionals.count reply.additionals three.1.counted, opt.count, tsig.count);
        answers_plain = readable_plain (take f.answers.count reply.answers) readable1;
        authorities_plain = readable_plain (take f.authorities.count both) readable2;
        section = section_made bytes (length three.0) (length four.0) f.opt.count rs opts (front_of_option f.opt.count reply.edns) (option_map without_proof (front_of_option f.signature.count reply.signature)) (readable_plain (take f.additionals.count reply.additionals) readable3) opt;
        metadata = refl;
      }

  pub written_reads : AreBytes bytes → Reads bytes (decoded_message reply queries f)
  written_reads a = record { stop = here bytes message_stands.stop; reads = message_here bytes a (decoded_message reply queries f) message_stands }
