use Rattle.std.proofs.Common.{◌≡◌, ◌++◌, List, length, refl, subst, take, rules}
use Rattle.std.specs.Iterator.Adapters.{chain_second}
use Rattle.wire_writing.specs.representation.Noted.{AreNotes}
use Rattle.wire_writing.specs.representation.Endings.{Front, GivesRecords, ListFollows, NotedRun, seen_front}
use Rattle.wire_writing.specs.serialize.writing.Writing.{Fronts}
use Rattle.wire_messages.specs.declared.rr.rdata.RData.{RData}
use Rattle.wire_messages.specs.declared.rr.record.Record.{Record}
use Rattle.hickory_wire.proofs.lemmas.serialize.writing.FiveLists.{five_cuts, five_lists, chain_gives}
use Rattle.wire_writing.proofs.lemmas.serialize.writing.NotedRuns.{puts_both, repeats, run_both}
use Rattle.wire_writing.proofs.lemmas.serialize.writing.QuestionSteps.{no_notes, notes_behind}
use Rattle.hickory_wire.proofs.serialize.writing.message_encoder.write_lists_by.Goals as goal
use Rattle.hickory_wire.proofs.serialize.writing.message_encoder.write_lists_by.Goals.{then-has_records, else-has_records}

pub write_list-requires : goal.write_list-requires
write_list-requires g c κs =
    let bytes = c.args.bytes.now.items in
    let noted : AreNotes bytes (length bytes) c.if-has_records.table = elim c.if-has_records.branch [
      | then-has_records w ↦ rw w.table-is (notes_behind bytes c.args.parts.question.now w.note_question.new.table c.requires.asked w.note_question.ensures)
      | else-has_records w ↦ rw w.table-is (no_notes bytes (length bytes) c.args.table.now c.requires.empty)
    ] in
    ((refl, (refl, tt)), (c.requires.answers.0, (c.requires.answers.1, (c.requires.header, (c.requires.fits, noted)))))

pub returns-clause-written : goal.returns-clause-written
returns-clause-written g c =
    let one = c.in_ok-answers.ensures.written in
    let two = c.in_ok-authorities.ensures.written in
    let three = c.in_ok-additionals.ensures.written in
    let four = c.in_ok-opts.ensures.written in
    let last = c.in_ok-signatures.ensures.written in
    let both = chain_gives g.N.Iterator.next_gives g.S.Iterator.next_gives c.chain-all_authorities.result c.args.parts.authorities _ two.0 c.chain-all_authorities.ensures.runs two.2 in
    let all = both.0 ++ both.1 in
    let limit = c.args.limit in
    let start = c.args.bytes.now.items in
    let f1 : Front = record { count = c.in_ok-answers.answers; is_cut = one.1; fault = c.write_list.new.stops.fault } in
    let f2 : Front = record { count = c.in_ok-authorities.authorities; is_cut = two.1; fault = c.write_list-2.new.stops.fault } in
    let f3 : Front = record { count = c.in_ok-additionals.additionals; is_cut = three.1; fault = c.write_list-3.new.stops.fault } in
    let f4 : Front = record { count = c.in_ok-opts.opts; is_cut = four.0; fault = c.write_optional_edns.new.stops.fault } in
    let f5 : Front = record { count = c.in_ok-signatures.signatures; is_cut = last.0; fault = c.write_optional_signature.new.stops.fault } in
    let fronts : Fronts = record { answers = seen_front f1; authorities = seen_front f2; additionals = seen_front f3; opt = seen_front f4; signature = seen_front f5 } in
    let run2 = subst (λ (l : List (Record RData)). NotedRun limit c.write_list.new.bytes.items c.write_list.new.table (take f2.count l) c.write_list-2.new.bytes.items c.write_list-2.new.table) both.4 two.4 in
    let runs = run_both limit (take f1.count one.0 ++ take f2.count all) (take f3.count three.0) start c.write_list-2.new.bytes.items c.write_list-3.new.bytes.items c.if-has_records.table c.write_list-2.new.table c.write_list-3.new.table
    (run_both limit (take f1.count one.0) (take f2.count all) start c.write_list.new.bytes.items c.write_list-2.new.bytes.items c.if-has_records.table c.write_list.new.table c.write_list-2.new.table one.4 run2) three.4 in
    let same : chain_second c.chain-all_authorities.result ≡ c.args.parts.soa = search rules in
    let follows = subst (λ (l : List (Record RData)). ListFollows limit c.write_list.new.stops.fault c.write_list.new.bytes.items l c.write_list-2.new.bytes.items f2) both.4 two.3.0 in
    let five = five_lists limit start c.write_list.new.bytes.items c.write_list-2.new.bytes.items c.write_list-3.new.bytes.items c.write_optional_edns.new.bytes.items c.write_optional_signature.new.bytes.items
    one.0 all three.0 _ _ f1 f2 f3 f4 f5
    one.3.0 follows three.3.0 four.1.0 last.1.0 in (
      record { answers = one.0; authorities = both.0; soa = both.1; additionals = three.0 },
      record {
        answers_given = one.2;
        authorities_given = both.2;
        soa_given = subst (λ (s : g.row.S.Denot). GivesRecords g.S.Iterator.next_gives s both.1) same both.3;
        additionals_given = three.2;
      },
      record {
        fronts = fronts;
        lists = five;
        owners = record {
          sections = c.write_list-3.new.bytes.items;
          repeating = repeats limit _ start c.write_list-3.new.bytes.items c.if-has_records.table c.write_list-3.new.table runs;
          last = puts_both limit _ _ c.write_list-3.new.bytes.items c.write_optional_edns.new.bytes.items c.write_optional_signature.new.bytes.items four.2 last.2;
        };
        sums = record {
          answers = refl;
          authorities = refl;
          additionals = refl;
          is_cut = five_cuts one.1 two.1 three.1 four.0 last.0 _ _ _ _ _ one.3.1 two.3.1 three.3.1 four.1.1 last.1.1;
        };
      },
    )

pub returns-clause-in_range : goal.returns-clause-in_range
returns-clause-in_range g c = λ none. let last = c.in_ok-signatures.ensures.written in c.in_ok-opts.ensures.in_range (last.1.2 none)
