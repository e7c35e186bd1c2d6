-- The two runs that tell of a reply go through the same bytes, since a record ends where its length says.
use Rattle.std.proofs.Common.{◌≡◌, ℕ, ◌+◌, ◌<◌, ◌^◌, List, [], ◌∷◌, ◌++◌, length, map, take, Option, refl, sym, ap, subst, ◌∙◌, arith, append_assoc}
use Rattle.std.specs.Prelude.{option_map, option_to_list}
use Rattle.std.specs.Int.{w16, w32, to_be_bytes}
use Rattle.std.proofs.lemmas.List.{append-nil, take-append-le, take_all}
use Rattle.wire_names.specs.serialize.layout.Bytes.{BytesAt}
use Rattle.wire_names.specs.declared.error.ProtoError.{ProtoError}
use Rattle.wire_messages.specs.rr.RecordData.{type_of}
use Rattle.wire_messages.specs.serialize.layout.MessageLayout.{tsig_record}
use Rattle.wire_messages.specs.serialize.layout.RecordLayout.{FormAt, fixed_fields}
use Rattle.wire_messages.specs.serialize.reading.Cursor.{Cursor}
use Rattle.wire_messages.specs.serialize.reading.Reading.{number}
use Rattle.wire_messages.specs.serialize.writing.Reply.{Reply, opt_record, reply_lists}
use Rattle.wire_messages.specs.declared.rr.rdata.RData.{RData}
use Rattle.wire_messages.specs.declared.rr.record.Record.{Record}
use Rattle.wire_messages.proofs.lemmas.serialize.layout.ByteTexts.{BytesAt-right, here, number16_here, read_here}
use Rattle.wire_messages.proofs.lemmas.serialize.layout.FormKeeps.{FormAt-keeps}
use Rattle.wire_messages.proofs.lemmas.serialize.layout.Stable.{LabelsAt-same}
use Rattle.wire_messages.proofs.lemmas.serialize.reading.StringSteps.{ok_is}
use Rattle.wire_writing.specs.serialize.writing.OwnerNames.{OwnerPlace}
use Rattle.wire_writing.specs.serialize.writing.Writing.{Fronts, ListFront, ListsWritten, OwnersRepeat, Puts, PutsAll, PutsRepeating, fronts_list, last_records, nothing_put, section_records}
use Rattle.wire_writing.specs.serialize.writing.Writing.ListsWritten.{none_left, next_list, stuck_list}
use Rattle.hickory_wire.specs.serialize.writing.OneRun.{middles, middles_of_lists, middles_of_owners, middles_repeating}
use Rattle.hickory_wire.proofs.lemmas.serialize.writing.WrittenItems.{PutsAll-keeps}

-- ---- where a record ends

-- the length of a record's data stands eight bytes behind its owner name
len_here : (bytes : List ℕ) (m len : ℕ) (r : Record RData) → len < 2 ^ 16 → BytesAt bytes m (fixed_fields r len) → number w16 (here bytes (m + 2 + 2 + 4)) ≡ read_here len bytes (m + 10)
len_here bytes m len r small fixed =
    let t1 = to_be_bytes w16 (type_of r.rdata) in
    let t2 = to_be_bytes w16 r.dns_class in
    let t3 = to_be_bytes w32 r.ttl in
    let t4 = to_be_bytes w16 len in
    let s2 = BytesAt-right bytes m t1 (t2 ++ t3 ++ t4) fixed in
    let s3 = BytesAt-right bytes (m + 2) t2 (t3 ++ t4) s2 in
    let s4 = BytesAt-right bytes (m + 2 + 2) t3 t4 s3 in
    number16_here bytes (m + 2 + 2 + 4) (m + 10) len small s4 (omega arith)

same_number : (a b place : ℕ) (bytes : List ℕ) → read_here a bytes place ≡ read_here b bytes place → a ≡ b
same_number a b place bytes e = ap (λ (p : ℕ × Cursor). p.0) (ok_is (a, here bytes place) (b, here bytes place) e)

one_end : (bytes : List ℕ) (floor place p q : ℕ) (r : Record RData) → FormAt floor bytes place r p → FormAt floor bytes place r q → p ≡ q
one_end bytes floor place p q r a b =
    let middle : a.middle ≡ b.middle = (LabelsAt-same refl a.owner.labels b.owner.labels).1 in
    let fixed : BytesAt bytes b.middle (fixed_fields r a.len) = subst (λ (m : ℕ). BytesAt bytes m (fixed_fields r a.len)) middle a.fixed in
    let len : a.len ≡ b.len = same_number a.len b.len (b.middle + 10) bytes (sym (len_here bytes b.middle a.len r a.small fixed) ∙ len_here bytes b.middle b.len r b.small b.fixed) in
    omega (arith, a.counted, b.counted, middle, len)

-- ---- runs with what stands behind each of their records

abbrev Run : ℕ → List ℕ → List (Record RData) → List ℕ → List (List ℕ) → Type 0
Run limit old [] new [] = new ≡ old
Run limit old [] new (m ∷ ms) = ⊥
Run limit old (r ∷ rs) new [] = ⊥
Run limit old (r ∷ rs) new (m ∷ ms) = Puts limit old r m × Run limit m rs new ms

run_puts : (limit : ℕ) (rs : List (Record RData)) (old new : List ℕ) (ms : List (List ℕ)) → Run limit old rs new ms → PutsAll limit old rs new
run_puts limit [] old new [] h = h
run_puts limit [] old new (m ∷ ms) h = absurd h
run_puts limit (r ∷ rs) old new [] h = absurd h
run_puts limit (r ∷ rs) old new (m ∷ ms) h = (m, h.0, run_puts limit rs m new ms h.1)

puts_run : (limit : ℕ) (rs : List (Record RData)) (old new : List ℕ) (p : PutsAll limit old rs new) → Run limit old rs new (middles limit rs old new p)
puts_run limit [] old new e = e
puts_run limit (r ∷ rs) old new (middle, one, more) = (one, puts_run limit rs middle new more)

repeating_run : (limit : ℕ) (rs : List (Record RData)) (before : List OwnerPlace) (old new : List ℕ) (p : PutsRepeating limit before old rs new) → Run limit old rs new (middles_repeating limit rs before old new p)
repeating_run limit [] before old new e = e
repeating_run limit (r ∷ rs) before old new (middle, one, repeats, more) = (one, repeating_run limit rs _ middle new more)

run_both : (limit : ℕ) (rs ss : List (Record RData)) (old mid new : List ℕ) (ms ns : List (List ℕ)) → Run limit old rs mid ms → Run limit mid ss new ns → Run limit old (rs ++ ss) new (ms ++ ns)
run_both limit [] ss old mid new [] ns h k = subst (λ (b : List ℕ). Run limit b ss new ns) h k
run_both limit [] ss old mid new (m ∷ ms) ns h k = absurd h
run_both limit (r ∷ rs) ss old mid new [] ns h k = absurd h
run_both limit (r ∷ rs) ss old mid new (m ∷ ms) ns h k = (h.0, run_both limit rs ss m mid new ms ns h.1 k)

-- what was put is the front of what was put in the end
puts_front : (limit : ℕ) (rs : List (Record RData)) (old new : List ℕ) → PutsAll limit old rs new → (more : List ℕ) × (new ≡ old ++ more)
puts_front limit [] old new e = ([], e ∙ sym (append-nil old))
puts_front limit (r ∷ rs) old new (middle, one, more) =
    let rest = puts_front limit rs middle new more in
    (one.more ++ rest.0, rest.1 ∙ ap (λ b. b ++ rest.0) one.appended ∙ append_assoc old one.more rest.0)

front_is : (limit : ℕ) (rs : List (Record RData)) (old new : List ℕ) → PutsAll limit old rs new → take (length old) new ≡ old
front_is limit rs old new p =
    let f = puts_front limit rs old new p in
    ap (take (length old)) f.1 ∙ take-append-le (length old) old f.0 (omega arith) ∙ take_all (length old) old (omega arith)

-- two runs over the same records to the same bytes are one
one_way : (limit : ℕ) (rs : List (Record RData)) (old new : List ℕ) (ms ns : List (List ℕ)) → Run limit old rs new ms → Run limit old rs new ns → ms ≡ ns
one_way limit [] old new [] [] h k = refl
one_way limit [] old new [] (n ∷ ns) h k = absurd k
one_way limit [] old new (m ∷ ms) ns h k = absurd h
one_way limit (r ∷ rs) old new [] ns h k = absurd h
one_way limit (r ∷ rs) old new (m ∷ ms) [] h k = absurd k
one_way limit (r ∷ rs) old new (m ∷ ms) (n ∷ ns) h k =
    let p = run_puts limit rs m new ms h.1 in
    let q = run_puts limit rs n new ns k.1 in
    let a = FormAt-keeps (PutsAll-keeps limit rs m new p) (omega arith) h.0.form in
    let b = FormAt-keeps (PutsAll-keeps limit rs n new q) (omega arith) k.0.form in
    let size : length m ≡ length n = one_end new 12 (length old) (length m) (length n) r a b in
    let same : m ≡ n = sym (front_is limit rs m new p) ∙ ap (λ k. take k new) size ∙ front_is limit rs n new q in
    let rest : ms ≡ ns = one_way limit rs n new ms ns (subst (λ (b : List ℕ). Run limit b rs new ms) same h.1) k.1 in
    cc

-- ---- the lists

-- the records of lists that were put
abbrev put_records : List (List (Record RData)) → List ListFront → List (Record RData)
put_records [] fronts = []
put_records (records ∷ lists) [] = []
put_records (records ∷ lists) (front ∷ fronts) = take front.count records ++ put_records lists fronts

none_put : (lists : List (List (Record RData))) → put_records lists (map (λ list. nothing_put) lists) ≡ []
none_put [] = refl
none_put (records ∷ lists) = none_put lists

lists_run : {limit : ℕ} {lists : List (List (Record RData))} {old new : List ℕ} {fronts : List ListFront} {fault : Option ProtoError} (h : ListsWritten limit lists old new fronts fault) → Run limit old (put_records lists fronts) new (middles_of_lists h)
lists_run none_left = refl
lists_run {limit} (next_list {records = records} {lists = lists} {old = old} {middle = middle} {new = new} {front = front} {fronts = fronts} one more) =
    run_both limit (take front.count records) (put_records lists fronts) old middle new (middles limit (take front.count records) old middle one.puts) (middles_of_lists more)
    (puts_run limit (take front.count records) old middle one.puts) (lists_run more)
lists_run {limit} (stuck_list {records = records} {lists = lists} {old = old} {new = new} {front = front} {fronts = fronts} one uncut behind) =
    let none : put_records lists fronts ≡ [] = ap (put_records lists) behind ∙ none_put lists in
    let all : take front.count records ++ put_records lists fronts ≡ take front.count records = ap (λ rs. take front.count records ++ rs) none ∙ append-nil (take front.count records) in
    subst (λ (rs : List (Record RData)). Run limit old rs new (middles limit (take front.count records) old new one.puts)) (sym all) (puts_run limit (take front.count records) old new one.puts)

-- ---- a reply

five : (a b c d e : List (Record RData)) → a ++ (b ++ (c ++ (d ++ (e ++ [])))) ≡ (a ++ b ++ c) ++ (d ++ e)
five a b c d e = simp (append_assoc, append-nil {A = Record RData})

pub one_run : (limit : ℕ) (old new : List ℕ) (reply : Reply) (put : Fronts) {fault : Option ProtoError} (lists : ListsWritten limit (reply_lists reply) old new (fronts_list put) fault) (owners : OwnersRepeat limit old reply put new)
    → middles_of_lists lists ≡ middles_of_owners owners
one_run limit old new reply put lists owners =
    let both = run_both limit (section_records reply put) (last_records reply put) old owners.sections new (middles_repeating limit (section_records reply put) [] old owners.sections owners.repeating) (middles limit (last_records reply put) owners.sections new owners.last)
    (repeating_run limit (section_records reply put) [] old owners.sections owners.repeating) (puts_run limit (last_records reply put) owners.sections new owners.last) in
    let same : put_records (reply_lists reply) (fronts_list put) ≡ section_records reply put ++ last_records reply put =
    five (take put.answers.count reply.answers) (take put.authorities.count (reply.authorities ++ reply.soa)) (take put.additionals.count reply.additionals)
    (take put.opt.count (option_to_list (option_map opt_record reply.edns))) (take put.signature.count (option_to_list (option_map tsig_record reply.signature))) in
    one_way limit (section_records reply put ++ last_records reply put) old new (middles_of_lists lists) (middles_of_owners owners)
    (subst (λ (rs : List (Record RData)). Run limit old rs new (middles_of_lists lists)) same (lists_run lists)) both
