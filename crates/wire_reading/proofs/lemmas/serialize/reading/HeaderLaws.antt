-- A header that stands at the front of bytes is the one that is read there.
use Rattle.std.proofs.Common.{◌≡◌, ℕ, ◌+◌, ◌%◌, ◌^◌, ◌<◌, ◌≤◌, List, [], ◌∷◌, ◌++◌, length, get_or, ltb, Ok, refl, sym, ap, subst, ◌∙◌, arith}
use Rattle.std.proofs.lemmas.Bool.{ltb-false}
use Rattle.std.proofs.lemmas.List.{length-drop}
use Rattle.std.specs.Int.{w16, to_be_bytes}
use Rattle.wire_names.specs.serialize.layout.Bytes.{AreBytes, BytesAt}
use Rattle.wire_messages.specs.serialize.reading.Cursor.{Cursor}
use Rattle.wire_messages.specs.serialize.layout.HeaderLayout.{metadata_of, first_flags, second_flags, count_octets, header_octets, AreCounts, HeaderAt}
use Rattle.wire_reading.specs.serialize.reading.MessageReading.{front_of}
use Rattle.wire_messages.specs.serialize.reading.Reading.{Read, ◌>>=◌, number, rest_of, moved}
use Rattle.wire_messages.specs.serialize.layout.RecordLayout.{OctetsAt}
use Rattle.wire_messages.specs.serialize.reading.RecordReading.{byte, first_byte}
use Rattle.wire_messages.specs.serialize.reading.SectionReading.{header}
use Rattle.wire_names.specs.declared.error.DecodeError.TheVariants.{InsufficientBytes}
use Rattle.wire_messages.specs.declared.op.header.Header.{Header}
use Rattle.wire_messages.specs.declared.op.header.Metadata.{Metadata}
use Rattle.wire_messages.proofs.lemmas.serialize.layout.HeaderBits.{bits_kept}
use Rattle.wire_messages.proofs.lemmas.serialize.reading.StringSteps.{wrap, ok_is, guard_ok, bind_ok}
use Rattle.wire_reading.proofs.lemmas.serialize.reading.ReadFields.{In, join_octets, number16_in}
use Rattle.wire_messages.proofs.lemmas.serialize.layout.ByteTexts.{read_here, BytesAt-left, BytesAt-right, number16_here, byte_is, byte_here}

-- a header that was written stands there, with the low four bits of its code
pub header_stands : (bytes : List ℕ) (h : Header) → h.metadata.id < 2 ^ 16 → h.metadata.op_code < 16 → AreCounts h.counts → BytesAt bytes 0 (header_octets h)
    → HeaderAt bytes (record h { metadata = record h.metadata { response_code = h.metadata.response_code % 16 } })
header_stands bytes h id op counts at = record {
  id = h.metadata.id;
  one = first_flags h.metadata;
  two = second_flags h.metadata;
  stands = at;
  id_small = id;
  counts = counts;
  metadata = sym (bits_kept h.metadata op);
}

-- a header that stands there is read
pub header_here : (bytes : List ℕ) (h : Header) → HeaderAt bytes h → header (front_of bytes) ≡ read_here h bytes 12
unfolding header
header_here bytes h at =
    let counts = h.counts in
    let i = to_be_bytes w16 at.id in
    let q = to_be_bytes w16 counts.queries in
    let a = to_be_bytes w16 counts.answers in
    let u = to_be_bytes w16 counts.authorities in
    let d = to_be_bytes w16 counts.additionals in
    let s1 : BytesAt bytes 2 (at.one ∷ at.two ∷ count_octets counts) = BytesAt-right bytes 0 i (at.one ∷ at.two ∷ count_octets counts) at.stands in
    let s2 : BytesAt bytes 3 (at.two ∷ count_octets counts) = BytesAt-right bytes 2 (at.one ∷ []) (at.two ∷ count_octets counts) s1 in
    let s3 : BytesAt bytes 4 (count_octets counts) = BytesAt-right bytes 3 (at.two ∷ []) (count_octets counts) s2 in
    let s4 : BytesAt bytes 6 (a ++ u ++ d) = BytesAt-right bytes 4 q (a ++ u ++ d) s3 in
    let s5 : BytesAt bytes 8 (u ++ d) = BytesAt-right bytes 6 a (u ++ d) s4 in
    let s6 : BytesAt bytes 10 d = BytesAt-right bytes 8 u d s5 in
    let n0 = number16_here bytes 0 2 at.id at.id_small (BytesAt-left bytes 0 i (at.one ∷ at.two ∷ count_octets counts) at.stands) refl in
    let n1 = byte_here bytes 2 at.one (at.two ∷ count_octets counts) s1 in
    let n2 = byte_here bytes 3 at.two (count_octets counts) s2 in
    let n3 = number16_here bytes 4 6 counts.queries at.counts.queries (BytesAt-left bytes 4 q (a ++ u ++ d) s3) refl in
    let n4 = number16_here bytes 6 8 counts.answers at.counts.answers (BytesAt-left bytes 6 a (u ++ d) s4) refl in
    let n5 = number16_here bytes 8 10 counts.authorities at.counts.authorities (BytesAt-left bytes 8 u d s5) refl in
    let n6 = number16_here bytes 10 12 counts.additionals at.counts.additionals s6 refl in
    rw (n0, n1, n2, n3, n4, n5, n6) (ap (λ (m : Metadata). read_here (record h { metadata = m }) bytes 12) (sym at.metadata))

-- the header of what was read
abbrev header_of : ℕ → ℕ → ℕ → ℕ → ℕ → ℕ → ℕ → Header
header_of id one two q a u d = record { metadata = metadata_of id one two; counts = record { queries = q; answers = a; authorities = u; additionals = d } }

-- the steps that are left after some
abbrev after_authorities : ℕ → ℕ → ℕ → ℕ → ℕ → ℕ × Cursor → Read Header
after_authorities id one two q a u = number w16 u.1 >>= λ d. Ok (header_of id one two q a u.0 d.0, d.1)

abbrev after_answers : ℕ → ℕ → ℕ → ℕ → ℕ × Cursor → Read Header
after_answers id one two q a = number w16 a.1 >>= after_authorities id one two q a.0

abbrev after_queries : ℕ → ℕ → ℕ → ℕ × Cursor → Read Header
after_queries id one two q = number w16 q.1 >>= after_answers id one two q.0

abbrev after_two : ℕ → ℕ → ℕ × Cursor → Read Header
after_two id one two = number w16 two.1 >>= after_queries id one two.0

abbrev after_one : ℕ → ℕ × Cursor → Read Header
after_one id one = byte one.1 >>= after_two id one.0

abbrev after_id : ℕ × Cursor → Read Header
after_id id = byte id.1 >>= after_one id.0

-- a byte that is read stands there
byte_read : (bytes : List ℕ) (c : Cursor) (x : ℕ × Cursor) → In bytes c → byte c ≡ Ok x → OctetsAt 0 bytes c.place (x.0 ∷ []) x.1.place × In bytes x.1
byte_read bytes c x i e =
    let y : ℕ × Cursor = (first_byte (rest_of c), moved c 1) in
    let g = guard_ok (ltb (length (rest_of c)) 1) InsufficientBytes y x e in
    let some : 1 ≤ length (rest_of c) = ltb-false (length (rest_of c)) 1 g.0 in
    let fits : c.place + 1 ≤ length bytes = omega (arith, length-drop c.place c.bytes, ap length i.0) in
    let is : first_byte (rest_of c) ≡ get_or bytes c.place 0 = byte_is c.bytes c.place ∙ ap (λ (l : List ℕ). get_or l c.place 0) i.0 in
    let at : OctetsAt 0 bytes c.place (first_byte (rest_of c) ∷ []) (c.place + 1) = record {
      above = omega arith;
      stands = record { fits = fits; same = λ k lt. let z : k ≡ 0 = omega arith in rw z (ap (λ j. get_or bytes j 0) (omega arith) ∙ sym is) };
      after = omega arith;
    } in
    subst (λ (z : ℕ × Cursor). OctetsAt 0 bytes c.place (z.0 ∷ []) z.1.place × In bytes z.1) g.1 (at, (i.0, fits))

-- what was read, one behind the other, is a header
parts_found : (bytes : List ℕ) (id one two q a u d p1 p2 p3 p4 p5 p6 p7 : ℕ) → OctetsAt 0 bytes 0 (to_be_bytes w16 id) p1 → OctetsAt 0 bytes p1 (one ∷ []) p2 → OctetsAt 0 bytes p2 (two ∷ []) p3
    → OctetsAt 0 bytes p3 (to_be_bytes w16 q) p4 → OctetsAt 0 bytes p4 (to_be_bytes w16 a) p5 → OctetsAt 0 bytes p5 (to_be_bytes w16 u) p6 → OctetsAt 0 bytes p6 (to_be_bytes w16 d) p7
    → id < 2 ^ 16 → AreCounts (record { queries = q; answers = a; authorities = u; additionals = d }) → HeaderAt bytes (header_of id one two q a u d) × (p7 ≡ 12)
parts_found bytes id one two q a u d p1 p2 p3 p4 p5 p6 p7 r0 r1 r2 r3 r4 r5 r6 small counts =
    let s5 = join_octets bytes p5 p6 p7 (to_be_bytes w16 u) (to_be_bytes w16 d) r5 r6 in
    let s4 = join_octets bytes p4 p5 p7 (to_be_bytes w16 a) (to_be_bytes w16 u ++ to_be_bytes w16 d) r4 s5 in
    let s3 = join_octets bytes p3 p4 p7 (to_be_bytes w16 q) (to_be_bytes w16 a ++ to_be_bytes w16 u ++ to_be_bytes w16 d) r3 s4 in
    let rest : List ℕ = to_be_bytes w16 q ++ to_be_bytes w16 a ++ to_be_bytes w16 u ++ to_be_bytes w16 d in
    let s2 = join_octets bytes p2 p3 p7 (two ∷ []) rest r2 s3 in
    let s1 = join_octets bytes p1 p2 p7 (one ∷ []) (two ∷ rest) r1 s2 in
    let s0 = join_octets bytes 0 p1 p7 (to_be_bytes w16 id) (one ∷ two ∷ rest) r0 s1 in
    (record { id = id; one = one; two = two; stands = s0.stands; id_small = small; counts = counts; metadata = refl }, s0.after)

-- what was read is this header
is_header : (bytes : List ℕ) (y z : Header × Cursor) → wrap y ≡ wrap z → HeaderAt bytes y.0 × (y.1.place ≡ 12) × (y.1.bytes ≡ bytes) → HeaderAt bytes z.0 × (z.1.place ≡ 12) × (z.1.bytes ≡ bytes)
is_header bytes y z e at = subst (λ (x : Header × Cursor). HeaderAt bytes x.0 × (x.1.place ≡ 12) × (x.1.bytes ≡ bytes)) (ok_is y z e) at

-- a header that is read stands there
pub header_found : (bytes : List ℕ) (h : Header) (next : Cursor) → AreBytes bytes → header (front_of bytes) ≡ Ok (h, next) → HeaderAt bytes h × (next.place ≡ 12) × (next.bytes ≡ bytes)
unfolding header
header_found bytes h next a e =
    let c0 : Cursor = front_of bytes in
    let b0 = bind_ok (number w16 c0) after_id (h, next) e in
    let r0 = number16_in bytes a c0 b0.0 (refl, omega arith) b0.1 in
    let b1 = bind_ok (byte b0.0.1) (after_one b0.0.0) (h, next) b0.2 in
    let r1 = byte_read bytes b0.0.1 b1.0 r0.1 b1.1 in
    let b2 = bind_ok (byte b1.0.1) (after_two b0.0.0 b1.0.0) (h, next) b1.2 in
    let r2 = byte_read bytes b1.0.1 b2.0 r1.1 b2.1 in
    let b3 = bind_ok (number w16 b2.0.1) (after_queries b0.0.0 b1.0.0 b2.0.0) (h, next) b2.2 in
    let r3 = number16_in bytes a b2.0.1 b3.0 r2.1 b3.1 in
    let b4 = bind_ok (number w16 b3.0.1) (after_answers b0.0.0 b1.0.0 b2.0.0 b3.0.0) (h, next) b3.2 in
    let r4 = number16_in bytes a b3.0.1 b4.0 r3.1 b4.1 in
    let b5 = bind_ok (number w16 b4.0.1) (after_authorities b0.0.0 b1.0.0 b2.0.0 b3.0.0 b4.0.0) (h, next) b4.2 in
    let r5 = number16_in bytes a b4.0.1 b5.0 r4.1 b5.1 in
    let b6 = bind_ok (number w16 b5.0.1) (λ d. Ok (header_of b0.0.0 b1.0.0 b2.0.0 b3.0.0 b4.0.0 b5.0.0 d.0, d.1)) (h, next) b5.2 in
    let r6 = number16_in bytes a b5.0.1 b6.0 r5.1 b6.1 in
    let f = parts_found bytes b0.0.0 b1.0.0 b2.0.0 b3.0.0 b4.0.0 b5.0.0 b6.0.0 b0.0.1.place b1.0.1.place b2.0.1.place b3.0.1.place b4.0.1.place b5.0.1.place b6.0.1.place
    r0.0 r1.0 r2.0 r3.0 r4.0 r5.0 r6.0 r0.2 (record { queries = r3.2; answers = r4.2; authorities = r5.2; additionals = r6.2 }) in
    is_header bytes (header_of b0.0.0 b1.0.0 b2.0.0 b3.0.0 b4.0.0 b5.0.0 b6.0.0, b6.0.1) (h, next) b6.2 (f.0, f.1, r6.1.0)
