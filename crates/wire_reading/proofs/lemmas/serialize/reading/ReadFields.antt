-- Numbers, octets, strings and names that are read stand where they were read.
use Rattle.std.proofs.Common.{◌≡◌, ◌≢◌, ◌⊎◌, inl, inr, ℕ, zero, suc, ◌+◌, ◌^◌, ◌<◌, ◌≤◌, List, [], ◌∷◌, ◌++◌, length, get_or, take, drop, Bool, true, false, cond, ltb, eqb, Result, Ok, Err, refl, sym, ap, subst, ◌∙◌, arith, length-append}
use Rattle.std.specs.List.{AllByRecursion, flat_map}
use Rattle.std.specs.Int.{Width, w16, w32, byte_len, to_be_bytes, from_be_bytes}
use Rattle.std.proofs.lemmas.Bool.{lt-ltb, cases_lt, cases_eq, eq-eqb, ne_eqb}
use Rattle.std.proofs.lemmas.List.{length-drop, length-take, get_or-take, get_or-drop, get_or_past}
use Rattle.std.proofs.lemmas.Nat.{be_bytes_2, be_bytes_4}
use Rattle.wire_names.specs.serialize.layout.Bytes.{AreBytes, BytesAt}
use Rattle.wire_messages.specs.serialize.reading.Cursor.{Cursor}
use Rattle.wire_names.specs.rr.domain.DomainName.{DomainName}
use Rattle.wire_messages.specs.serialize.layout.NameLayout.{NameAt, IsFullyQualified}
use Rattle.wire_messages.specs.serialize.reading.NameReading.{name, labels_from, qualified}
use Rattle.wire_messages.specs.serialize.reading.Reading.{Read, ◌>>=◌, number, octets, rest_of, moved}
use Rattle.wire_messages.specs.rr.RecordData.{character_string}
use Rattle.wire_messages.specs.serialize.layout.RecordLayout.{OctetsAt}
use Rattle.wire_messages.specs.serialize.reading.RecordReading.{byte, first_byte, string, strings_within, counted_octets}
use Rattle.wire_names.specs.declared.error.DecodeError.{DecodeError}
use Rattle.wire_names.specs.declared.error.DecodeError.TheVariants.{InsufficientBytes}
use Rattle.wire_messages.proofs.lemmas.serialize.layout.ByteTexts.{take_stands, BytesAt-both, byte_is}
use Rattle.wire_messages.proofs.lemmas.serialize.layout.FormKeeps.{LabelsAt-longer}
use Rattle.wire_reading.proofs.lemmas.serialize.reading.NameLaws.{name_found}
use Rattle.wire_messages.proofs.lemmas.serialize.reading.StringSteps.{bind_ok, guard_ok, ok_is, wrap}

-- ---- what a reading that went well says of its parts

-- both parts of a reading went well
pub bind_then : {A B : Type 0} (r : Result A DecodeError) (f : A → Result B DecodeError) (y : B) (G : Type 0) → (r >>= f) ≡ Ok y → ((x : A) → r ≡ Ok x → f x ≡ Ok y → G) → G
bind_then (Ok x) f y G e go = go x refl e
bind_then (Err d) f y G e go = absurd cc

-- what the test of an order says
le_of : (a b : ℕ) → ltb a b ≡ false → b ≤ a
le_of a b e = elim (cases_lt a b) [ inl lt ↦ let t : true ≡ false = sym (lt-ltb a b lt) ∙ e in absurd cc | inr le ↦ le ]

-- what the test of an equation says
pub eq_of : (a b : ℕ) → eqb a b ≡ true → a ≡ b
eq_of a b e = elim (cases_eq a b) [ inl h ↦ h | inr ne ↦ let t : false ≡ true = sym (ne_eqb a b ne) ∙ e in absurd cc ]

-- and what it says where it fails
pub ne_of : (a b : ℕ) → eqb a b ≡ false → a ≢ b
ne_of a b e h = let t : true ≡ false = sym (eq-eqb a b h) ∙ e in absurd cc

-- a choice that went well went well on one side
pub branch : {A : Type 0} (b : Bool) (p q : Result A DecodeError) (x : A) → cond b p q ≡ Ok x → ((b ≡ true) × (p ≡ Ok x)) ⊎ ((b ≡ false) × (q ≡ Ok x))
branch true p q x e = inl (refl, e)
branch false p q x e = inr (refl, e)

-- ---- the parts of bytes

-- a part of bytes are bytes
part_bytes : (bytes : List ℕ) (p n i : ℕ) → AreBytes bytes → get_or (take n (drop p bytes)) i 0 < 256
part_bytes bytes p n i a = elim (cases_lt i n) [
  | inl lt ↦ omega (arith, get_or-take n (drop p bytes) i 0 lt ∙ get_or-drop p bytes i 0, a (p + i))
  | inr le ↦ omega (arith, get_or_past (take n (drop p bytes)) i 0 (omega (arith, length-take n (drop p bytes))))
]

-- bytes at a place are bytes
pub stands_bytes : (bytes : List ℕ) (place : ℕ) (text : List ℕ) → AreBytes bytes → BytesAt bytes place text → AreBytes text
stands_bytes bytes place text a at k = elim (cases_lt k (length text)) [
  | inl lt ↦ omega (arith, at.same k lt, a (place + k))
  | inr le ↦ omega (arith, get_or_past text k 0 le)
]

-- the place of a cursor lies in these bytes, which are its own
abbrev pub In : List ℕ → Cursor → Type 0
In bytes c = (c.bytes ≡ bytes) × (c.place ≤ length bytes)

-- what stands behind a text, with it
pub join : (bytes : List ℕ) (p q : ℕ) (a b : List ℕ) → BytesAt bytes p a → q ≡ p + length a → BytesAt bytes q b → BytesAt bytes p (a ++ b)
join bytes p q a b s e t = BytesAt-both bytes p a b s (subst (λ (r : ℕ). BytesAt bytes r b) e t)

-- octets behind others, with them
pub join_octets : (bytes : List ℕ) (p q r : ℕ) (a b : List ℕ) → OctetsAt 0 bytes p a q → OctetsAt 0 bytes q b r → OctetsAt 0 bytes p (a ++ b) r
join_octets bytes p q r a b s t = record { above = omega arith; stands = join bytes p q a b s.stands s.after t.stands; after = omega (arith, s.after, t.after, length-append a b) }

-- so many bytes from the place on
there : (bytes : List ℕ) (c : Cursor) (n : ℕ) → In bytes c → ltb (length (rest_of c)) n ≡ false → OctetsAt 0 bytes c.place (take n (drop c.place c.bytes)) (c.place + n) × (length (take n (drop c.place c.bytes)) ≡ n) × (c.place + n ≤ length bytes)
there bytes c n i e =
    let le : n ≤ length (rest_of c) = le_of (length (rest_of c)) n e in
    let fits : c.place + n ≤ length c.bytes = omega (arith, length-drop c.place c.bytes, i.1, ap length i.0) in
    let len : length (take n (drop c.place c.bytes)) ≡ n = omega (arith, length-take n (drop c.place c.bytes)) in
    (record { above = omega arith; stands = subst (λ (s : List ℕ). BytesAt s c.place (take n (drop c.place c.bytes))) i.0 (take_stands c.bytes c.place n fits); after = omega arith }, len, omega (arith, ap length i.0))

-- reading a name leaves the bytes
pub name_keeps : (c : Cursor) (x : DomainName × Cursor) → name c ≡ Ok x → x.1.bytes ≡ c.bytes
unfolding name
name_keeps c x e =
    let b = bind_ok (labels_from c.bytes c.place c.place 1) (λ y. let z : Read DomainName = Ok (qualified y.0, record c { place = y.1 }) in z) x e in
    let y : DomainName × Cursor = (qualified b.0.0, record c { place = b.0.1 }) in
    ap (λ (z : DomainName × Cursor). z.1.bytes) (sym (ok_is y x b.2))

module _ (bytes : List ℕ) (a : AreBytes bytes) where
  -- ---- numbers

  -- the number that was read, of bytes of this width
  number_parts : (w : Width) (c : Cursor) (x : ℕ × Cursor) → In bytes c → number w c ≡ Ok x
      → OctetsAt 0 bytes c.place (take (byte_len w) (drop c.place c.bytes)) x.1.place × (length (take (byte_len w) (drop c.place c.bytes)) ≡ byte_len w) × (x.0 ≡ from_be_bytes w (take (byte_len w) (drop c.place c.bytes))) × In bytes x.1
  number_parts w c x i e =
      let y : ℕ × Cursor = (from_be_bytes w (take (byte_len w) (rest_of c)), moved c (byte_len w)) in
      let g = guard_ok (ltb (length (rest_of c)) (byte_len w)) InsufficientBytes y x e in
      let t = there bytes c (byte_len w) i g.0 in
      let at : In bytes y.1 = (i.0, t.2) in
      (subst (λ (z : ℕ × Cursor). OctetsAt 0 bytes c.place (take (byte_len w) (drop c.place c.bytes)) z.1.place) g.1 t.0, t.1, ap (λ (z : ℕ × Cursor). z.0) (sym g.1), subst (λ (z : ℕ × Cursor). In bytes z.1) g.1 at)

  -- a number of two bytes that was read stands there
  pub number16_in : (c : Cursor) (x : ℕ × Cursor) → In bytes c → number w16 c ≡ Ok x → OctetsAt 0 bytes c.place (to_be_bytes w16 x.0) x.1.place × In bytes x.1 × (x.0 < 2 ^ 16)
  number16_in c x i e =
      let n = number_parts w16 c x i e in
      let low : (k : ℕ) → get_or (take 2 (drop c.place c.bytes)) k 0 < 256 = λ k. part_bytes c.bytes c.place 2 k (subst AreBytes (sym i.0) a) in
      let same : take 2 (drop c.place c.bytes) ≡ to_be_bytes w16 x.0 = sym (be_bytes_2 (take 2 (drop c.place c.bytes)) x.0 n.1 low n.2) in
      (subst (λ (s : List ℕ). OctetsAt 0 bytes c.place s x.1.place) same n.0, n.3, omega (arith, n.2, low 0, low 1))

  -- a number of four bytes that was read stands there
  pub number32_in : (c : Cursor) (x : ℕ × Cursor) → In bytes c → number w32 c ≡ Ok x → OctetsAt 0 bytes c.place (to_be_bytes w32 x.0) x.1.place × In bytes x.1 × (x.0 < 2 ^ 32)
  number32_in c x i e =
      let n = number_parts w32 c x i e in
      let low : (k : ℕ) → get_or (take 4 (drop c.place c.bytes)) k 0 < 256 = λ k. part_bytes c.bytes c.place 4 k (subst AreBytes (sym i.0) a) in
      let same : take 4 (drop c.place c.bytes) ≡ to_be_bytes w32 x.0 = sym (be_bytes_4 (take 4 (drop c.place c.bytes)) x.0 n.1 low n.2) in
      (subst (λ (s : List ℕ). OctetsAt 0 bytes c.place s x.1.place) same n.0, n.3, omega (arith, n.2, low 0, low 1, low 2, low 3))

  -- ---- octets, strings and names

  -- octets that were read stand there
  pub octets_in : (k : ℕ) (c : Cursor) (x : List ℕ × Cursor) → In bytes c → octets k c ≡ Ok x → OctetsAt 0 bytes c.place x.0 x.1.place × In bytes x.1 × (length x.0 ≡ k)
  octets_in k c x i e =
      let y : List ℕ × Cursor = (take k (rest_of c), moved c k) in
      let g = guard_ok (ltb (length (rest_of c)) k) InsufficientBytes y x e in
      let t = there bytes c k i g.0 in
      subst (λ (z : List ℕ × Cursor). OctetsAt 0 bytes c.place z.0 z.1.place × In bytes z.1 × (length z.0 ≡ k)) g.1 (t.0, (i.0, t.2), t.1)

  -- octets behind their length
  pub counted_in : (c : Cursor) (x : List ℕ × Cursor) → In bytes c → counted_octets c ≡ Ok x → OctetsAt 0 bytes c.place (to_be_bytes w16 (length x.0) ++ x.0) x.1.place × In bytes x.1 × (length x.0 < 2 ^ 16)
  unfolding counted_octets
  counted_in c x i e =
      let b = bind_ok (number w16 c) (λ n. octets n.0 n.1) x e in
      let n = number16_in c b.0 i b.1 in
      let o = octets_in b.0.0 b.0.1 x n.1 b.2 in
      let size = subst (λ (k : ℕ). OctetsAt 0 bytes c.place (to_be_bytes w16 k) b.0.1.place) (sym o.2) n.0 in
      (join_octets bytes c.place b.0.1.place x.1.place (to_be_bytes w16 (length x.0)) x.0 size o.0, o.1, omega (arith, o.2, n.2))

  -- a name that was read stands there
  pub name_in : (c : Cursor) (x : DomainName × Cursor) → c.bytes ≡ bytes → name c ≡ Ok x → NameAt 0 bytes c.place x.0 x.1.place × In bytes x.1 × IsFullyQualified x.0
  name_in c x i e =
      let at = name_found c x.0 x.1 e in
      let k = name_keeps c x e in
      (subst (λ (s : List ℕ). NameAt 0 s c.place x.0 x.1.place) i at.0, (k ∙ i, omega (arith, (LabelsAt-longer at.0.labels).1, ap length i)), at.1)

  -- a length byte
  byte_in : (c : Cursor) (x : ℕ × Cursor) → In bytes c → byte c ≡ Ok x → OctetsAt 0 bytes c.place (x.0 ∷ []) x.1.place × In bytes x.1 × (x.0 < 256)
  byte_in c x i e =
      let y : ℕ × Cursor = (first_byte (rest_of c), moved c 1) in
      let g = guard_ok (ltb (length (rest_of c)) 1) InsufficientBytes y x e in
      let t = there bytes c 1 i g.0 in
      let is : first_byte (rest_of c) ≡ get_or bytes c.place 0 = byte_is c.bytes c.place ∙ ap (λ (l : List ℕ). get_or l c.place 0) i.0 in
      let at : OctetsAt 0 bytes c.place (first_byte (rest_of c) ∷ []) (c.place + 1) = record {
        above = omega arith;
        stands = record { fits = omega (arith, t.2); same = λ k lt. let z : k ≡ 0 = omega arith in rw z (ap (λ j. get_or bytes j 0) (omega arith) ∙ sym is) };
        after = omega arith;
      } in
      subst (λ (z : ℕ × Cursor). OctetsAt 0 bytes c.place (z.0 ∷ []) z.1.place × In bytes z.1 × (z.0 < 256)) g.1 (at, (i.0, t.2), omega (arith, is, a c.place))

  -- a string that was read stands there
  string_in : (c : Cursor) (x : List ℕ × Cursor) → In bytes c → string c ≡ Ok x → OctetsAt 0 bytes c.place (character_string x.0) x.1.place × In bytes x.1 × (length x.0 < 256)
  unfolding string
  string_in c x i e =
      let b = bind_ok (byte c) (λ n. octets n.0 n.1) x e in
      let n = byte_in c b.0 i b.1 in
      let o = octets_in b.0.0 b.0.1 x n.1 b.2 in
      let size = subst (λ (k : ℕ). OctetsAt 0 bytes c.place (k ∷ []) b.0.1.place) (sym o.2) n.0 in
      (join_octets bytes c.place b.0.1.place x.1.place (length x.0 ∷ []) x.0 size o.0, o.1, omega (arith, o.2, n.2))

  -- strings that were read
  abbrev Strings : Cursor → List (List ℕ) × Cursor → Type 0
  Strings c x = OctetsAt 0 bytes c.place (flat_map character_string x.0) x.1.place × In bytes x.1 × AllByRecursion (λ text. length text < 256) x.0

  -- where no string was read none stands
  no_strings : (c : Cursor) (x : List (List ℕ) × Cursor) → In bytes c → wrap {A = List (List ℕ) × Cursor} ([], c) ≡ Ok x → Strings c x
  no_strings c x i e =
      let y : List (List ℕ) × Cursor = ([], c) in
      subst (λ (z : List (List ℕ) × Cursor). Strings c z) (ok_is y x e)
      (record { above = omega arith; stands = record { fits = omega (arith, i.1); same = λ k lt. absurd (omega arith) }; after = omega arith }, i, tt)

  -- strings that were read stand there
  pub strings_in : (fuel stop : ℕ) (c : Cursor) (x : List (List ℕ) × Cursor) → In bytes c → strings_within fuel stop c ≡ Ok x → Strings c x
  unfolding strings_within
  strings_in zero stop c x i e = no_strings c x i e
  strings_in (suc fuel) stop c x i e =
      elim (branch (ltb c.place stop) (string c >>= λ s. strings_within fuel stop s.1 >>= λ others. Ok (s.0 ∷ others.0, others.1)) (Ok ([], c)) x e) [
        | inr done ↦ no_strings c x i done.1
        | inl more ↦
            let b = bind_ok (string c) (λ s. strings_within fuel stop s.1 >>= λ others. Ok (s.0 ∷ others.0, others.1)) x more.1 in
            let d = bind_ok (strings_within fuel stop b.0.1) (λ others. Ok (b.0.0 ∷ others.0, others.1)) x b.2 in
            let s = string_in c b.0 i b.1 in
            let r = strings_in fuel stop b.0.1 d.0 s.1 d.1 in
            let y : List (List ℕ) × Cursor = (b.0.0 ∷ d.0.0, d.0.1) in
            subst (λ (z : List (List ℕ) × Cursor). Strings c z) (ok_is y x d.2)
            (join_octets bytes c.place b.0.1.place d.0.1.place (character_string b.0.0) (flat_map character_string d.0.0) s.0 r.0, r.1, (s.2, r.2))
      ]
