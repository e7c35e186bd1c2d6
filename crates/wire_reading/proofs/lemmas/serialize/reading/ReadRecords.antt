-- Records and questions that are read stand where they were read.
use Rattle.std.proofs.Common.{◌≡◌, ◌≢◌, inl, inr, ℕ, ◌+◌, ◌^◌, ◌<◌, List, ◌++◌, length, Bool, true, false, not, ◌&&◌, cond, ltb, eqb, Ok, Err, refl, sym, ap, subst, ◌∙◌, arith}
use Rattle.std.specs.Int.{w16, w32, to_be_bytes}
use Rattle.std.proofs.lemmas.Bool.{cases_eq, eq-eqb, ne_eqb}
use Rattle.wire_names.specs.serialize.layout.Bytes.{AreBytes, BytesAt}
use Rattle.wire_messages.specs.serialize.reading.Cursor.{Cursor}
use Rattle.wire_names.specs.rr.domain.DomainName.{DomainName}
use Rattle.wire_messages.specs.serialize.reading.NameReading.{name}
use Rattle.wire_messages.specs.serialize.layout.QuestionLayout.{QuestionAt, IsFormedQuestion}
use Rattle.wire_messages.specs.serialize.reading.Reading.{Read, ◌>>=◌, number, rest_of}
use Rattle.wire_messages.specs.serialize.layout.RecordLayout.{DataRead, RecordAt}
use Rattle.wire_messages.specs.serialize.reading.RecordReading.{form, record_data, resource, question}
use Rattle.wire_names.specs.declared.error.DecodeError.{DecodeError}
use Rattle.wire_names.specs.declared.error.DecodeError.TheVariants.{InsufficientBytes, IncorrectDataLength}
use Rattle.wire_messages.specs.declared.op.query.Query.{Query}
use Rattle.wire_messages.specs.declared.rr.rdata.RData.{RData}
use Rattle.wire_messages.specs.declared.rr.rdata.RData.TheVariants as rdata
use Rattle.wire_messages.specs.declared.rr.record.Proof.TheVariants.{Indeterminate}
use Rattle.wire_messages.specs.declared.rr.record.Record.{Record}
use Rattle.wire_reading.proofs.lemmas.serialize.reading.ReadData.{Gave, gave, form_in}
use Rattle.wire_reading.proofs.lemmas.serialize.reading.ReadFields.{bind_then, branch, eq_of, ne_of, In, join_octets, number16_in, number32_in, name_in}
use Rattle.wire_messages.proofs.lemmas.serialize.reading.StringSteps.{ok_is, wrap}

-- three tests passed
first_true : (b c d : Bool) → (b && c && d) ≡ true → (b ≡ true) × (c ≡ true) × (d ≡ true)
first_true true true true e = (refl, refl, refl)
first_true true true false e = absurd cc
first_true true false d e = absurd cc
first_true false c d e = absurd cc

-- a test that failed
not_true : (b : Bool) → not b ≡ true → b ≡ false
not_true true e = absurd cc
not_true false e = refl

-- an error is not what went well
err_is_not : {A : Type 0} (d : DecodeError) (x : A) → Err d ≡ wrap x → ⊥
err_is_not d x e = cc

-- data that are none of an update have a byte, but for those of an OPT record
has_byte : (kind len : ℕ) → (eqb len 0 && not (eqb kind 41) && not (eqb kind 250)) ≡ false → (eqb len 0 && eqb kind 250) ≡ false → (kind ≢ 41) → 0 < len
has_byte kind len used signed n = elim (cases_eq len 0) [
  | inr ne ↦ omega arith
  | inl z ↦ elim (cases_eq kind 250) [
    | inl k ↦ let t : true ≡ false = rw (eq-eqb len 0 z, eq-eqb kind 250 k) at signed in absurd cc
    | inr m ↦ let t : true ≡ false = rw (eq-eqb len 0 z, ne_eqb kind 41 n, ne_eqb kind 250 m) at used in absurd cc
  ]
]

module _ (bytes : List ℕ) (a : AreBytes bytes) where
  -- ---- data with their length

  -- data behind the tests of their length
  ended : ℕ → ℕ → Cursor → Read RData
  ended kind len c = form kind len c >>= λ y. cond (eqb y.1.place (c.place + len)) (Ok y) (Err IncorrectDataLength)

  ended_in : (kind len : ℕ) (c : Cursor) (x : RData × Cursor) → In bytes c → kind < 2 ^ 16 → ((kind ≢ 41) → 0 < len) → ended kind len c ≡ Ok x → Gave bytes a kind c x × (x.1.place ≡ c.place + len)
  unfolding ended
  ended_in kind len c x i small some e =
      bind_then (form kind len c) (λ y. cond (eqb y.1.place (c.place + len)) (Ok y) (Err IncorrectDataLength)) x _ e (λ y e0 q0.
      elim (branch (eqb y.1.place (c.place + len)) (Ok y) (Err IncorrectDataLength) x q0) [
        | inr bad ↦ absurd (err_is_not _ x bad.1)
        | inl good ↦
            let stop : y.1.place ≡ c.place + len = eq_of _ _ good.0 in
            (gave bytes a kind c y x good.1 (form_in bytes a kind len c y i small some e0 stop), ap (λ (z : RData × Cursor). z.1.place) (sym (ok_is y x good.1)) ∙ stop)
      ])

  -- data of no bytes are those of an update
  updated_in : (kind len : ℕ) (c : Cursor) (x : RData × Cursor) → In bytes c → kind < 2 ^ 16 → (eqb len 0 && not (eqb kind 41) && not (eqb kind 250)) ≡ true → wrap {A = RData × Cursor} (rdata.Update0 kind, c) ≡ Ok x → Gave bytes a kind c x × (x.1.place ≡ c.place + len)
  unfolding Gave
  updated_in kind len c x i small none e =
      let t = first_true _ _ _ none in
      let y : RData × Cursor = (rdata.Update0 kind, c) in
      let zero_len : len ≡ 0 = eq_of len 0 t.0 in
      let place : x.1.place ≡ c.place = ap (λ (z : RData × Cursor). z.1.place) (sym (ok_is y x e)) in
      (gave bytes a kind c y x e ((refl, (small, (ne_of kind 41 (not_true _ t.1), ne_of kind 250 (not_true _ t.2)))), refl, i), omega arith)

  -- data of a type and of so many bytes
  pub data_in : (kind len : ℕ) (c : Cursor) (x : RData × Cursor) → In bytes c → kind < 2 ^ 16 → record_data kind len c ≡ Ok x → Gave bytes a kind c x × (x.1.place ≡ c.place + len)
  unfolding record_data ended
  data_in kind len c x i small e =
      let update = eqb len 0 && not (eqb kind 41) && not (eqb kind 250) in
      elim (branch (ltb (length (rest_of c)) len) (Err InsufficientBytes) (cond update (Ok (rdata.Update0 kind, c)) (cond (eqb len 0 && eqb kind 250) (Err IncorrectDataLength) (ended kind len c))) x e) [
        | inl bad ↦ absurd (err_is_not _ x bad.1)
        | inr h ↦ elim (branch update (Ok (rdata.Update0 kind, c)) (cond (eqb len 0 && eqb kind 250) (Err IncorrectDataLength) (ended kind len c)) x h.1) [
          | inl none ↦ updated_in kind len c x i small none.0 none.1
          | inr used ↦ elim (branch (eqb len 0 && eqb kind 250) (Err IncorrectDataLength) (ended kind len c) x used.1) [
            | inl bad ↦ absurd (err_is_not _ x bad.1)
            | inr signed ↦ ended_in kind len c x i small (has_byte kind len used.0 signed.0) signed.1
          ]
        ]
      ]

  -- ---- records

  -- a record of these parts
  record_of : DomainName → ℕ → ℕ → RData → Record RData
  record_of n class ttl d = record { name = n; dns_class = class; ttl = ttl; rdata = d; proof = Indeterminate }

  -- what is read, where it stands
  abbrev Whole : Cursor → Record RData × Cursor → Type 0
  Whole c x = RecordAt bytes c.place x.0 x.1.place × (x.1.bytes ≡ bytes)

  record_parts : (c : Cursor) (owner : DomainName × Cursor) (kind class ttl len : ℕ × Cursor) (d : RData × Cursor) → c.bytes ≡ bytes → name c ≡ Ok owner → number w16 owner.1 ≡ Ok kind → number w16 kind.1 ≡ Ok class → number w32 class.1 ≡ Ok ttl → number w16 ttl.1 ≡ Ok len → record_data kind.0 len.0 len.1 ≡ Ok d
      → Whole c (record_of owner.0 class.0 ttl.0 d.0, d.1)
  unfolding record_of Gave
  record_parts c owner kind class ttl len d i e0 e1 e2 e3 e4 e5 =
      let at0 = name_in bytes a c owner i e0 in
      let at1 = number16_in bytes a owner.1 kind at0.1 e1 in
      let at2 = number16_in bytes a kind.1 class at1.1 e2 in
      let at3 = number32_in bytes a class.1 ttl at2.1 e3 in
      let at4 = number16_in bytes a ttl.1 len at3.1 e4 in
      let at5 = data_in kind.0 len.0 len.1 d at4.1 at1.2 e5 in
      let t3 = join_octets bytes class.1.place ttl.1.place len.1.place (to_be_bytes w32 ttl.0) (to_be_bytes w16 len.0) at3.0 at4.0 in
      let t2 = join_octets bytes kind.1.place class.1.place len.1.place (to_be_bytes w16 class.0) (to_be_bytes w32 ttl.0 ++ to_be_bytes w16 len.0) at2.0 t3 in
      let t1 = join_octets bytes owner.1.place kind.1.place len.1.place (to_be_bytes w16 kind.0) (to_be_bytes w16 class.0 ++ to_be_bytes w32 ttl.0 ++ to_be_bytes w16 len.0) at1.0 t2 in
      let start : len.1.place ≡ owner.1.place + 10 = t1.after in (
        record {
          middle = owner.1.place;
          len = len.0;
          owner = at0.0;
          name = at0.2;
          fixed = subst (λ (k : ℕ). BytesAt bytes owner.1.place (to_be_bytes w16 k ++ to_be_bytes w16 class.0 ++ to_be_bytes w32 ttl.0 ++ to_be_bytes w16 len.0)) (sym at5.0.1) t1.stands;
          class = at2.2;
          ttl = at3.2;
          small = at4.2;
          rdata = subst (λ (p : ℕ). DataRead bytes p d.0 d.1.place) start at5.0.0;
          counted = omega (arith, start, at5.1);
          within = at5.0.2.1;
          proof = refl;
        },
        at5.0.2.0,
      )

  pub resource_in : (c : Cursor) (x : Record RData × Cursor) → c.bytes ≡ bytes → resource c ≡ Ok x → RecordAt bytes c.place x.0 x.1.place × (x.1.bytes ≡ bytes)
  unfolding resource record_of
  resource_in c x i e =
      bind_then (name c) (λ n. number w16 n.1 >>= λ k. number w16 k.1 >>= λ s. number w32 s.1 >>= λ t. number w16 t.1 >>= λ l. record_data k.0 l.0 l.1 >>= λ d. Ok (record_of n.0 s.0 t.0 d.0, d.1)) x _ e (λ n e0 q0.
      bind_then (number w16 n.1) (λ k. number w16 k.1 >>= λ s. number w32 s.1 >>= λ t. number w16 t.1 >>= λ l. record_data k.0 l.0 l.1 >>= λ d. Ok (record_of n.0 s.0 t.0 d.0, d.1)) x _ q0 (λ k e1 q1.
      bind_then (number w16 k.1) (λ s. number w32 s.1 >>= λ t. number w16 t.1 >>= λ l. record_data k.0 l.0 l.1 >>= λ d. Ok (record_of n.0 s.0 t.0 d.0, d.1)) x _ q1 (λ s e2 q2.
      bind_then (number w32 s.1) (λ t. number w16 t.1 >>= λ l. record_data k.0 l.0 l.1 >>= λ d. Ok (record_of n.0 s.0 t.0 d.0, d.1)) x _ q2 (λ t e3 q3.
      bind_then (number w16 t.1) (λ l. record_data k.0 l.0 l.1 >>= λ d. Ok (record_of n.0 s.0 t.0 d.0, d.1)) x _ q3 (λ l e4 q4.
      bind_then (record_data k.0 l.0 l.1) (λ d. Ok (record_of n.0 s.0 t.0 d.0, d.1)) x _ q4 (λ d e5 q5.
      let y : Record RData × Cursor = (record_of n.0 s.0 t.0 d.0, d.1) in
      subst (λ (z : Record RData × Cursor). Whole c z) (ok_is y x q5) (record_parts c n k s t l d i e0 e1 e2 e3 e4 e5)))))))

  -- ---- questions

  -- a question of these parts
  query_of : DomainName → ℕ → ℕ → Query
  query_of n kind class = record { name = n; query_type = kind; query_class = class }

  -- A question that is read stands there.
  pub question_in : (c : Cursor) (x : Query × Cursor) → c.bytes ≡ bytes → question c ≡ Ok x → QuestionAt 0 bytes c.place x.0 x.1.place × IsFormedQuestion x.0 × (x.1.bytes ≡ bytes)
  unfolding question query_of
  question_in c x i e =
      bind_then (name c) (λ n. number w16 n.1 >>= λ k. number w16 k.1 >>= λ s. Ok (query_of n.0 k.0 s.0, s.1)) x _ e (λ n e0 q0.
      bind_then (number w16 n.1) (λ k. number w16 k.1 >>= λ s. Ok (query_of n.0 k.0 s.0, s.1)) x _ q0 (λ k e1 q1.
      bind_then (number w16 k.1) (λ s. Ok (query_of n.0 k.0 s.0, s.1)) x _ q1 (λ s e2 q2.
      let at0 = name_in bytes a c n i e0 in
      let at1 = number16_in bytes a n.1 k at0.1 e1 in
      let at2 = number16_in bytes a k.1 s at1.1 e2 in
      let t = join_octets bytes n.1.place k.1.place s.1.place (to_be_bytes w16 k.0) (to_be_bytes w16 s.0) at1.0 at2.0 in
      let y : Query × Cursor = (query_of n.0 k.0 s.0, s.1) in
      subst (λ (z : Query × Cursor). QuestionAt 0 bytes c.place z.0 z.1.place × IsFormedQuestion z.0 × (z.1.bytes ≡ bytes)) (ok_is y x q2)
      (record { middle = n.1.place; name = at0.0; fields = t.stands; after = t.after }, record { name = at0.2; query_type = at1.2; query_class = at2.2 }, at2.1.0))))
