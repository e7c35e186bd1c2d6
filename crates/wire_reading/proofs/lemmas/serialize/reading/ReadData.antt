-- Data that are read stand in the form of their type.
use Rattle.std.proofs.Common.{◌≡◌, ◌≢◌, inl, inr, ℕ, ◌+◌, ◌-◌, ◌*◌, ◌/◌, ◌%◌, ◌^◌, ◌<◌, List, [], ◌++◌, length, cond, eqb, Ok, refl, sym, ap, subst, ◌∙◌, arith, append_assoc}
use Rattle.std.specs.List.{flat_map}
use Rattle.std.specs.Int.{w16, w32, to_be_bytes}
use Rattle.std.specs.Net.Addr.{ipv6_octets}
use Rattle.std.proofs.lemmas.Nat.{div-mul-add, mod-mul-add}
use Rattle.wire_messages.specs.rr.Addresses.{ipv4_of, ipv6_of, IsIpv6}
use Rattle.wire_names.specs.serialize.layout.Bytes.{AreBytes}
use Rattle.wire_messages.specs.serialize.reading.Cursor.{Cursor}
use Rattle.wire_names.specs.rr.domain.DomainName.{DomainName}
use Rattle.wire_messages.specs.serialize.layout.NameLayout.{NameAt, IsFullyQualified}
use Rattle.wire_messages.specs.serialize.reading.NameReading.{name}
use Rattle.wire_messages.specs.serialize.reading.Reading.{Read, ◌>>=◌, number, octets}
use Rattle.wire_messages.specs.rr.RecordData.{character_string, type_of}
use Rattle.wire_messages.specs.serialize.layout.RecordLayout.{OctetsAt, DataRead}
use Rattle.wire_messages.specs.serialize.reading.RecordReading.{soa, mx, tsig, form, strings_until, options_of, counted_octets}
use Rattle.wire_messages.specs.declared.rr.rdata.RData.{RData}
use Rattle.wire_messages.specs.declared.rr.rdata.RData.TheVariants as rdata
use Rattle.wire_messages.proofs.lemmas.rr.AddressOctets.{as_segments}
use Rattle.wire_reading.proofs.lemmas.serialize.reading.OptionSteps.{options_held}
use Rattle.wire_reading.proofs.lemmas.serialize.reading.ReadFields.{bind_then, branch, eq_of, ne_of, stands_bytes, In, join_octets, number16_in, number32_in, octets_in, counted_in, name_in, strings_in}
use Rattle.wire_messages.proofs.lemmas.serialize.reading.StringSteps.{ok_is, wrap}

module _ (bytes : List ℕ) (a : AreBytes bytes) where
  -- what is read of data of a type, and that they are of it
  unfoldable pub Gave : ℕ → Cursor → RData × Cursor → Type 0
  Gave kind c x = DataRead bytes c.place x.0 x.1.place × (type_of x.0 ≡ kind) × In bytes x.1

  -- what is read is one
  pub gave : (kind : ℕ) (c : Cursor) (y x : RData × Cursor) → wrap y ≡ Ok x → Gave kind c y → Gave kind c x
  gave kind c y x e g = subst (λ (z : RData × Cursor). Gave kind c z) (ok_is y x e) g

  -- ---- a mail exchange

  -- a mail exchange that was read stands there
  pub mx_in : (c : Cursor) (x : RData × Cursor) → In bytes c → mx c ≡ Ok x → Gave 15 c x
  unfolding mx Gave
  mx_in c x i e =
      bind_then (number w16 c) (λ p. name p.1 >>= λ n. Ok (rdata.MX (record { preference = p.0; exchange = n.0 }), n.1)) x _ e (λ p e1 r1.
      bind_then (name p.1) (λ n. Ok (rdata.MX (record { preference = p.0; exchange = n.0 }), n.1)) x _ r1 (λ n e2 r2.
      let at = number16_in bytes a c p i e1 in
      let more = name_in bytes a p.1 n at.1.0 e2 in
      gave 15 c (rdata.MX (record { preference = p.0; exchange = n.0 }), n.1) x r2 ((record { middle = p.1.place; preference = at.0; exchange = more.0 }, (at.2, more.2)), refl, more.1)))

  -- ---- the start of a zone

  -- the start of a zone of these parts
  soa_of : DomainName → DomainName → ℕ → ℕ → ℕ → ℕ → ℕ → RData
  soa_of m r v w x y z = rdata.SOA (record { mname = m; rname = r; serial = v; refresh = w; retry = x; expire = y; minimum = z })

  -- five numbers, one behind the other
  numbers_in : (c : Cursor) (v w x y z : ℕ × Cursor) → In bytes c → number w32 c ≡ Ok v → number w32 v.1 ≡ Ok w → number w32 w.1 ≡ Ok x → number w32 x.1 ≡ Ok y → number w32 y.1 ≡ Ok z
      → OctetsAt 0 bytes c.place (to_be_bytes w32 v.0 ++ to_be_bytes w32 w.0 ++ to_be_bytes w32 x.0 ++ to_be_bytes w32 y.0 ++ to_be_bytes w32 z.0) z.1.place × In bytes z.1
      × (v.0 < 2 ^ 32) × (w.0 < 2 ^ 32) × (x.0 < 2 ^ 32) × (y.0 < 2 ^ 32) × (z.0 < 2 ^ 32)
  numbers_in c v w x y z i e1 e2 e3 e4 e5 =
      let at1 = number32_in bytes a c v i e1 in
      let at2 = number32_in bytes a v.1 w at1.1 e2 in
      let at3 = number32_in bytes a w.1 x at2.1 e3 in
      let at4 = number32_in bytes a x.1 y at3.1 e4 in
      let at5 = number32_in bytes a y.1 z at4.1 e5 in
      let t5 = join_octets bytes x.1.place y.1.place z.1.place (to_be_bytes w32 y.0) (to_be_bytes w32 z.0) at4.0 at5.0 in
      let t4 = join_octets bytes w.1.place x.1.place z.1.place (to_be_bytes w32 x.0) (to_be_bytes w32 y.0 ++ to_be_bytes w32 z.0) at3.0 t5 in
      let t3 = join_octets bytes v.1.place w.1.place z.1.place (to_be_bytes w32 w.0) (to_be_bytes w32 x.0 ++ to_be_bytes w32 y.0 ++ to_be_bytes w32 z.0) at2.0 t4 in
      (join_octets bytes c.place v.1.place z.1.place (to_be_bytes w32 v.0) (to_be_bytes w32 w.0 ++ to_be_bytes w32 x.0 ++ to_be_bytes w32 y.0 ++ to_be_bytes w32 z.0) at1.0 t3, at5.1, at1.2, at2.2, at3.2, at4.2, at5.2)

  -- its parts, one behind the other
  soa_parts : (c : Cursor) (m r : DomainName × Cursor) (v w x y z : ℕ × Cursor) → In bytes c → name c ≡ Ok m → name m.1 ≡ Ok r
      → number w32 r.1 ≡ Ok v → number w32 v.1 ≡ Ok w → number w32 w.1 ≡ Ok x → number w32 x.1 ≡ Ok y → number w32 y.1 ≡ Ok z → Gave 6 c (soa_of m.0 r.0 v.0 w.0 x.0 y.0 z.0, z.1)
  unfolding Gave soa_of
  soa_parts c m r v w x y z i e0 f0 e1 e2 e3 e4 e5 =
      let at_m = name_in bytes a c m i.0 e0 in
      let at_r = name_in bytes a m.1 r at_m.1.0 f0 in
      let n = numbers_in r.1 v w x y z at_r.1 e1 e2 e3 e4 e5 in
      ((record { one = m.1.place; two = r.1.place; mname = at_m.0; rname = at_r.0; numbers = n.0 }, ((n.2, n.3, n.4, n.5, n.6), (at_m.2, at_r.2))), refl, n.1)

  -- the start of a zone that was read stands there
  pub soa_in : (c : Cursor) (x : RData × Cursor) → In bytes c → soa c ≡ Ok x → Gave 6 c x
  unfolding soa soa_of
  soa_in c x i e =
      bind_then (name c) (λ m. name m.1 >>= λ r. number w32 r.1 >>= λ n1. number w32 n1.1 >>= λ n2. number w32 n2.1 >>= λ n3. number w32 n3.1 >>= λ n4. number w32 n4.1 >>= λ n5. Ok (soa_of m.0 r.0 n1.0 n2.0 n3.0 n4.0 n5.0, n5.1)) x _ e (λ m e0 r0.
      bind_then (name m.1) (λ r. number w32 r.1 >>= λ n1. number w32 n1.1 >>= λ n2. number w32 n2.1 >>= λ n3. number w32 n3.1 >>= λ n4. number w32 n4.1 >>= λ n5. Ok (soa_of m.0 r.0 n1.0 n2.0 n3.0 n4.0 n5.0, n5.1)) x _ r0 (λ r f0 q0.
      bind_then (number w32 r.1) (λ n1. number w32 n1.1 >>= λ n2. number w32 n2.1 >>= λ n3. number w32 n3.1 >>= λ n4. number w32 n4.1 >>= λ n5. Ok (soa_of m.0 r.0 n1.0 n2.0 n3.0 n4.0 n5.0, n5.1)) x _ q0 (λ n1 e1 q1.
      bind_then (number w32 n1.1) (λ n2. number w32 n2.1 >>= λ n3. number w32 n3.1 >>= λ n4. number w32 n4.1 >>= λ n5. Ok (soa_of m.0 r.0 n1.0 n2.0 n3.0 n4.0 n5.0, n5.1)) x _ q1 (λ n2 e2 q2.
      bind_then (number w32 n2.1) (λ n3. number w32 n3.1 >>= λ n4. number w32 n4.1 >>= λ n5. Ok (soa_of m.0 r.0 n1.0 n2.0 n3.0 n4.0 n5.0, n5.1)) x _ q2 (λ n3 e3 q3.
      bind_then (number w32 n3.1) (λ n4. number w32 n4.1 >>= λ n5. Ok (soa_of m.0 r.0 n1.0 n2.0 n3.0 n4.0 n5.0, n5.1)) x _ q3 (λ n4 e4 q4.
      bind_then (number w32 n4.1) (λ n5. Ok (soa_of m.0 r.0 n1.0 n2.0 n3.0 n4.0 n5.0, n5.1)) x _ q4 (λ n5 e5 q5.
      gave 6 c (soa_of m.0 r.0 n1.0 n2.0 n3.0 n4.0 n5.0, n5.1) x q5 (soa_parts c m r n1 n2 n3 n4 n5 i e0 f0 e1 e2 e3 e4 e5))))))))

  -- ---- a signature

  -- a signature of these parts
  tsig_of : DomainName → ℕ → ℕ → ℕ → List ℕ → ℕ → ℕ → List ℕ → RData
  tsig_of n high low fudge mac oid error other = rdata.TSIG (record { algorithm = n; time = high * 2 ^ 32 + low; fudge = fudge; mac = mac; oid = oid; error = error; other = other })

  -- the same octets, grouped from the left
  regrouped : (s t u v mac w x y other : List ℕ) → s ++ (t ++ (u ++ ((v ++ mac) ++ (w ++ (x ++ (y ++ other)))))) ≡ s ++ t ++ u ++ v ++ mac ++ w ++ x ++ y ++ other
  regrouped s t u v mac w x y other = simp append_assoc

  -- the fields behind the algorithm
  pub tsig_numbers : (c : Cursor) (h l f : ℕ × Cursor) (m : List ℕ × Cursor) (o e : ℕ × Cursor) (t : List ℕ × Cursor) → In bytes c → number w16 c ≡ Ok h → number w32 h.1 ≡ Ok l → number w16 l.1 ≡ Ok f → counted_octets f.1 ≡ Ok m
      → number w16 m.1 ≡ Ok o → number w16 o.1 ≡ Ok e → counted_octets e.1 ≡ Ok t
      → OctetsAt 0 bytes c.place (to_be_bytes w16 h.0 ++ to_be_bytes w32 l.0 ++ to_be_bytes w16 f.0 ++ to_be_bytes w16 (length m.0) ++ m.0 ++ to_be_bytes w16 o.0 ++ to_be_bytes w16 e.0 ++ to_be_bytes w16 (length t.0) ++ t.0) t.1.place × In bytes t.1
      × (h.0 < 2 ^ 16) × (l.0 < 2 ^ 32) × (f.0 < 2 ^ 16) × (length m.0 < 2 ^ 16) × (o.0 < 2 ^ 16) × (e.0 < 2 ^ 16) × (length t.0 < 2 ^ 16)
  tsig_numbers c h l f m o e t i e1 e2 e3 e4 e5 e6 e7 =
      let at1 = number16_in bytes a c h i e1 in
      let at2 = number32_in bytes a h.1 l at1.1 e2 in
      let at3 = number16_in bytes a l.1 f at2.1 e3 in
      let at4 = counted_in bytes a f.1 m at3.1 e4 in
      let at5 = number16_in bytes a m.1 o at4.1 e5 in
      let at6 = number16_in bytes a o.1 e at5.1 e6 in
      let at7 = counted_in bytes a e.1 t at6.1 e7 in
      let t6 = join_octets bytes o.1.place e.1.place t.1.place (to_be_bytes w16 e.0) _ at6.0 at7.0 in
      let t5 = join_octets bytes m.1.place o.1.place t.1.place (to_be_bytes w16 o.0) _ at5.0 t6 in
      let t4 = join_octets bytes f.1.place m.1.place t.1.place (to_be_bytes w16 (length m.0) ++ m.0) _ at4.0 t5 in
      let t3 = join_octets bytes l.1.place f.1.place t.1.place (to_be_bytes w16 f.0) _ at3.0 t4 in
      let t2 = join_octets bytes h.1.place l.1.place t.1.place (to_be_bytes w32 l.0) _ at2.0 t3 in
      let t1 = join_octets bytes c.place h.1.place t.1.place (to_be_bytes w16 h.0) _ at1.0 t2 in
      (subst (λ (s : List ℕ). OctetsAt 0 bytes c.place s t.1.place) (regrouped (to_be_bytes w16 h.0) (to_be_bytes w32 l.0) (to_be_bytes w16 f.0) (to_be_bytes w16 (length m.0)) m.0 (to_be_bytes w16 o.0) (to_be_bytes w16 e.0) (to_be_bytes w16 (length t.0)) t.0) t1, at7.1, at1.2, at2.2, at3.2, at4.2, at5.2, at6.2, at7.2)

  -- its parts, one behind the other
  tsig_parts : (c : Cursor) (n : DomainName × Cursor) (h l f : ℕ × Cursor) (m : List ℕ × Cursor) (o e : ℕ × Cursor) (t : List ℕ × Cursor) → In bytes c → name c ≡ Ok n → number w16 n.1 ≡ Ok h → number w32 h.1 ≡ Ok l → number w16 l.1 ≡ Ok f
      → counted_octets f.1 ≡ Ok m → number w16 m.1 ≡ Ok o → number w16 o.1 ≡ Ok e → counted_octets e.1 ≡ Ok t → Gave 250 c (tsig_of n.0 h.0 l.0 f.0 m.0 o.0 e.0 t.0, t.1)
  unfolding Gave tsig_of
  tsig_parts c n h l f m o e t i e0 e1 e2 e3 e4 e5 e6 e7 =
      let at_n = name_in bytes a c n i.0 e0 in
      let s = tsig_numbers n.1 h l f m o e t at_n.1 e1 e2 e3 e4 e5 e6 e7 in
      let time = h.0 * 2 ^ 32 + l.0 in
      let high : h.0 ≡ time / 2 ^ 32 = sym (div-mul-add h.0 (2 ^ 32) l.0 s.3) in
      let low : l.0 ≡ time % 2 ^ 32 = sym (mod-mul-add h.0 (2 ^ 32) l.0 s.3) in
      let rest = to_be_bytes w16 f.0 ++ to_be_bytes w16 (length m.0) in
      let fields : OctetsAt 0 bytes n.1.place (to_be_bytes w16 (time / 2 ^ 32) ++ to_be_bytes w32 (time % 2 ^ 32) ++ to_be_bytes w16 f.0 ++ to_be_bytes w16 (length m.0) ++ m.0 ++ to_be_bytes w16 o.0 ++ to_be_bytes w16 e.0 ++ to_be_bytes w16 (length t.0) ++ t.0) t.1.place =
      subst (λ (k : ℕ). OctetsAt 0 bytes n.1.place (to_be_bytes w16 (time / 2 ^ 32) ++ to_be_bytes w32 k ++ to_be_bytes w16 f.0 ++ to_be_bytes w16 (length m.0) ++ m.0 ++ to_be_bytes w16 o.0 ++ to_be_bytes w16 e.0 ++ to_be_bytes w16 (length t.0) ++ t.0) t.1.place) low
      (subst (λ (k : ℕ). OctetsAt 0 bytes n.1.place (to_be_bytes w16 k ++ to_be_bytes w32 l.0 ++ to_be_bytes w16 f.0 ++ to_be_bytes w16 (length m.0) ++ m.0 ++ to_be_bytes w16 o.0 ++ to_be_bytes w16 e.0 ++ to_be_bytes w16 (length t.0) ++ t.0) t.1.place) high s.0) in
      ((record { middle = n.1.place; algorithm = at_n.0; fields = fields }, ((omega (arith, s.2, s.3), s.4, s.5, s.6, s.7, s.8), at_n.2)), refl, s.1)

  -- a signature that was read stands there
  pub tsig_in : (c : Cursor) (x : RData × Cursor) → In bytes c → tsig c ≡ Ok x → Gave 250 c x
  unfolding tsig tsig_of
  tsig_in c x i e =
      bind_then (name c) (λ n. number w16 n.1 >>= λ h. number w32 h.1 >>= λ l. number w16 l.1 >>= λ f. counted_octets f.1 >>= λ m. number w16 m.1 >>= λ o. number w16 o.1 >>= λ r. counted_octets r.1 >>= λ t. Ok (tsig_of n.0 h.0 l.0 f.0 m.0 o.0 r.0 t.0, t.1)) x _ e (λ n e0 q0.
      bind_then (number w16 n.1) (λ h. number w32 h.1 >>= λ l. number w16 l.1 >>= λ f. counted_octets f.1 >>= λ m. number w16 m.1 >>= λ o. number w16 o.1 >>= λ r. counted_octets r.1 >>= λ t. Ok (tsig_of n.0 h.0 l.0 f.0 m.0 o.0 r.0 t.0, t.1)) x _ q0 (λ h e1 q1.
      bind_then (number w32 h.1) (λ l. number w16 l.1 >>= λ f. counted_octets f.1 >>= λ m. number w16 m.1 >>= λ o. number w16 o.1 >>= λ r. counted_octets r.1 >>= λ t. Ok (tsig_of n.0 h.0 l.0 f.0 m.0 o.0 r.0 t.0, t.1)) x _ q1 (λ l e2 q2.
      bind_then (number w16 l.1) (λ f. counted_octets f.1 >>= λ m. number w16 m.1 >>= λ o. number w16 o.1 >>= λ r. counted_octets r.1 >>= λ t. Ok (tsig_of n.0 h.0 l.0 f.0 m.0 o.0 r.0 t.0, t.1)) x _ q2 (λ f e3 q3.
      bind_then (counted_octets f.1) (λ m. number w16 m.1 >>= λ o. number w16 o.1 >>= λ r. counted_octets r.1 >>= λ t. Ok (tsig_of n.0 h.0 l.0 f.0 m.0 o.0 r.0 t.0, t.1)) x _ q3 (λ m e4 q4.
      bind_then (number w16 m.1) (λ o. number w16 o.1 >>= λ r. counted_octets r.1 >>= λ t. Ok (tsig_of n.0 h.0 l.0 f.0 m.0 o.0 r.0 t.0, t.1)) x _ q4 (λ o e5 q5.
      bind_then (number w16 o.1) (λ r. counted_octets r.1 >>= λ t. Ok (tsig_of n.0 h.0 l.0 f.0 m.0 o.0 r.0 t.0, t.1)) x _ q5 (λ r e6 q6.
      bind_then (counted_octets r.1) (λ t. Ok (tsig_of n.0 h.0 l.0 f.0 m.0 o.0 r.0 t.0, t.1)) x _ q6 (λ t e7 q7.
      gave 250 c (tsig_of n.0 h.0 l.0 f.0 m.0 o.0 r.0 t.0, t.1) x q7 (tsig_parts c n h l f m o r t i e0 e1 e2 e3 e4 e5 e6 e7)))))))))

  -- ---- names, octets and strings

  -- data that are a name stand where it was read
  named_in : (kind : ℕ) (k : DomainName → RData) (c : Cursor) (x : RData × Cursor) → In bytes c → (name c >>= λ n. Ok (k n.0, n.1)) ≡ Ok x
      → ((n : DomainName) (next : ℕ) → NameAt 0 bytes c.place n next → IsFullyQualified n → DataRead bytes c.place (k n) next × (type_of (k n) ≡ kind)) → Gave kind c x
  unfolding Gave
  named_in kind k c x i e stands =
      bind_then (name c) (λ n. let z : Read RData = Ok (k n.0, n.1) in z) x _ e (λ n e0 q0.
      let at = name_in bytes a c n i.0 e0 in
      let s = stands n.0 n.1.place at.0 at.2 in
      gave kind c (k n.0, n.1) x q0 (s.0, s.1, at.1))

  -- data that are octets stand where these were read
  plain_in : (kind len : ℕ) (k : List ℕ → RData) (c : Cursor) (x : RData × Cursor) → In bytes c → (octets len c >>= λ o. Ok (k o.0, o.1)) ≡ Ok x
      → ((o : List ℕ) (next : ℕ) → length o ≡ len → AreBytes o → OctetsAt 0 bytes c.place o next → DataRead bytes c.place (k o) next × (type_of (k o) ≡ kind)) → Gave kind c x
  unfolding Gave
  plain_in kind len k c x i e stands =
      bind_then (octets len c) (λ o. let z : Read RData = Ok (k o.0, o.1) in z) x _ e (λ o e0 q0.
      let at = octets_in bytes a len c o i e0 in
      let s = stands o.0 o.1.place at.2 (stands_bytes bytes c.place o.0 a at.0.stands) at.0 in
      gave kind c (k o.0, o.1) x q0 (s.0, s.1, at.1))

  -- sixteen octets as an address
  aaaa_is : (o : List ℕ) (place next : ℕ) → length o ≡ 16 → AreBytes o → OctetsAt 0 bytes place o next → OctetsAt 0 bytes place (ipv6_octets (ipv6_of o)) next × IsIpv6 (ipv6_of o)
  aaaa_is o place next len b at =
      let s = as_segments o 8 (omega arith) b in
      (subst (λ (t : List ℕ). OctetsAt 0 bytes place t next) (sym s.back) at, record { eight = s.len; each = s.each })

  -- strings that were read up to their end stand there
  texts_in : (len : ℕ) (c : Cursor) (x : RData × Cursor) → In bytes c → 0 < len → (strings_until (c.place + len) c >>= λ t. Ok (rdata.TXT t.0, t.1)) ≡ Ok x → x.1.place ≡ c.place + len → Gave 16 c x
  unfolding Gave strings_until
  texts_in len c x i lt e stop =
      bind_then (strings_until (c.place + len) c) (λ t. let z : Read RData = Ok (rdata.TXT t.0, t.1) in z) x _ e (λ t e0 q0.
      let at = strings_in bytes a (c.place + len - c.place) (c.place + len) c t i e0 in
      let y : RData × Cursor = (rdata.TXT t.0, t.1) in
      let place : t.1.place ≡ c.place + len = ap (λ (z : RData × Cursor). z.1.place) (ok_is y x q0) ∙ stop in
      gave 16 c y x q0 ((at.0, (at.2, λ none. omega (arith, at.0.after, ap (λ (l : List (List ℕ)). length (flat_map character_string l)) none))), refl, at.1))

  -- ---- the types

  -- the data of one type, or of the others
  stage : (k kind : ℕ) (p q : Read RData) (c : Cursor) (x : RData × Cursor) → cond (eqb kind k) p q ≡ Ok x → ((kind ≡ k) → p ≡ Ok x → Gave k c x) → ((kind ≢ k) → q ≡ Ok x → Gave kind c x) → Gave kind c x
  stage k kind p q c x e this others =
      elim (branch (eqb kind k) p q x e) [
        | inl h ↦ subst (λ (n : ℕ). Gave n c x) (sym (eq_of kind k h.0)) (this (eq_of kind k h.0) h.1)
        | inr h ↦ others (ne_of kind k h.0) h.1
      ]

  -- the types behind TSIG
  abbrev null_or : ℕ → ℕ → Cursor → Read RData
  null_or kind len c = cond (eqb kind 10) (octets len c >>= λ o. Ok (rdata.NULL o.0, o.1)) (octets len c >>= λ o. Ok (rdata.Unknown kind o.0, o.1))

  -- the types behind OPT
  abbrev tsig_or : ℕ → ℕ → Cursor → Read RData
  tsig_or kind len c = cond (eqb kind 250) (tsig c) (null_or kind len c)

  -- the types behind TXT
  abbrev opt_or : ℕ → ℕ → Cursor → Read RData
  opt_or kind len c = cond (eqb kind 41) (octets len c >>= λ o. Ok (rdata.OPT (options_of o.0), o.1)) (tsig_or kind len c)

  -- the types behind SOA
  abbrev txt_or : ℕ → ℕ → Cursor → Read RData
  txt_or kind len c = cond (eqb kind 16) (strings_until (c.place + len) c >>= λ t. Ok (rdata.TXT t.0, t.1)) (opt_or kind len c)

  -- the types behind MX
  abbrev soa_or : ℕ → ℕ → Cursor → Read RData
  soa_or kind len c = cond (eqb kind 6) (soa c) (txt_or kind len c)

  -- the types behind PTR
  abbrev mx_or : ℕ → ℕ → Cursor → Read RData
  mx_or kind len c = cond (eqb kind 15) (mx c) (soa_or kind len c)

  -- the types behind CNAME
  abbrev ptr_or : ℕ → ℕ → Cursor → Read RData
  ptr_or kind len c = cond (eqb kind 12) (name c >>= λ n. Ok (rdata.PTR n.0, n.1)) (mx_or kind len c)

  -- the types behind NS
  abbrev cname_or : ℕ → ℕ → Cursor → Read RData
  cname_or kind len c = cond (eqb kind 5) (name c >>= λ n. Ok (rdata.CNAME n.0, n.1)) (ptr_or kind len c)

  -- the types behind AAAA
  abbrev ns_or : ℕ → ℕ → Cursor → Read RData
  ns_or kind len c = cond (eqb kind 2) (name c >>= λ n. Ok (rdata.NS n.0, n.1)) (cname_or kind len c)

  -- the types behind A
  abbrev aaaa_or : ℕ → ℕ → Cursor → Read RData
  aaaa_or kind len c = cond (eqb kind 28) (octets 16 c >>= λ o. Ok (rdata.AAAA (ipv6_of o.0), o.1)) (ns_or kind len c)

  -- some data are none of an update
  not_empty : (o : List ℕ) (len : ℕ) → length o ≡ len → 0 < len → o ≢ []
  not_empty o len e lt none = omega (arith, ap length none)

  -- data that the form of their type reads, up to where their length says
  pub form_in : (kind len : ℕ) (c : Cursor) (x : RData × Cursor) → In bytes c → kind < 2 ^ 16 → ((kind ≢ 41) → 0 < len) → form kind len c ≡ Ok x → x.1.place ≡ c.place + len → Gave kind c x
  unfolding form
  form_in kind len c x i small some e stop =
      stage 1 kind (octets 4 c >>= λ o. Ok (rdata.A (ipv4_of o.0), o.1)) (aaaa_or kind len c) c x e (λ k h. plain_in 1 4 (λ o. rdata.A (ipv4_of o)) c x i h (λ o next s b t. ((t, (record { four = s }, tt)), refl))) (λ n1 e1.
      stage 28 kind (octets 16 c >>= λ o. Ok (rdata.AAAA (ipv6_of o.0), o.1)) (ns_or kind len c) c x e1 (λ k h. plain_in 28 16 (λ o. rdata.AAAA (ipv6_of o)) c x i h (λ o next s b t. let f = aaaa_is o c.place next s b t in ((f.0, (f.1, tt)), refl))) (λ n28 e28.
      stage 2 kind (name c >>= λ n. Ok (rdata.NS n.0, n.1)) (cname_or kind len c) c x e28 (λ k h. named_in 2 rdata.NS c x i h (λ n next t q. ((t, (tt, q)), refl))) (λ n2 e2.
      stage 5 kind (name c >>= λ n. Ok (rdata.CNAME n.0, n.1)) (ptr_or kind len c) c x e2 (λ k h. named_in 5 rdata.CNAME c x i h (λ n next t q. ((t, (tt, q)), refl))) (λ n5 e5.
      stage 12 kind (name c >>= λ n. Ok (rdata.PTR n.0, n.1)) (mx_or kind len c) c x e5 (λ k h. named_in 12 rdata.PTR c x i h (λ n next t q. ((t, (tt, q)), refl))) (λ n12 e12.
      stage 15 kind (mx c) (soa_or kind len c) c x e12 (λ k h. mx_in c x i h) (λ n15 e15.
      stage 6 kind (soa c) (txt_or kind len c) c x e15 (λ k h. soa_in c x i h) (λ n6 e6.
      stage 16 kind (strings_until (c.place + len) c >>= λ t. Ok (rdata.TXT t.0, t.1)) (opt_or kind len c) c x e6 (λ k h. texts_in len c x i (some (λ q. omega arith)) h stop) (λ n16 e16.
      stage 41 kind (octets len c >>= λ o. Ok (rdata.OPT (options_of o.0), o.1)) (tsig_or kind len c) c x e16 (λ k h. plain_in 41 len (λ o. rdata.OPT (options_of o)) c x i h (λ o next s b t. ((o, t, options_held o b), refl))) (λ n41 e41.
      stage 250 kind (tsig c) (null_or kind len c) c x e41 (λ k h. tsig_in c x i h) (λ n250 e250.
      stage 10 kind (octets len c >>= λ o. Ok (rdata.NULL o.0, o.1)) (octets len c >>= λ o. Ok (rdata.Unknown kind o.0, o.1)) c x e250 (λ k h. plain_in 10 len rdata.NULL c x i h (λ o next s b t. ((t, (tt, not_empty o len s (some n41))), refl))) (λ n10 e10.
      plain_in kind len (λ o. rdata.Unknown kind o) c x i e10 (λ o next s b t. ((t, (small, (not_empty o len s (some n41), n1, n2, n5, n6, n10, n12, n15, n16, n28, n41, n250))), refl)))))))))))))
