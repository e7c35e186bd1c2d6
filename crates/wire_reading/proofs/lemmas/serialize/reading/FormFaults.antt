-- Data have a first fault exactly where reading meets it.
use Rattle.std.proofs.Common.{◌≡◌, ◌≢◌, inl, inr, ℕ, ◌+◌, ◌-◌, ◌<◌, ◌≤◌, List, length, drop, false, cond, eqb, ltb, Result, Ok, Err, refl, sym, ap, subst, ◌∙◌, arith}
use Rattle.std.specs.Int.{w16, w32}
use Rattle.std.specs.Net.Addr.{ipv6_octets}
use Rattle.std.proofs.lemmas.Bool.{cases_eq, cases_lt, lt-ltb, le-ltb, eq-eqb, ne_eqb}
use Rattle.std.proofs.lemmas.List.{length-drop}
use Rattle.wire_messages.specs.rr.Addresses.{ipv4_of, ipv6_of, IsIpv6}
use Rattle.wire_names.specs.serialize.layout.Bytes.{AreBytes}
use Rattle.wire_messages.specs.serialize.reading.Cursor.{Cursor}
use Rattle.wire_names.specs.rr.domain.DomainName.{DomainName}
use Rattle.wire_messages.specs.serialize.layout.NameLayout.{NameAt, NameFault, IsFullyQualified}
use Rattle.wire_messages.specs.serialize.reading.NameReading.{name, qualified}
use Rattle.wire_messages.specs.serialize.reading.Reading.{Read, ◌>>=◌, number, octets}
use Rattle.wire_messages.specs.rr.RecordData.{type_of}
use Rattle.wire_reading.specs.serialize.reading.RecordFaults.{EndsItself, DataFormFault, DataFault}
use Rattle.wire_reading.specs.serialize.reading.RecordFaults.DataFormFault.{ipv4_missing, ipv6_missing, ns_faulty, cname_faulty, ptr_faulty, mx_faulty, soa_faulty, txt_faulty, tsig_faulty, ends_elsewhere}
use Rattle.wire_reading.specs.serialize.reading.RecordFaults.MxFault.{preference_missing, exchange_faulty}
use Rattle.wire_reading.specs.serialize.reading.RecordFaults.SoaFault.{mname_faulty, rname_faulty, numbers_missing}
use Rattle.wire_reading.specs.serialize.reading.RecordFaults.TxtFault.{string_missing, string_too_long}
use Rattle.wire_reading.specs.serialize.reading.RecordFaults.TsigFault.{algorithm_faulty, mac_size_missing, other_len_missing, other_missing}
use Rattle.wire_reading.specs.serialize.reading.RecordFaults.DataFault.{no_octets, form_faulty}
use Rattle.wire_messages.specs.serialize.layout.RecordLayout.{OctetsAt, DataRead}
use Rattle.wire_messages.specs.serialize.reading.RecordReading.{soa, mx, tsig, form, record_data, strings_until, counted_octets, options_of}
use Rattle.wire_names.specs.declared.error.DecodeError.{DecodeError}
use Rattle.wire_names.specs.declared.error.DecodeError.TheVariants.{InsufficientBytes, IncorrectDataLength}
use Rattle.wire_messages.specs.declared.rr.rdata.RData.{RData}
use Rattle.wire_messages.specs.declared.rr.rdata.RData.TheVariants as rdata
use Rattle.wire_messages.proofs.lemmas.rr.AddressOctets.{as_segments}
use Rattle.wire_reading.proofs.lemmas.serialize.reading.TextFaults.{texts_err, texts_past, next_cut, next_past}
use Rattle.wire_reading.proofs.lemmas.serialize.reading.TsigFaults.{tsig_part, size_short, len_short, end_short}
use Rattle.wire_messages.proofs.lemmas.serialize.layout.ByteTexts.{here, read_here, octets_here}
use Rattle.wire_reading.proofs.lemmas.serialize.reading.FaultSteps.{Runs, fail, fail_is, bind_err, branch_err, octets_run, number_run, done_run, then_run, run_err, run_short, run_ok, short_is, name_read, name_err}
use Rattle.wire_reading.proofs.lemmas.serialize.reading.FormIsRead.{aaaa_here, name_here, mx_here, soa_here, tsig_here}
use Rattle.wire_reading.proofs.lemmas.serialize.reading.NameLaws.{fault_name}
use Rattle.wire_reading.proofs.lemmas.serialize.reading.ReadData.{Gave, mx_in, soa_in, tsig_in}
use Rattle.wire_reading.proofs.lemmas.serialize.reading.ReadFields.{bind_then, name_in, ne_of, octets_in, stands_bytes}
use Rattle.wire_messages.proofs.lemmas.serialize.reading.StringSteps.{ok_is}

-- ---- data with their length

-- what is done with data that were read: they are to end where their length says
abbrev pub ended : ℕ → RData × Cursor → Read RData
ended stop x = cond (eqb x.1.place stop) (Ok x) (Err IncorrectDataLength)

-- what is done where the message has the data, and they have an octet
abbrev pub formed : ℕ → ℕ → Cursor → Read RData
formed kind len c = form kind len c >>= ended (c.place + len)

-- a message that ends before the data
pub data_too_short : (bytes : List ℕ) (kind len p : ℕ) → p ≤ length bytes → length bytes < p + len → record_data kind len (here bytes p) ≡ Err InsufficientBytes
unfolding record_data
data_too_short bytes kind len p within lt = rw (lt-ltb (length (drop p bytes)) len (omega (arith, length-drop p bytes))) refl

-- some data are formed
has_octets : (bytes : List ℕ) (kind len p : ℕ) → p + len ≤ length bytes → 0 < len → record_data kind len (here bytes p) ≡ formed kind len (here bytes p)
unfolding record_data
has_octets bytes kind len p within some =
    let ne = ne_eqb len 0 (λ h. omega arith) in
    let long : ltb (length (drop p bytes)) len ≡ false = le-ltb _ _ (omega (arith, length-drop p bytes)) in
    rw (long, ne) refl

-- data that are their octets have no fault
octets_pass : (bytes : List ℕ) (k : List ℕ → RData) (len p : ℕ) (e : DecodeError) → p + len ≤ length bytes → ((octets len (here bytes p) >>= λ x. Ok (k x.0, x.1)) >>= ended (p + len)) ≡ Err e → ⊥
octets_pass bytes k len p e within h =
    let r = run_ok bytes (octets len) len p (octets_run bytes len p (omega arith)) within in
    let g : read_here (k r.0) bytes (p + len) ≡ Err e = sym (rw (r.1, eq-eqb (p + len) (p + len) refl) refl) ∙ h in
    cc

-- ---- the data of each type fail as they say

-- a form that failed, failed in a part of it, or the data end elsewhere
ended_err : (bytes : List ℕ) (r : Read RData) (kind len p : ℕ) (e : DecodeError) → (r >>= ended (p + len)) ≡ Err e → (r ≡ Err e → DataFormFault bytes p len kind e)
    → ((x : RData × Cursor) → r ≡ Ok x → EndsItself x.0 × DataRead bytes p x.0 x.1.place × (type_of x.0 ≡ kind)) → DataFormFault bytes p len kind e
ended_err bytes r kind len p e h part stands =
    let G = DataFormFault bytes p len kind e in
    bind_err r (ended (p + len)) e G h part (λ x f g.
    let s = stands x f in
    branch_err (eqb x.1.place (p + len)) (Ok x) (Err IncorrectDataLength) e G g (λ _ bad. absurd cc) (λ test is.
    let same : IncorrectDataLength ≡ e = fail_is IncorrectDataLength e is in
    let at : DataFormFault bytes p len (type_of x.0) IncorrectDataLength = ends_elsewhere x.0 s.0 s.1 (ne_of x.1.place (p + len) test) in
    subst (λ (d : DecodeError). DataFormFault bytes p len kind d) same (subst (λ (n : ℕ). DataFormFault bytes p len n IncorrectDataLength) s.2 at)))

-- what stands where data were read
abbrev Stands : List ℕ → ℕ → ℕ → RData × Cursor → Type 0
Stands bytes p kind x = EndsItself x.0 × DataRead bytes p x.0 x.1.place × (type_of x.0 ≡ kind)

-- sixteen octets as an address
aaaa_is : {bytes : List ℕ} (o : List ℕ) (p next : ℕ) → length o ≡ 16 → AreBytes o → OctetsAt 0 bytes p o next → OctetsAt 0 bytes p (ipv6_octets (ipv6_of o)) next × IsIpv6 (ipv6_of o)
aaaa_is {bytes} o p next len b at = let s = as_segments o 8 (omega arith) b in (subst (λ (t : List ℕ). OctetsAt 0 bytes p t next) (sym s.back) at, record { eight = s.len; each = s.each })

-- data that are octets
octets_stand : (bytes : List ℕ) → AreBytes bytes → (kind j p : ℕ) (k : List ℕ → RData) (x : RData × Cursor) → p ≤ length bytes → (octets j (here bytes p) >>= λ o. Ok (k o.0, o.1)) ≡ Ok x
    → ((o : List ℕ) (next : ℕ) → length o ≡ j → AreBytes o → OctetsAt 0 bytes p o next → EndsItself (k o) × DataRead bytes p (k o) next × (type_of (k o) ≡ kind)) → Stands bytes p kind x
octets_stand bytes a kind j p k x within h each =
    bind_then (octets j (here bytes p)) (λ o. let z : Read RData = Ok (k o.0, o.1) in z) x _ h (λ o f g.
    let at = octets_in bytes a j (here bytes p) o (refl, within) f in
    let y : RData × Cursor = (k o.0, o.1) in
    subst (Stands bytes p kind) (ok_is y x g) (each o.0 o.1.place at.2 (stands_bytes bytes p o.0 a at.0.stands) at.0))

-- data that are a name
name_stands : (bytes : List ℕ) → AreBytes bytes → (kind p : ℕ) (k : DomainName → RData) (x : RData × Cursor) → (name (here bytes p) >>= λ n. Ok (k n.0, n.1)) ≡ Ok x
    → ((n : DomainName) (next : ℕ) → NameAt 0 bytes p n next → IsFullyQualified n → EndsItself (k n) × DataRead bytes p (k n) next × (type_of (k n) ≡ kind)) → Stands bytes p kind x
name_stands bytes a kind p k x h each =
    bind_then (name (here bytes p)) (λ n. let z : Read RData = Ok (k n.0, n.1) in z) x _ h (λ n f g.
    let at = name_in bytes a (here bytes p) n refl f in
    let y : RData × Cursor = (k n.0, n.1) in
    subst (Stands bytes p kind) (ok_is y x g) (each n.0 n.1.place at.0 at.2))

-- data of the octets that they take
octets_err : (bytes : List ℕ) → AreBytes bytes → (kind len j p : ℕ) (k : List ℕ → RData) (e : DecodeError) → p ≤ length bytes → ((octets j (here bytes p) >>= λ o. Ok (k o.0, o.1)) >>= ended (p + len)) ≡ Err e
    → (length bytes < p + j → DataFormFault bytes p len kind InsufficientBytes)
    → ((o : List ℕ) (next : ℕ) → length o ≡ j → AreBytes o → OctetsAt 0 bytes p o next → EndsItself (k o) × DataRead bytes p (k o) next × (type_of (k o) ≡ kind)) → DataFormFault bytes p len kind e
octets_err bytes a kind len j p k e within h short each =
    ended_err bytes (octets j (here bytes p) >>= λ o. Ok (k o.0, o.1)) kind len p e h
    (λ f. run_err bytes (octets j) (λ o. Ok (k o.0, o.1)) j p e (DataFormFault bytes p len kind e) (octets_run bytes j p within) f (λ lt is. subst (DataFormFault bytes p len kind) (sym is) (short lt)) (λ x le g k. absurd cc))
    (λ x f. octets_stand bytes a kind j p k x within f each)

-- data of a name
named_err : (bytes : List ℕ) → AreBytes bytes → (kind len p : ℕ) (k : DomainName → RData) (e : DecodeError) → ((name (here bytes p) >>= λ n. Ok (k n.0, n.1)) >>= ended (p + len)) ≡ Err e → (NameFault bytes p e → DataFormFault bytes p len kind e)
    → ((n : DomainName) (next : ℕ) → NameAt 0 bytes p n next → IsFullyQualified n → EndsItself (k n) × DataRead bytes p (k n) next × (type_of (k n) ≡ kind)) → DataFormFault bytes p len kind e
named_err bytes a kind len p k e h faulty each =
    ended_err bytes (name (here bytes p) >>= λ n. Ok (k n.0, n.1)) kind len p e h
    (λ f. name_err bytes (λ n. Ok (k n.0, n.1)) p e (DataFormFault bytes p len kind e) f faulty (λ n next at within g. absurd cc))
    (λ x f. name_stands bytes a kind p k x f each)

-- data that end themselves are all that is read
abbrev Only : Read RData → Type 0
Only r = (x : RData × Cursor) → r ≡ Ok x → EndsItself x.0

only_then : {A : Type 0} (r : Result A DecodeError) (f : A → Read RData) → ((y : A) → Only (f y)) → Only (r >>= f)
only_then (Ok y) f h = h y
only_then (Err e) f h = λ x k. absurd cc

only_ok : (d : RData) (c : Cursor) → EndsItself d → Only (Ok (d, c))
only_ok d c own x e = let y : RData × Cursor = (d, c) in subst (λ (z : RData × Cursor). EndsItself z.0) (ok_is y x e) own

-- a mail exchange ends itself
mx_only : (c : Cursor) → Only (mx c)
unfolding mx
mx_only c = only_then (number w16 c) _ (λ p. only_then (name p.1) _ (λ n. only_ok _ n.1 tt))

-- the start of a zone ends itself
soa_only : (c : Cursor) → Only (soa c)
unfolding soa
soa_only c =
    only_then (name c) _ (λ m. only_then (name m.1) _ (λ r. only_then (number w32 r.1) _ (λ v. only_then (number w32 v.1) _ (λ w. only_then (number w32 w.1) _ (λ x.
    only_then (number w32 x.1) _ (λ y. only_then (number w32 y.1) _ (λ z. only_ok _ z.1 tt)))))))

-- a signature ends itself
tsig_only : (c : Cursor) → Only (tsig c)
unfolding tsig
tsig_only c =
    only_then (name c) _ (λ n. only_then (number w16 n.1) _ (λ h. only_then (number w32 h.1) _ (λ l. only_then (number w16 l.1) _ (λ f. only_then (counted_octets f.1) _ (λ m.
    only_then (number w16 m.1) _ (λ o. only_then (number w16 o.1) _ (λ r. only_then (counted_octets r.1) _ (λ t. only_ok _ t.1 tt))))))))

-- ---- MX

-- a mail exchange that fails
mx_err : (bytes : List ℕ) → AreBytes bytes → (len p : ℕ) (e : DecodeError) → p ≤ length bytes → (mx (here bytes p) >>= ended (p + len)) ≡ Err e → DataFormFault bytes p len 15 e
unfolding mx Gave
mx_err bytes a len p e within h =
    ended_err bytes (mx (here bytes p)) 15 len p e h
    (λ f. run_err bytes (number w16) _ 2 p e (DataFormFault bytes p len 15 e) (number_run bytes w16 p within) f (λ lt is. subst (DataFormFault bytes p len 15) (sym is) (mx_faulty (preference_missing lt))) (λ preference le g k.
    name_err bytes _ (p + 2) e (DataFormFault bytes p len 15 e) k (λ f. mx_faulty (exchange_faulty le f)) (λ n next at fits bad. absurd cc)))
    (λ x f. let g = mx_in bytes a (here bytes p) x (refl, within) f in (mx_only (here bytes p) x f, g.0, g.1))

-- ---- SOA

-- the five numbers behind the names
abbrev soa_numbers_of : DomainName → DomainName → Cursor → Read RData
soa_numbers_of m r c = number w32 c >>= λ v. number w32 v.1 >>= λ w. number w32 w.1 >>= λ x. number w32 x.1 >>= λ y. number w32 y.1 >>= λ z.
    Ok (rdata.SOA (record { mname = m; rname = r; serial = v.0; refresh = w.0; retry = x.0; expire = y.0; minimum = z.0 }), z.1)

-- they take twenty octets
numbers_run : (bytes : List ℕ) (m r : DomainName) (p : ℕ) → p ≤ length bytes → Runs bytes (soa_numbers_of m r) 20 p
numbers_run bytes m r p within =
    then_run bytes (number w32) _ 4 16 p (number_run bytes w32 p within) (λ v le1.
    then_run bytes (number w32) _ 4 12 (p + 4) (number_run bytes w32 (p + 4) le1) (λ w le2.
    then_run bytes (number w32) _ 4 8 (p + 4 + 4) (number_run bytes w32 (p + 4 + 4) le2) (λ x le3.
    then_run bytes (number w32) _ 4 4 (p + 4 + 4 + 4) (number_run bytes w32 (p + 4 + 4 + 4) le3) (λ y le4.
    then_run bytes (number w32) _ 4 0 (p + 4 + 4 + 4 + 4) (number_run bytes w32 (p + 4 + 4 + 4 + 4) le4) (λ z le5. done_run bytes _ (p + 4 + 4 + 4 + 4 + 4) le5)))))

-- the start of a zone that fails
soa_err : (bytes : List ℕ) → AreBytes bytes → (len p : ℕ) (e : DecodeError) → p ≤ length bytes → (soa (here bytes p) >>= ended (p + len)) ≡ Err e → DataFormFault bytes p len 6 e
unfolding soa Gave
soa_err bytes a len p e within h =
    ended_err bytes (soa (here bytes p)) 6 len p e h
    (λ f. name_err bytes _ p e (DataFormFault bytes p len 6 e) f (λ n. soa_faulty (mname_faulty n)) (λ m one at_m fits g.
    name_err bytes _ one e (DataFormFault bytes p len 6 e) g (λ n. soa_faulty (rname_faulty at_m n)) (λ r two at_r fits_r k.
    let s = run_short bytes (soa_numbers_of m r) 20 two e (numbers_run bytes m r two fits_r) k in
    subst (DataFormFault bytes p len 6) (sym s.1) (soa_faulty (numbers_missing at_m at_r s.0)))))
    (λ x f. let g = soa_in bytes a (here bytes p) x (refl, within) f in (soa_only (here bytes p) x f, g.0, g.1))

-- ---- TXT

-- strings that fail
text_err : (bytes : List ℕ) (len p : ℕ) (e : DecodeError) → p + len ≤ length bytes → ((strings_until (p + len) (here bytes p) >>= λ t. Ok (rdata.TXT t.0, t.1)) >>= ended (p + len)) ≡ Err e → DataFormFault bytes p len 16 e
unfolding strings_until
text_err bytes len p e within h =
    let G = DataFormFault bytes p len 16 e in
    bind_err (strings_until (p + len) (here bytes p) >>= λ t. Ok (rdata.TXT t.0, t.1)) (ended (p + len)) e G h
    (λ f. bind_err (strings_until (p + len) (here bytes p)) (λ t. Ok (rdata.TXT t.0, t.1)) e G f
    (λ g. let t = texts_err bytes (p + len - p) (p + len) p e within g in subst (DataFormFault bytes p len 16) (sym t.2) (txt_faulty (string_missing t.0.begins t.1))) (λ t g k. absurd cc))
    (λ x f g. bind_then (strings_until (p + len) (here bytes p)) (λ t. Ok (rdata.TXT t.0, t.1)) x G f (λ t k l.
    let y : RData × Cursor = (rdata.TXT t.0, t.1) in
    let place : t.1.place ≡ x.1.place = ap (λ (z : RData × Cursor). z.1.place) (ok_is y x l) in
    branch_err (eqb x.1.place (p + len)) (Ok x) (Err IncorrectDataLength) e G g (λ _ bad. absurd cc) (λ test is.
    let same : IncorrectDataLength ≡ e = fail_is IncorrectDataLength e is in
    let past = texts_past bytes (p + len - p) (p + len) p t within (omega arith) (omega arith) k (λ stops. ne_of x.1.place (p + len) test (sym place ∙ stops)) in
    subst (DataFormFault bytes p len 16) same (txt_faulty (string_too_long past.0.begins past.1 past.2)))))

-- ---- TSIG

-- a signature that fails
tsig_err : (bytes : List ℕ) → AreBytes bytes → (len p : ℕ) (e : DecodeError) → p ≤ length bytes → (tsig (here bytes p) >>= ended (p + len)) ≡ Err e → DataFormFault bytes p len 250 e
unfolding tsig Gave
tsig_err bytes a len p e within h =
    ended_err bytes (tsig (here bytes p)) 250 len p e h (λ f. tsig_faulty (tsig_part bytes a p e f))
    (λ x f. let g = tsig_in bytes a (here bytes p) x (refl, within) f in (tsig_only (here bytes p) x f, g.0, g.1))

-- ---- the types

-- what is so of one type and of the others
stage : (k kind : ℕ) (P : ℕ → Type 0) → P k → ((kind ≢ k) → P kind) → P kind
stage k kind P this others = elim (cases_eq kind k) [ inl e ↦ subst P (sym e) this | inr n ↦ others n ]

-- data of a type that fail
form_err : (bytes : List ℕ) → AreBytes bytes → (kind len p : ℕ) (e : DecodeError) → p + len ≤ length bytes → 0 < len → formed kind len (here bytes p) ≡ Err e → DataFormFault bytes p len kind e
unfolding form
form_err bytes a kind len p e within some =
    let P : ℕ → Type 0 = λ n. formed n len (here bytes p) ≡ Err e → DataFormFault bytes p len n e in
    let fits : p ≤ length bytes = omega arith in
    stage 1 kind P (λ h. octets_err bytes a 1 len 4 p (λ o. rdata.A (ipv4_of o)) e fits h ipv4_missing (λ o next s b t. (tt, (t, (record { four = s }, tt)), refl))) (λ n1.
    stage 28 kind P (λ h. octets_err bytes a 28 len 16 p (λ o. rdata.AAAA (ipv6_of o)) e fits h ipv6_missing (λ o next s b t. let f = aaaa_is o p next s b t in (tt, (f.0, (f.1, tt)), refl))) (λ n28.
    stage 2 kind P (λ h. named_err bytes a 2 len p rdata.NS e h ns_faulty (λ n next t q. (tt, (t, (tt, q)), refl))) (λ n2.
    stage 5 kind P (λ h. named_err bytes a 5 len p rdata.CNAME e h cname_faulty (λ n next t q. (tt, (t, (tt, q)), refl))) (λ n5.
    stage 12 kind P (λ h. named_err bytes a 12 len p rdata.PTR e h ptr_faulty (λ n next t q. (tt, (t, (tt, q)), refl))) (λ n12.
    stage 15 kind P (mx_err bytes a len p e fits) (λ n15.
    stage 6 kind P (soa_err bytes a len p e fits) (λ n6.
    stage 16 kind P (text_err bytes len p e within) (λ n16.
    stage 41 kind P (λ h. absurd (octets_pass bytes (λ o. rdata.OPT (options_of o)) len p e within h)) (λ n41.
    stage 250 kind P (tsig_err bytes a len p e fits) (λ n250.
    stage 10 kind P (λ h. absurd (octets_pass bytes rdata.NULL len p e within h)) (λ n10 h.
    let is : form kind len (here bytes p) ≡ (octets len (here bytes p) >>= λ o. Ok (rdata.Unknown kind o.0, o.1)) =
    rw (ne_eqb kind 1 n1, ne_eqb kind 28 n28, ne_eqb kind 2 n2, ne_eqb kind 5 n5, ne_eqb kind 12 n12, ne_eqb kind 15 n15, ne_eqb kind 6 n6, ne_eqb kind 16 n16, ne_eqb kind 41 n41, ne_eqb kind 250 n250, ne_eqb kind 10 n10) refl in
    absurd (octets_pass bytes (λ o. rdata.Unknown kind o) len p e within (ap (λ r. r >>= ended (p + len)) (sym is) ∙ h)))))))))))))

-- ---- what they say, fails

-- data that end themselves are read as far as they stand, whatever their length
own_read : (bytes : List ℕ) (p len next : ℕ) (d : RData) → EndsItself d → DataRead bytes p d next → form (type_of d) len (here bytes p) ≡ read_here d bytes next
unfolding form
own_read bytes p len next (rdata.A x) own (at, f) = rw (octets_here bytes p next 4 x.octets at.stands (sym f.0.four) (omega (arith, at.after, f.0.four))) refl
own_read bytes p len next (rdata.AAAA x) own (at, f) = aaaa_here 0 bytes p next x f.0 at
own_read bytes p len next (rdata.NS n) own (at, f) = rw (name_here 0 bytes p next n f.1 at) refl
own_read bytes p len next (rdata.CNAME n) own (at, f) = rw (name_here 0 bytes p next n f.1 at) refl
own_read bytes p len next (rdata.PTR n) own (at, f) = rw (name_here 0 bytes p next n f.1 at) refl
own_read bytes p len next (rdata.MX m) own (at, f) = mx_here 0 bytes p next m f at
own_read bytes p len next (rdata.SOA s) own (at, f) = soa_here 0 bytes p next s f at
own_read bytes p len next (rdata.TSIG t) own (at, f) = tsig_here 0 bytes p next t f at
own_read bytes p len next (rdata.TXT t) own at = absurd own
own_read bytes p len next (rdata.OPT o) own at = absurd own
own_read bytes p len next (rdata.NULL o) own at = absurd own
own_read bytes p len next (rdata.Update0 code) own at = absurd own
own_read bytes p len next (rdata.Unknown code o) own at = absurd own

-- the fault of a form fails so
err_form : {bytes : List ℕ} {kind len p : ℕ} {e : DecodeError} → p + len ≤ length bytes → 0 < len → DataFormFault bytes p len kind e → formed kind len (here bytes p) ≡ Err e
unfolding form mx soa tsig
err_form {bytes} {kind} {len} {p} {e} within some (ipv4_missing lt) = rw (short_is bytes (octets 4) 4 p (octets_run bytes 4 p (omega arith)) lt) refl
err_form {bytes} {kind} {len} {p} {e} within some (ipv6_missing lt) = rw (short_is bytes (octets 16) 16 p (octets_run bytes 16 p (omega arith)) lt) refl
err_form {bytes} {kind} {len} {p} {e} within some (ns_faulty f) = rw (fault_name (here bytes p) e f) refl
err_form {bytes} {kind} {len} {p} {e} within some (cname_faulty f) = rw (fault_name (here bytes p) e f) refl
err_form {bytes} {kind} {len} {p} {e} within some (ptr_faulty f) = rw (fault_name (here bytes p) e f) refl
err_form {bytes} {kind} {len} {p} {e} within some (mx_faulty (preference_missing lt)) = rw (short_is bytes (number w16) 2 p (number_run bytes w16 p (omega arith)) lt) refl
err_form {bytes} {kind} {len} {p} {e} within some (mx_faulty (exchange_faulty le f)) =
    let r = run_ok bytes (number w16) 2 p (number_run bytes w16 p (omega arith)) le in
    rw (r.1, fault_name (here bytes (p + 2)) e f) refl
err_form {bytes} {kind} {len} {p} {e} within some (soa_faulty (mname_faulty f)) = rw (fault_name (here bytes p) e f) refl
err_form {bytes} {kind} {len} {p} {e} within some (soa_faulty (rname_faulty at f)) = let r = name_read at in rw (r.0, fault_name _ e f) refl
err_form {bytes} {kind} {len} {p} {e} within some (soa_faulty (numbers_missing {mname = mname} {rname = rname} {two = two} m r lt)) =
    let at_m = name_read m in
    let at_r = name_read r in
    let short = short_is bytes (soa_numbers_of (qualified mname.labels) (qualified rname.labels)) 20 two (numbers_run bytes (qualified mname.labels) (qualified rname.labels) two at_r.1) lt in
    rw (at_m.0, at_r.0, short) refl
err_form {bytes} {kind} {len} {p} {e} within some (txt_faulty (string_missing {middle = middle} {n = n} s lt)) = rw (next_cut bytes p (p + len) middle n s lt) refl
err_form {bytes} {kind} {len} {p} {e} within some (txt_faulty (string_too_long {middle = middle} {n = n} s le lt)) =
    rw ((next_past bytes p (p + len) middle n s le lt).1, ne_eqb (middle + 1 + n) (p + len) (λ h. omega arith)) refl
err_form {bytes} {kind} {len} {p} {e} within some (tsig_faulty (algorithm_faulty f)) = rw (fault_name (here bytes p) e f) refl
err_form {bytes} {kind} {len} {p} {e} within some (tsig_faulty (mac_size_missing at lt)) = rw (size_short at lt) refl
err_form {bytes} {kind} {len} {p} {e} within some (tsig_faulty (other_len_missing at m lt)) = rw (len_short at m lt) refl
err_form {bytes} {kind} {len} {p} {e} within some (tsig_faulty (other_missing at m o lt)) = rw (end_short at m o lt) refl
err_form {bytes} {kind} {len} {p} {e} within some (ends_elsewhere {next = next} content own at ne) = rw (own_read bytes p len next content own at, ne_eqb next (p + len) ne) refl

-- data without an octet that fail are those of a TSIG
empty_err : (bytes : List ℕ) (kind p : ℕ) (e : DecodeError) → p ≤ length bytes → record_data kind 0 (here bytes p) ≡ Err e → DataFault bytes p 0 kind e
unfolding record_data form
empty_err bytes kind p e within h =
    let long : ltb (length (drop p bytes)) 0 ≡ false = le-ltb _ _ (omega arith) in
    elim (cases_eq kind 250) [
      | inl k ↦
          let f : record_data 250 0 (here bytes p) ≡ fail IncorrectDataLength = rw long refl in
          let g : fail IncorrectDataLength ≡ Err e = sym f ∙ ap (λ (n : ℕ). record_data n 0 (here bytes p)) (sym k) ∙ h in
          let same : IncorrectDataLength ≡ e = cc in
          rw k (subst (DataFault bytes p 0 250) same (no_octets refl))
      | inr signed ↦ elim (cases_eq kind 41) [
        | inl k ↦
            let f : record_data 41 0 (here bytes p) ≡ formed 41 0 (here bytes p) = rw long refl in
            absurd (octets_pass bytes (λ o. rdata.OPT (options_of o)) 0 p e (omega arith) (sym f ∙ ap (λ (n : ℕ). record_data n 0 (here bytes p)) (sym k) ∙ h))
        | inr used ↦
            let f : record_data kind 0 (here bytes p) ≡ read_here (rdata.Update0 kind) bytes p = rw (long, ne_eqb kind 41 used, ne_eqb kind 250 signed) refl in
            let g : read_here (rdata.Update0 kind) bytes p ≡ Err e = sym f ∙ h in
            absurd cc
      ]
    ]

-- data that fail, fail since the message ends before them, or have a fault
pub data_err : (bytes : List ℕ) → AreBytes bytes → (kind len p : ℕ) (e : DecodeError) (G : Type 0) → p ≤ length bytes → record_data kind len (here bytes p) ≡ Err e
    → (length bytes < p + len → e ≡ InsufficientBytes → G) → (p + len ≤ length bytes → DataFault bytes p len kind e → G) → G
data_err bytes a kind len p e G within h short faulty =
    elim (cases_lt (length bytes) (p + len)) [
      | inl lt ↦ let g : fail InsufficientBytes ≡ Err e = sym (data_too_short bytes kind len p within lt) ∙ h in short lt (sym (fail_is InsufficientBytes e g))
      | inr le ↦ elim (cases_eq len 0) [
        | inl none ↦ faulty le (subst (λ (n : ℕ). DataFault bytes p n kind e) (sym none) (empty_err bytes kind p e within (ap (λ (n : ℕ). record_data kind n (here bytes p)) (sym none) ∙ h)))
        | inr some ↦ let lt : 0 < len = omega arith in faulty le (form_faulty lt (form_err bytes a kind len p e le lt (sym (has_octets bytes kind len p le lt) ∙ h)))
      ]
    ]

-- the fault of data fails so
pub err_data : {bytes : List ℕ} {kind len p : ℕ} {e : DecodeError} → p + len ≤ length bytes → DataFault bytes p len kind e → record_data kind len (here bytes p) ≡ Err e
unfolding record_data
err_data {bytes} {kind} {len} {p} within (no_octets none) =
    rw (none, le-ltb (length (drop p bytes)) 0 (omega arith)) refl
err_data {bytes} {kind} {len} {p} {e} within (form_faulty some f) = has_octets bytes kind len p within some ∙ err_form within some f
