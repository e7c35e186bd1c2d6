-- An OPT record at the root that is read without its record is the next record of the additional section.
use Rattle.std.proofs.Common.{◌≡◌, inl, inr, ℕ, ◌+◌, List, [], length, Some, Ok, Err, Result, refl, ◌∙◌, arith, eqb, true}
use Rattle.std.specs.Prelude.{slice_get, MatchResult}
use Rattle.std.specs.Int.{w16, w32}
use Rattle.std.proofs.lemmas.Bool.{cases_lt, lt-ltb, le-ltb, eq-eqb}
use Rattle.wire_messages.specs.op.EdnsFields.{EdnsFields}
use Rattle.wire_messages.specs.serialize.reading.Cursor.{Cursor}
use Rattle.wire_messages.specs.serialize.reading.NameReading.{name, qualified}
use Rattle.wire_messages.specs.serialize.reading.Reading.{Read, ◌>>=◌, Fails, number, octets, rest_of, moved}
use Rattle.wire_messages.specs.serialize.reading.RecordReading.{resource, record_data, form, options_of}
use Rattle.wire_messages.specs.serialize.layout.MessageLayout.{edns_said}
use Rattle.wire_reading.specs.serialize.reading.OptReading.{opt_fields, add_edns}
use Rattle.wire_messages.specs.serialize.reading.SectionReading.{Additionals, add_record, additionals_after}
use Rattle.wire_names.specs.declared.error.DecodeError.{DecodeError}
use Rattle.wire_messages.specs.declared.op.edns.EdnsOption.{EdnsOption}
use Rattle.wire_messages.specs.declared.rr.rdata.RData.{RData}
use Rattle.wire_messages.specs.declared.rr.rdata.RData.TheVariants as rdata
use Rattle.wire_messages.specs.declared.rr.record.Record.{Record}
use Rattle.wire_messages.specs.declared.rr.record.Proof.TheVariants.{Indeterminate}
use Rattle.wire_messages.specs.serialize.layout.NameLayout.LabelsAt.{at_end}
use Rattle.wire_messages.proofs.lemmas.serialize.layout.Stands.{stands_one}
use Rattle.wire_reading.proofs.lemmas.serialize.reading.FormIsRead.{opt_is_used}
use Rattle.wire_reading.proofs.lemmas.serialize.reading.ItemsRead.{read_to}
use Rattle.wire_messages.proofs.lemmas.serialize.reading.LabelSteps.{from_LabelsAt}

-- the data of an OPT record are options, where they are read
opt_data : (len : ℕ) (c : Cursor) → record_data 41 len c ≡ (octets len c >>= λ o. read_to (rdata.OPT (options_of o.0)) o.1)
unfolding record_data form
opt_data len c = elim (cases_lt (length (rest_of c)) len) [
  | inl lt ↦ rw (lt-ltb (length (rest_of c)) len lt) refl
  | inr le ↦ let u = opt_is_used (eqb len 0) in rw (le-ltb (length (rest_of c)) len le, u.0, u.1, eq-eqb (c.place + len) (c.place + len) refl) refl
]

-- two readings that begin alike
both : {A B C D : Type 0} (r : Result A DecodeError) (f : A → Result B DecodeError) (g : A → Result C DecodeError) (k : B → Result D DecodeError) (m : C → Result D DecodeError)
    → ((x : A) → (f x >>= k) ≡ (g x >>= m)) → ((r >>= f) >>= k) ≡ ((r >>= g) >>= m)
both (Ok x) f g k m h = h x
both (Err e) f g k m h = refl

-- the record of its class, its TTL and its options
abbrev pub opt_record : ℕ → ℕ → RData → Record RData
opt_record class ttl content = record { name = qualified []; dns_class = class; ttl = ttl; rdata = content; proof = Indeterminate }

-- where it goes
abbrev pub put_record : Additionals → Record RData × Cursor → Read Additionals
put_record before r = add_record before r.0 >>= λ x. read_to x r.1

abbrev pub put_edns : Additionals → EdnsFields × Cursor → Read Additionals
put_edns before e = add_edns before e.0 >>= λ x. read_to x e.1

-- by the class, the TTL and the octets of the options
placed_alike : (before : Additionals) (class ttl : ℕ) (o : Read (List ℕ))
    → (((o >>= λ x. read_to (rdata.OPT (options_of x.0)) x.1) >>= λ content. read_to (opt_record class ttl content.0) content.1) >>= put_record before)
    ≡ ((o >>= λ x. read_to (edns_said class ttl (options_of x.0)) x.1) >>= put_edns before)
unfolding add_record add_edns
placed_alike before class ttl (Ok x) = refl
placed_alike before class ttl (Err e) = refl

from_length : (before : Additionals) (class ttl len : ℕ) (c : Cursor)
    → ((record_data 41 len c >>= λ content. read_to (opt_record class ttl content.0) content.1) >>= put_record before)
    ≡ ((octets len c >>= λ x. read_to (edns_said class ttl (options_of x.0)) x.1) >>= put_edns before)
from_length before class ttl len c = rw (opt_data len c) (placed_alike before class ttl (octets len c))

-- a record that begins with the root and the type OPT
pub opt_is_next : (before : Additionals) (c owner kind : Cursor) → name c ≡ Ok (qualified [], owner) → number w16 owner ≡ Ok (41, kind)
    → additionals_after 1 before c ≡ (opt_fields kind >>= put_edns before)
unfolding additionals_after resource opt_fields
opt_is_next before c owner kind root opt =
    rw (root, opt)
    (both (number w16 kind)
    (λ class. number w32 class.1 >>= λ ttl. number w16 ttl.1 >>= λ len. record_data 41 len.0 len.1 >>= λ content. read_to (opt_record class.0 ttl.0 content.0) content.1)
    (λ class. number w32 class.1 >>= λ ttl. number w16 ttl.1 >>= λ len. octets len.0 len.1 >>= λ x. read_to (edns_said class.0 ttl.0 (options_of x.0)) x.1)
    (put_record before) (put_edns before) (λ class.
    both (number w32 class.1)
    (λ ttl. number w16 ttl.1 >>= λ len. record_data 41 len.0 len.1 >>= λ content. read_to (opt_record class.0 ttl.0 content.0) content.1)
    (λ ttl. number w16 ttl.1 >>= λ len. octets len.0 len.1 >>= λ x. read_to (edns_said class.0 ttl.0 (options_of x.0)) x.1)
    (put_record before) (put_edns before) (λ ttl.
    both (number w16 ttl.1)
    (λ len. record_data 41 len.0 len.1 >>= λ content. read_to (opt_record class.0 ttl.0 content.0) content.1)
    (λ len. octets len.0 len.1 >>= λ x. read_to (edns_said class.0 ttl.0 (options_of x.0)) x.1)
    (put_record before) (put_edns before) (λ len. from_length before class.0 ttl.0 len.0 len.1))))

-- ---- the steps of the next record, in both ways

-- the root in full
pub root_here : (c : Cursor) → slice_get c.bytes c.place ≡ Some 0 → name c ≡ Ok (qualified [], moved c 1)
unfolding name
root_here c h = rw (from_LabelsAt {floor = 0} {bytes = c.bytes} {start = c.place} {place = c.place} 1 (at_end (omega arith) (stands_one _ _ _ h) refl) (omega arith)) refl

-- an OPT record at the root that is put is what it says that is put
pub opt_is_put : (before : Additionals) (r : Record RData) (options : List EdnsOption) (edns : EdnsFields) → r.rdata ≡ rdata.OPT options → eqb (length r.name.labels) 0 ≡ true
    → edns ≡ edns_said r.dns_class r.ttl options → add_edns before edns ≡ add_record before r
unfolding add_record add_edns
opt_is_put before r options edns e h is = rw (e, h, is) refl

-- What is read goes on to what is put.
pub then_put : (total : Read Additionals) (put : Result Additionals DecodeError) (after : Additionals) (d : Cursor) (r : Result (Unit {0}) DecodeError) → total ≡ (put >>= λ x. read_to x d)
    → MatchResult r (λ _. put ≡ Ok after) (λ e. Fails e put) → MatchResult r (λ _. total ≡ Ok (after, d)) (λ e. Fails e total)
then_put total put after d (Ok u) is h = is ∙ rw h refl
then_put total put after d (Err e) is h = λ not_memory. is ∙ rw (h not_memory) refl

-- a fault of what is read
pub fails_first : {A : Type 0} (total : Read Additionals) (first : Read A) (go : A × Cursor → Read Additionals) (e : DecodeError) → total ≡ (first >>= go) → Fails e first → Fails e total
fails_first total first go e is h not_memory = is ∙ rw (h not_memory) refl

pub record_is_next : (before : Additionals) (c : Cursor) → additionals_after 1 before c ≡ (resource c >>= put_record before)
unfolding additionals_after
record_is_next before c = refl

-- by the record that was read
pub record_put : (before after : Additionals) (c d : Cursor) (x : Record RData) (r : Result (Unit {0}) DecodeError) → resource c ≡ Ok (x, d)
    → MatchResult r (λ _. add_record before x ≡ Ok after) (λ e. Fails e (add_record before x))
    → MatchResult r (λ _. additionals_after 1 before c ≡ Ok (after, d)) (λ e. Fails e (additionals_after 1 before c))
record_put before after c d x r h = then_put (additionals_after 1 before c) (add_record before x) after d r (record_is_next before c ∙ rw h refl)

-- by what the OPT record says
pub edns_put : (before after : Additionals) (c owner kind d : Cursor) (edns : EdnsFields) (r : Result (Unit {0}) DecodeError) → name c ≡ Ok (qualified [], owner) → number w16 owner ≡ Ok (41, kind)
    → opt_fields kind ≡ Ok (edns, d) → MatchResult r (λ _. add_edns before edns ≡ Ok after) (λ e. Fails e (add_edns before edns))
    → MatchResult r (λ _. additionals_after 1 before c ≡ Ok (after, d)) (λ e. Fails e (additionals_after 1 before c))
edns_put before after c owner kind d edns r root opt h = then_put (additionals_after 1 before c) (add_edns before edns) after d r (opt_is_next before c owner kind root opt ∙ rw h refl)
