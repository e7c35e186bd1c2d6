-- Reading a name gives the name that stands there, or the first fault.
use Rattle.std.proofs.Common.{◌≡◌, ◌≢◌, ℕ, Bool, Result, Ok, Err, refl, sym, ap, subst, ◌∙◌, arith}
use Rattle.wire_names.specs.declared.error.DecodeError.{DecodeError}
use Rattle.wire_messages.specs.serialize.reading.Cursor.{Cursor}
use Rattle.wire_names.specs.rr.domain.DomainName.{DomainName}
use Rattle.wire_messages.specs.serialize.reading.Reading.{Read, ◌>>=◌, Gives}
use Rattle.wire_names.specs.declared.error.DecodeError.TheVariants.{Memory}
use Rattle.wire_messages.specs.serialize.reading.NameReading.{LabelsRead, labels_from, qualified, name}
use Rattle.wire_messages.specs.serialize.layout.NameLayout.{NameAt, IsFullyQualified, NameFault}
use Rattle.wire_messages.proofs.lemmas.serialize.reading.LabelSteps.{from_LabelsAt, from_LabelsFault, Answers, labels_from-answers}
use Rattle.std.specs.Prelude.{IfOk, IfErr}

abbrev wrap : {A : Type 0} → A → Result A DecodeError
wrap x = Ok x

abbrev fault : {A : Type 0} → DecodeError → Result A DecodeError
fault e = Err e

abbrev after_labels : Cursor → LabelsRead → Read DomainName
after_labels c r = r >>= λ x. Ok (qualified x.0, record c { place = x.1 })

found_at : (c : Cursor) (r : LabelsRead) (n : DomainName) (d : Cursor) → Answers c.bytes c.place c.place 1 r → after_labels c r ≡ Ok (n, d) → NameAt 0 c.bytes c.place n d.place × IsFullyQualified n
found_at c (Ok x) n d at e =
    let y : DomainName × Cursor = (qualified x.0, record c { place = x.1 }) in
    let p : y ≡ (n, d) = cc in
    subst (λ (y : DomainName × Cursor). NameAt 0 c.bytes c.place y.0 y.1.place × IsFullyQualified y.0) p (record { labels = at.0; short = omega (arith, at.1) }, refl)
found_at c (Err f) n d at e = absurd cc

fault_at : (c : Cursor) (r : LabelsRead) (f : DecodeError) → Answers c.bytes c.place c.place 1 r → after_labels c r ≡ Err f → NameFault c.bytes c.place f
fault_at c (Ok x) f at e = absurd cc
fault_at c (Err g) f at e = let p : g ≡ f = cc in subst (λ (y : DecodeError). NameFault c.bytes c.place y) p at

pub name_found : (c : Cursor) (n : DomainName) (d : Cursor) → name c ≡ Ok (n, d) → NameAt 0 c.bytes c.place n d.place × IsFullyQualified n
unfolding name
name_found c n d e = found_at c (labels_from c.bytes c.place c.place 1) n d (labels_from-answers c.bytes c.place c.place 1 (omega arith)) e

pub name_fault : (c : Cursor) (f : DecodeError) → name c ≡ Err f → NameFault c.bytes c.place f
unfolding name
name_fault c f e = fault_at c (labels_from c.bytes c.place c.place 1) f (labels_from-answers c.bytes c.place c.place 1 (omega arith)) e

pub found_name : (floor : ℕ) (c : Cursor) (n : DomainName) (next : ℕ) → IsFullyQualified n → NameAt floor c.bytes c.place n next → name c ≡ Ok (n, record c { place = next })
unfolding name
found_name floor c n next marked h =
    let whole : qualified n.labels ≡ n = ap (λ (m : Bool). record { labels = n.labels; is_fqdn = m }) (sym marked) in
    rw (from_LabelsAt 1 h.labels (omega (arith, h.short))) (ap (λ (m : DomainName). let y : DomainName × Cursor = (m, record c { place = next }) in wrap y) whole)

pub fault_name : (c : Cursor) (f : DecodeError) → NameFault c.bytes c.place f → name c ≡ Err f
unfolding name
fault_name c f h = rw (from_LabelsFault h (omega arith)) refl

pub gives_found : (r : Result DomainName DecodeError) (old new : Cursor) → Gives r old new name → IfOk r (λ n. NameAt 0 old.bytes old.place n new.place × IsFullyQualified n)
gives_found (Ok n) old new h = name_found old n new h.0
gives_found (Err e) old new h = tt

pub gives_fault : (r : Result DomainName DecodeError) (old new : Cursor) → Gives r old new name → IfErr r (λ e. e ≢ Memory → NameFault old.bytes old.place e)
gives_fault (Ok n) old new h = tt
gives_fault (Err e) old new h = λ ne. name_fault old e (h.0 ne)

pub gives_only : (r : Result DomainName DecodeError) (old new : Cursor) → Gives r old new name → (n : DomainName) (next : ℕ) → NameAt 0 old.bytes old.place n next → IsFullyQualified n → r ≢ Err Memory → (r ≡ Ok n) × (new.place ≡ next)
gives_only (Ok m) old new h n next at q ne =
    let x : DomainName × Cursor = (m, new) in
    let y : DomainName × Cursor = (n, record old { place = next }) in
    let e : wrap x ≡ wrap y = sym h.0 ∙ found_name 0 old n next q at in
    let p : x ≡ y = cc in
    (ap (λ (z : DomainName × Cursor). wrap z.0) p, ap (λ (z : DomainName × Cursor). z.1.place) p)
gives_only (Err f) old new h n next at q ne =
    let y : DomainName × Cursor = (n, record old { place = next }) in
    let e : fault f ≡ wrap y = sym (h.0 (λ k. ne (ap fault k))) ∙ found_name 0 old n next q at in
    absurd cc
