-- Data that are read have numbers and octets that their fields can hold.
use Rattle.std.proofs.Common.{◌≡◌, ◌∙◌, ◌+◌, ◌<◌, ℕ, List, [], ◌∷◌, ◌++◌, length, take, get_or, sym, ap, subst, append_assoc, append-nil}
use Rattle.std.proofs.lemmas.List.{take_more}
use Rattle.std.proofs.lemmas.List.Concat.{flat_map-append}
use Rattle.std.specs.List.{AllByRecursion, flat_map}
use Rattle.wire_messages.specs.declared.op.edns.EdnsOption.{EdnsOption}
use Rattle.wire_messages.specs.declared.rr.rdata.RData.{RData}
use Rattle.wire_messages.specs.declared.rr.rdata.RData.TheVariants as rdata
use Rattle.wire_messages.specs.rr.RecordData.{IsOption, OptionsOf}
use Rattle.wire_messages.specs.rr.RecordData.OptionsOf.{well_formed, malformed}
use Rattle.wire_messages.specs.serialize.layout.RecordLayout.{DataRead, IsFormed, RecordAt}
use Rattle.wire_messages.specs.serialize.reading.Cursor.{Cursor}
use Rattle.wire_messages.specs.declared.rr.record.Record.{Record}

of_options : (octets : List ℕ) (options : List EdnsOption) → OptionsOf octets options → AllByRecursion IsOption options
of_options octets options (well_formed all e) = all
of_options octets options (malformed none) = tt

pub formed : (bytes : List ℕ) (place : ℕ) (content : RData) (next : ℕ) → DataRead bytes place content next → IsFormed content
formed bytes place (rdata.A address) next h = h.1
formed bytes place (rdata.AAAA address) next h = h.1
formed bytes place (rdata.NS name) next h = h.1
formed bytes place (rdata.CNAME name) next h = h.1
formed bytes place (rdata.PTR name) next h = h.1
formed bytes place (rdata.MX mx) next h = h.1
formed bytes place (rdata.SOA soa) next h = h.1
formed bytes place (rdata.TXT strings) next h = h.1
formed bytes place (rdata.OPT options) next h = (of_options h.0 options h.2, tt)
formed bytes place (rdata.TSIG signature) next h = h.1
formed bytes place (rdata.NULL octets) next h = h.1
formed bytes place (rdata.Update0 code) next h = h.1
formed bytes place (rdata.Unknown code octets) next h = h.1

-- one more of a list whose elements stand one behind the other
pub put_more : {X : Type 0} (form : X → List ℕ) (all : List X) (i : ℕ) (d : X) (old before after : List ℕ) → i < length all → before ≡ old ++ flat_map form (take i all) → after ≡ before ++ form (get_or all i d) → after ≡ old ++ flat_map form (take (i + 1) all)
put_more form all i d old before after below so_far put =
    let one : flat_map form (take (i + 1) all) ≡ flat_map form (take i all) ++ form (get_or all i d) =
    ap (flat_map form) (take_more all i d below) ∙ flat_map-append form (take i all) (get_or all i d ∷ []) ∙ ap (λ (t : List ℕ). flat_map form (take i all) ++ t) (append-nil (form (get_or all i d))) in
    put ∙ ap (λ (t : List ℕ). t ++ form (get_or all i d)) so_far ∙ append_assoc old (flat_map form (take i all)) (form (get_or all i d)) ∙ ap (λ (t : List ℕ). old ++ t) (sym one)

pub formed_at : {bytes : List ℕ} {place next : ℕ} {r : Record RData} → RecordAt bytes place r next → IsFormed r.rdata
formed_at {bytes} {place} {next} {r} at = formed bytes (at.middle + 10) r.rdata next at.rdata

-- a record that stands in bytes stands where they are read
pub where_read : (k : Cursor) (slice bytes root : List ℕ) (r : Record RData) (next : ℕ) → k ≡ record { bytes = slice; place = 0 } → slice ≡ bytes → bytes ≡ root → RecordAt root 0 r next → RecordAt k.bytes k.place r next
where_read k slice bytes root r next e f g at = subst (λ (j : Cursor). RecordAt j.bytes j.place r next) (sym e) (subst (λ (b : List ℕ). RecordAt b 0 r next) (sym (f ∙ g)) at)

pub read_there : (k : Cursor) (slice bytes root : List ℕ) (r : Record RData) (next : ℕ) → k ≡ record { bytes = slice; place = 0 } → slice ≡ bytes → bytes ≡ root → RecordAt k.bytes k.place r next → RecordAt root 0 r next
read_there k slice bytes root r next e f g at = subst (λ (b : List ℕ). RecordAt b 0 r next) (f ∙ g) (subst (λ (j : Cursor). RecordAt j.bytes j.place r next) e at)
