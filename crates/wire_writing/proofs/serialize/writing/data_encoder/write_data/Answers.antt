use Rattle.std.proofs.Common.{◌≡◌, ◌∙◌, ◌++◌, ◌≤◌, ℕ, List, Result, Ok, Err, length, refl, subst, sym, ap, rules}
use Rattle.std.proofs.lemmas.List.{append-nil}
use Rattle.std.proofs.lemmas.Result.{on_ok_weaker}
use Rattle.std.specs.Bool.{if◌then◌else◌}
use Rattle.std.specs.Result.{is_ok, OnOk}
use Rattle.wire_messages.specs.serialize.layout.FieldRanges.{IsInRange}
use Rattle.wire_messages.specs.serialize.writing.FullForm.{data_octets, HasNames}
use Rattle.wire_writing.specs.representation.Noted.{Notes}
use Rattle.wire_writing.specs.representation.WritingByNotes.{WritesData}
use Rattle.wire_messages.specs.declared.rr.rdata.RData.{RData}
use Rattle.wire_messages.specs.declared.rr.rdata.RData.TheVariants as rdata
use Rattle.wire_messages.proofs.lemmas.serialize.layout.Ranges.{ipv6_in_range}
use Rattle.wire_writing.proofs.lemmas.serialize.writing.CompressedData.{name_data, plain_data}
use Rattle.wire_messages.proofs.lemmas.serialize.layout.VectorBytes.{are_bytes}
use Rattle.wire_writing.proofs.serialize.writing.data_encoder.write_data.Goals as goal

-- what holds where the bytes were put
where_put : {T E P : Type 0} (r : Result T E) (new all old : List ℕ) → new ≡ (if is_ok r then all else old) → (new ≡ all → P) → OnOk r P
where_put (Ok x) new all old e f = f e
where_put (Err x) new all old e f = tt

-- octets that are those of the data in full
in_full : {T E : Type 0} (r : Result T E) (old new octets : List ℕ) (notes : Notes) (d : RData) → 12 ≤ length old → HasNames d → new ≡ (if is_ok r then old ++ octets else old) → octets ≡ data_octets d → OnOk r (WritesData old new notes notes d)
in_full r old new octets notes d low names e same = where_put r new (old ++ octets) old e (λ put. plain_data old new notes d low names (put ∙ ap (λ t. old ++ t) same))

put_in_full : {T E : Type 0} (r : Result T E) (old new octets : List ℕ) (notes : Notes) (d : RData) → 12 ≤ length old → HasNames d → OnOk r (new ≡ old ++ octets) → octets ≡ data_octets d → OnOk r (WritesData old new notes notes d)
put_in_full r old new octets notes d low names e same = on_ok_weaker r (λ put. plain_data old new notes d low names (put ∙ ap (λ t. old ++ t) same)) e

pub returns-in-A-clause-data : goal.returns-in-A-clause-data
returns-in-A-clause-data c =
    in_full c.extend_from_slice.result c.args.bytes.now.items c.extend_from_slice.new.self.items c.octets.result c.args.table.now c.args.rdata.now c.requires.header c.requires.names c.extend_from_slice.ensures.items
    (c.octets.ensures ∙ sym (ap data_octets c.in-A.is))

pub returns-in-AAAA-clause-data : goal.returns-in-AAAA-clause-data
returns-in-AAAA-clause-data c =
    in_full c.extend_from_slice-in-AAAA.result c.args.bytes.now.items c.extend_from_slice-in-AAAA.new.self.items c.octets-in-AAAA.result c.args.table.now c.args.rdata.now c.requires.header c.requires.names c.extend_from_slice-in-AAAA.ensures.items
    (c.octets-in-AAAA.ensures ∙ sym (ap data_octets c.in-AAAA.is))

pub returns-in-NS-clause-data : goal.returns-in-NS-clause-data
returns-in-NS-clause-data c =
    subst (λ d. OnOk c.write_compressed_name.result (WritesData c.args.bytes.now.items c.write_compressed_name.new.bytes.items c.args.table.now c.write_compressed_name.new.table d)) (sym c.in-NS.is)
    (on_ok_weaker c.write_compressed_name.result (λ w. name_data c.args.bytes.now.items c.write_compressed_name.new.bytes.items c.args.table.now c.write_compressed_name.new.table c.in-NS.name c.write_compressed_name.ensures.are w (rdata.NS c.in-NS.name) (λ bytes place next at. at) refl (λ octets. tt))
    c.write_compressed_name.ensures.labels)

pub returns-in-CNAME-clause-data : goal.returns-in-CNAME-clause-data
returns-in-CNAME-clause-data c =
    subst (λ d. OnOk c.write_compressed_name-in-CNAME.result (WritesData c.args.bytes.now.items c.write_compressed_name-in-CNAME.new.bytes.items c.args.table.now c.write_compressed_name-in-CNAME.new.table d)) (sym c.in-CNAME.is)
    (on_ok_weaker c.write_compressed_name-in-CNAME.result (λ w. name_data c.args.bytes.now.items c.write_compressed_name-in-CNAME.new.bytes.items c.args.table.now c.write_compressed_name-in-CNAME.new.table c.in-CNAME.name c.write_compressed_name-in-CNAME.ensures.are w (rdata.CNAME c.in-CNAME.name) (λ bytes place next at. at) refl (λ octets. tt))
    c.write_compressed_name-in-CNAME.ensures.labels)

pub returns-in-PTR-clause-data : goal.returns-in-PTR-clause-data
returns-in-PTR-clause-data c =
    subst (λ d. OnOk c.write_compressed_name-in-PTR.result (WritesData c.args.bytes.now.items c.write_compressed_name-in-PTR.new.bytes.items c.args.table.now c.write_compressed_name-in-PTR.new.table d)) (sym c.in-PTR.is)
    (on_ok_weaker c.write_compressed_name-in-PTR.result (λ w. name_data c.args.bytes.now.items c.write_compressed_name-in-PTR.new.bytes.items c.args.table.now c.write_compressed_name-in-PTR.new.table c.in-PTR.name c.write_compressed_name-in-PTR.ensures.are w (rdata.PTR c.in-PTR.name) (λ bytes place next at. at) refl (λ octets. tt))
    c.write_compressed_name-in-PTR.ensures.labels)

pub returns-in-TXT-clause-data : goal.returns-in-TXT-clause-data
returns-in-TXT-clause-data c =
    put_in_full c.write_strings.result c.args.bytes.now.items c.write_strings.new.bytes.items _ c.args.table.now c.args.rdata.now c.requires.header c.requires.names c.write_strings.ensures.bytes
    (rw c.as_slice.ensures refl ∙ sym (ap data_octets c.in-TXT.is))

pub returns-in-OPT-clause-data : goal.returns-in-OPT-clause-data
returns-in-OPT-clause-data c =
    put_in_full c.write_options.result c.args.bytes.now.items c.write_options.new.bytes.items _ c.args.table.now c.args.rdata.now c.requires.header c.requires.names c.write_options.ensures.bytes
    (rw c.as_slice-in-OPT.ensures refl ∙ sym (ap data_octets c.in-OPT.is))

pub returns-in-TSIG-clause-data : goal.returns-in-TSIG-clause-data
returns-in-TSIG-clause-data c =
    put_in_full c.write_signature_data.result c.args.bytes.now.items c.write_signature_data.new.bytes.items _ c.args.table.now c.args.rdata.now c.requires.header c.requires.names c.write_signature_data.ensures.bytes
    (rw c.get-in-TSIG.ensures refl ∙ sym (ap data_octets c.in-TSIG.is))

pub returns-in-NULL-clause-data : goal.returns-in-NULL-clause-data
returns-in-NULL-clause-data c =
    in_full c.extend_from_slice-in-NULL.result c.args.bytes.now.items c.extend_from_slice-in-NULL.new.self.items c.as_slice-in-NULL.result.now c.args.table.now c.args.rdata.now c.requires.header c.requires.names c.extend_from_slice-in-NULL.ensures.items
    (c.as_slice-in-NULL.ensures ∙ sym (ap data_octets c.in-NULL.is))

pub returns-in-Update0-clause-data : goal.returns-in-Update0-clause-data
returns-in-Update0-clause-data c =
    plain_data c.args.bytes.now.items c.args.bytes.now.items c.args.table.now c.args.rdata.now c.requires.header c.requires.names (sym (ap (λ d. c.args.bytes.now.items ++ data_octets d) c.in-Update0.is ∙ append-nil c.args.bytes.now.items))

pub returns-in-Unknown-clause-data : goal.returns-in-Unknown-clause-data
returns-in-Unknown-clause-data c =
    in_full c.extend_from_slice-in-Unknown.result c.args.bytes.now.items c.extend_from_slice-in-Unknown.new.self.items c.as_slice-in-Unknown.result.now c.args.table.now c.args.rdata.now c.requires.header c.requires.names c.extend_from_slice-in-Unknown.ensures.items
    (c.as_slice-in-Unknown.ensures ∙ sym (ap data_octets c.in-Unknown.is))

pub returns-in-AAAA-clause-in_range : goal.returns-in-AAAA-clause-in_range
returns-in-AAAA-clause-in_range c =
    let size : length c.octets-in-AAAA.result ≡ 16 = search rules in
    let old = c.args.bytes.now.items in
    let new = c.extend_from_slice-in-AAAA.new.self.items in
    where_put c.extend_from_slice-in-AAAA.result new (old ++ c.octets-in-AAAA.result) old c.extend_from_slice-in-AAAA.ensures.items
    (λ put. subst IsInRange (sym c.in-AAAA.is) (ipv6_in_range c.in-AAAA.address old c.octets-in-AAAA.result new c.octets-in-AAAA.ensures size put (are_bytes new c.type_inv.bytes)))
