-- What data are that were read: those of an OPT, of a TSIG, or others, which go among the records.
use Rattle.std.proofs.Common.{◌≡◌, ℕ, ◌+◌, List, [], ◌∷◌, ◌++◌, false, eqb, Ok, refl}
use Rattle.std.specs.List.{AllByRecursion}
use Rattle.std.proofs.lemmas.Bool.{ne_eqb}
use Rattle.wire_messages.specs.serialize.layout.MessageLayout.{ItemsAt}
use Rattle.wire_messages.specs.rr.RecordData.{type_of}
use Rattle.wire_messages.specs.serialize.layout.RecordLayout.{DataRead, RecordAt}
use Rattle.wire_messages.specs.serialize.reading.SectionReading.{Additionals, placed}
use Rattle.wire_messages.specs.declared.op.edns.EdnsOption.{EdnsOption}
use Rattle.wire_messages.specs.declared.rr.rdata.RData.{RData}
use Rattle.wire_messages.specs.declared.rr.rdata.RData.TheVariants as rdata
use Rattle.wire_messages.specs.declared.rr.record.Record.{Record}
use Rattle.wire_messages.specs.declared.rr.tsig.TSIG.{TSIG}

pub data Sort (content : RData) : Type 0 where
  an_opt : (options : List EdnsOption) → content ≡ rdata.OPT options → Sort content
  a_tsig : (signature : TSIG) → content ≡ rdata.TSIG signature → Sort content
  other : eqb (type_of content) 41 ≡ false → eqb (type_of content) 250 ≡ false
      → ((x : Additionals) (r : Record RData) → placed x r content ≡ Ok (record x { records = x.records ++ r ∷ [] })) → Sort content

-- each data that are read are of one of these sorts
sort_of : (bytes : List ℕ) (place : ℕ) (content : RData) (next : ℕ) → DataRead bytes place content next → Sort content
sort_of bytes place (rdata.A address) next d = other refl refl (λ x r. refl)
sort_of bytes place (rdata.AAAA address) next d = other refl refl (λ x r. refl)
sort_of bytes place (rdata.NS name) next d = other refl refl (λ x r. refl)
sort_of bytes place (rdata.CNAME name) next d = other refl refl (λ x r. refl)
sort_of bytes place (rdata.PTR name) next d = other refl refl (λ x r. refl)
sort_of bytes place (rdata.MX mx) next d = other refl refl (λ x r. refl)
sort_of bytes place (rdata.SOA soa) next d = other refl refl (λ x r. refl)
sort_of bytes place (rdata.TXT strings) next d = other refl refl (λ x r. refl)
sort_of bytes place (rdata.OPT options) next d = an_opt options refl
sort_of bytes place (rdata.TSIG signature) next d = a_tsig signature refl
sort_of bytes place (rdata.NULL octets) next d = other refl refl (λ x r. refl)
sort_of bytes place (rdata.Update0 code) next d = other (ne_eqb code 41 d.1.1.0) (ne_eqb code 250 d.1.1.1) (λ x r. refl)
sort_of bytes place (rdata.Unknown code octets) next d = other (ne_eqb code 41 d.1.1.10) (ne_eqb code 250 d.1.1.11) (λ x r. refl)

-- each record's data are of some sort
abbrev pub AreSorted : List (Record RData) → Type 0
AreSorted rs = AllByRecursion (λ r. Sort r.rdata) rs

-- so are those of records that stand one behind the other
pub sorts_of : (bytes : List ℕ) (place : ℕ) (rs : List (Record RData)) (next : ℕ) → ItemsAt (RecordAt bytes) place rs next → AreSorted rs
sorts_of bytes place [] next e = tt
sorts_of bytes place (r ∷ rs) next (middle, at, more) = (sort_of bytes (at.middle + 10) r.rdata middle at.rdata, sorts_of bytes middle rs next more)
