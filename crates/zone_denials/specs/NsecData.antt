-- The data of an NSEC record as octets (RFC 4034 section 4.1): the next owner name, which is not compressed, and the type
-- bit map.
use Rattle.std.specs.Prelude.{ℕ, List, Option, None, drop, Ok, Err}
use Rattle.std.specs.Option.{option_map}
use Rattle.wire_names.specs.rr.domain.DomainName.{DomainName}
use Rattle.wire_messages.specs.serialize.reading.NameReading.{name}
use Rattle.wire_messages.specs.serialize.reading.Reading.{Read}
use Rattle.zone_denials.specs.Nsec.{Nsec}
use Rattle.zone_denials.specs.TypeBits.{types_in}
use Rattle.zone_denials.specs.declared.nsec.NsecData.{NsecData}

-- the NSEC record of an owner and such data
abbrev pub nsec_by : DomainName → NsecData → Nsec
nsec_by owner it = record { owner = owner; next = it.next; types = it.types.items }

abbrev pub with_types : DomainName → DomainName → List ℕ → Option Nsec
with_types owner next octets = option_map (λ (types : List ℕ). let n : Nsec = record { owner = owner; next = next; types = types } in n) (types_in octets)

abbrev pub with_next : DomainName → List ℕ → Read DomainName → Option Nsec
with_next owner octets (Ok x) = with_types owner x.0 (drop x.1.place octets)
with_next owner octets (Err e) = None

-- the NSEC record of an owner and octets, if these have the form of its data
abbrev pub nsec_in : DomainName → List ℕ → Option Nsec
nsec_in owner octets = with_next owner octets (name (record { bytes = octets; place = 0 }))
