-- What a zone answers in which every name has one address and nothing else.
use Rattle.std.specs.Prelude.{◌≡◌, ◌≢◌, ◌⊎◌, ℕ, [], ◌∷◌, Result, Ok, Err, None}
use Rattle.std.specs.declared.net.ipv4_addr.Ipv4Addr.{Ipv4Addr}
use Rattle.wire_names.specs.rr.domain.DomainName.{DomainName}
use Rattle.wire_names.specs.rr.domain.NameOrder.{lower_name}
use Rattle.wire_messages.specs.declared.op.query.Query.{Query}
use Rattle.wire_messages.specs.declared.rr.rdata.RData.{RData}
use Rattle.wire_messages.specs.declared.rr.rdata.RData.TheVariants.{A}
use Rattle.wire_messages.specs.declared.rr.record.Proof.TheVariants.{Indeterminate}
use Rattle.wire_messages.specs.declared.rr.record.Record.{Record}
use Rattle.hickory_base.specs.zone_store.Lookups.{Flow}
use Rattle.hickory_base.specs.declared.errors.DnsError.TheVariants.{NoRecords}
use Rattle.hickory_base.specs.declared.errors.LookupError.{LookupError}
use Rattle.hickory_base.specs.declared.errors.LookupError.TheVariants.{Memory, Net}
use Rattle.hickory_base.specs.declared.zone_store.lookup.AuthLookup.TheVariants.{Records}
use Rattle.hickory_base.specs.declared.zone_store.lookup.LookupControlFlow.TheVariants.{Continue}

-- the record of a name: class IN, which is 1, for five minutes
abbrev pub address_record : Ipv4Addr → DomainName → Record RData
address_record address name = record { name = name; dns_class = 1; ttl = 300; rdata = A address; proof = Indeterminate }

-- A question of type A, which is 1, is answered with the address, and any other finds no data; or memory was refused.
abbrev pub IsParked : Ipv4Addr → DomainName → ℕ → Flow → Type 0
IsParked address name record_type answer =
    ((record_type ≡ 1) × (answer ≡ Continue (Ok (Records (address_record address name ∷ []) []))))
    ⊎ ((record_type ≢ 1) × (answer ≡ Continue (Err (Net (NoRecords 0 [] None)))))
    ⊎ (answer ≡ Continue (Err Memory))

-- The one question of a request is answered so.
abbrev pub IsParkedFor : Ipv4Addr → Result Query LookupError → Flow → Type 0
IsParkedFor address (Ok query) answer = IsParked address (lower_name query.name) query.query_type answer
IsParkedFor address (Err e) answer = answer ≡ Continue (Err e)
