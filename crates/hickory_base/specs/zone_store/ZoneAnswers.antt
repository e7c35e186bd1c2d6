-- What a zone held in memory answers: its own records, with no CNAME followed, no wildcard and no delegation.
use Rattle.std.specs.Prelude.{◌≡◌, ◌==◌, ◌⊎◌, ℕ, Bool, cond, false, not, List, [], ◌∷◌, ◌++◌, drop, filter, take, Option, Some, None, Result, Ok, Err}
use Rattle.std.specs.List.{flat_map, list_any}
use Rattle.std.specs.Map.{lookup}
use Rattle.wire_names.specs.rr.domain.DomainName.{DomainName}
use Rattle.wire_names.specs.rr.domain.NameOrder.{lower_name}
use Rattle.wire_messages.specs.Numbers.{code_no_error, code_nx_domain, code_refused, code_serv_fail, type_any, type_soa}
use Rattle.wire_messages.specs.declared.op.query.Query.{Query}
use Rattle.wire_messages.specs.declared.rr.rdata.RData.{RData}
use Rattle.wire_messages.specs.declared.rr.rdata.RData.TheVariants as rdata
use Rattle.wire_messages.specs.declared.rr.record.Record.{Record}
use Rattle.wire_messages.specs.declared.rr.tsig.TSigResponseContext.{TSigResponseContext}
use Rattle.hickory_base.specs.zone_store.Lookups.{Flow}
use Rattle.hickory_base.specs.requests.Questions.{one_query}
use Rattle.hickory_base.specs.requests.Requests.{ReceivedRequest}
use Rattle.hickory_base.specs.zone_store.ZoneSets.{is_key, has_name}
use Rattle.hickory_base.specs.declared.errors.DnsError.TheVariants.{NoRecords}
use Rattle.hickory_base.specs.declared.errors.LookupError.{LookupError}
use Rattle.hickory_base.specs.declared.errors.LookupError.TheVariants.{ResponseCode, Net, Memory}
use Rattle.hickory_base.specs.declared.zone_store.handler.AxfrPolicy.{AxfrPolicy}
use Rattle.hickory_base.specs.declared.zone_store.handler.AxfrPolicy.TheVariants.{Deny, AllowAll, AllowSigned}
use Rattle.hickory_base.specs.declared.zone_store.handler.ZoneType.{ZoneType}
use Rattle.hickory_base.specs.declared.zone_store.lookup.AuthLookup.{AuthLookup}
use Rattle.hickory_base.specs.declared.zone_store.lookup.AuthLookup.TheVariants.{Records}
use Rattle.hickory_base.specs.declared.zone_store.lookup.LookupControlFlow.TheVariants.{Continue, Break}
use Rattle.hickory_base.specs.declared.zone_store.lookup.ZoneTransfer.{ZoneTransfer}
use Rattle.wire_messages.specs.declared.rr.rr_key.RrKey.{RrKey}

-- a zone in memory, with its sets in the order of their keys
pub record MemoryZone : Type 0 where
  pub origin : DomainName
  pub zone_type : ZoneType
  pub axfr_policy : AxfrPolicy
  pub sets : List (RrKey × List (Record RData))

-- The result is the one expected, or memory was refused.
abbrev pub OrMemory : {T : Type 0} → Result T LookupError → Result T LookupError → Type 0
OrMemory expected result = (result ≡ expected) ⊎ (result ≡ Err Memory)

abbrev pub found : List (Record RData) → Result AuthLookup LookupError
found records = Ok (Records records [])

-- the name has no records at all: NXDomain (RFC 1035 section 4.1.1)
abbrev pub no_name : Result AuthLookup LookupError
no_name = Err (ResponseCode code_nx_domain)

-- the name has records of other types alone (RFC 2308 section 2.2)
abbrev pub no_data : Result AuthLookup LookupError
no_data = Err (Net (NoRecords code_no_error [] None))

abbrev pub is_in_use : DomainName → List (RrKey × List (Record RData)) → Bool
is_in_use name sets = list_any (λ e. has_name name e.0) sets

-- the records of the name, of whatever type
abbrev pub records_at : DomainName → List (RrKey × List (Record RData)) → List (Record RData)
records_at name sets = flat_map (λ e. e.1) (filter (λ e. has_name name e.0) sets)

-- for any type (RFC 1035 section 3.2.3) all records of the name
abbrev pub any_answer : List (RrKey × List (Record RData)) → DomainName → Result AuthLookup LookupError
any_answer sets name = cond (is_in_use name sets) (found (records_at name sets)) no_name

-- the set of the name and type, where there is one
abbrev pub set_or_denial : Option (List (Record RData)) → Bool → Result AuthLookup LookupError
set_or_denial (Some records) others = found records
set_or_denial None others = cond others no_data no_name

abbrev pub set_answer : List (RrKey × List (Record RData)) → DomainName → ℕ → Result AuthLookup LookupError
set_answer sets name record_type = set_or_denial (lookup (is_key name record_type) sets) (is_in_use name sets)

-- what is answered for a name and a type, which may be any type
abbrev pub zone_answer : List (RrKey × List (Record RData)) → DomainName → ℕ → Result AuthLookup LookupError
zone_answer sets name record_type = cond (record_type == type_any) (any_answer sets name) (set_answer sets name record_type)

-- a lookup
abbrev pub LookedUp : MemoryZone → DomainName → ℕ → Flow → Type 0
LookedUp zone name record_type answer = (result : _) × OrMemory (zone_answer zone.sets name record_type) result × (answer ≡ Continue result)

abbrev pub SearchedFor : MemoryZone → Result Query LookupError → Flow → Type 0
SearchedFor zone (Ok query) answer = LookedUp zone (lower_name query.name) query.query_type answer
SearchedFor zone (Err e) answer = answer ≡ Break (Err e)

-- one set is asked for: by a question, and not for any type
abbrev pub asks_for_set : Result Query LookupError → Bool
asks_for_set (Ok query) = not (query.query_type == type_any)
asks_for_set (Err e) = false

-- a request: its one question is looked up
abbrev pub Searched : MemoryZone → ReceivedRequest → Flow → Type 0
Searched zone request answer = SearchedFor zone (one_query request.message.queries.queries) answer

abbrev pub first_record : Option (List (Record RData)) → Option (Record RData)
first_record (Some (r ∷ rs)) = Some r
first_record other = None

-- the SOA record of the zone (RFC 1034 section 4.2.1): the first of the set of that type at the origin
abbrev pub zone_soa : MemoryZone → Option (Record RData)
zone_soa zone = first_record (lookup (is_key zone.origin type_soa) zone.sets)

abbrev pub soa_serial : Option (Record RData) → ℕ
soa_serial None = 0
soa_serial (Some r) = serial_in r.rdata where
  serial_in : RData → ℕ
  serial_in (rdata.SOA soa) = soa.serial
  serial_in other = 0

-- all records but that SOA, in the order of the sets
abbrev pub other_records : MemoryZone → List (Record RData)
other_records zone = flat_map (λ e. cond (is_key zone.origin type_soa e.0) (drop 1 e.1) e.1) zone.sets

-- the SOA, all other records, and the SOA again (RFC 5936 section 2.2); without an SOA ServFail
abbrev pub whole_zone : MemoryZone → Option (Record RData) → Result ZoneTransfer LookupError
whole_zone zone None = Err (ResponseCode code_serv_fail)
whole_zone zone (Some soa) = Ok (record { records = soa ∷ other_records zone ++ soa ∷ [] })

abbrev pub allowed_transfer : MemoryZone → AxfrPolicy → Result ZoneTransfer LookupError
allowed_transfer zone AllowAll = whole_zone zone (zone_soa zone)
allowed_transfer zone Deny = Err (ResponseCode code_refused)
allowed_transfer zone AllowSigned = Err (ResponseCode code_refused)

-- the whole zone, and Refused unless everybody may have it
abbrev pub transfer_answer : MemoryZone → Result ZoneTransfer LookupError
transfer_answer zone = allowed_transfer zone zone.axfr_policy

-- of a transfer the first record alone, which is the SOA
abbrev pub soa_alone : Result ZoneTransfer LookupError → Result ZoneTransfer LookupError
soa_alone (Ok transfer) = Ok (record { records = take 1 transfer.records })
soa_alone (Err e) = Err e

-- the SOA alone in the place of a transfer
abbrev pub SoaTransferred : MemoryZone → Option (Result ZoneTransfer LookupError × Option TSigResponseContext) → Type 0
SoaTransferred zone answer = (result : _) × OrMemory (soa_alone (transfer_answer zone)) result × (answer ≡ Some (result, None))

-- a transfer, which no context goes with
abbrev pub Transferred : MemoryZone → Option (Result ZoneTransfer LookupError × Option TSigResponseContext) → Type 0
Transferred zone answer = (result : _) × OrMemory (transfer_answer zone) result × (answer ≡ Some (result, None))
