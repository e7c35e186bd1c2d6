-- What the failure of a lookup tells.
use Rattle.std.specs.Prelude.{◌==◌, Bool, true, false, List, Option, Some, None}
use Rattle.wire_messages.specs.Numbers.{code_nx_domain}
use Rattle.wire_messages.specs.declared.rr.rdata.RData.{RData}
use Rattle.wire_messages.specs.declared.rr.record.Record.{Record}
use Rattle.hickory_base.specs.declared.errors.DnsError.TheVariants.{NoRecords}
use Rattle.hickory_base.specs.declared.errors.LookupError.{LookupError}
use Rattle.hickory_base.specs.declared.errors.LookupError.TheVariants.{ResponseCode, Net}

-- the name does not exist: the response code is NXDomain (RFC 1035 section 4.1.1)
abbrev pub is_nx_domain : LookupError → Bool
is_nx_domain (ResponseCode code) = code == code_nx_domain
is_nx_domain (Net (NoRecords code authorities soa)) = code == code_nx_domain
is_nx_domain other = false

-- there are no records of the name and type
abbrev pub is_no_records_found : LookupError → Bool
is_no_records_found (Net (NoRecords code authorities soa)) = true
is_no_records_found other = false

-- the authority section that came with it
abbrev pub authorities_of : LookupError → Option (List (Record RData))
authorities_of (Net (NoRecords code authorities soa)) = Some authorities
authorities_of other = None

-- the SOA record that came with it
abbrev pub soa_of : LookupError → Option (Record RData)
soa_of (Net (NoRecords code authorities soa)) = soa
soa_of other = None
