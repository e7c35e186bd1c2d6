-- What a zone replies to a query, as one whole reply.
use Rattle.std.specs.Prelude.{◌≡◌, ◌==◌, ◌||◌, ℕ, Bool, true, false, cond, not, min, [], length}
use Rattle.std.specs.Option.{option_map, option_to_list}
use Rattle.wire_names.specs.rr.domain.DomainName.{DomainName}
use Rattle.wire_names.specs.rr.domain.NameOrder.{lower_name}
use Rattle.wire_messages.specs.Numbers.{class_any, class_in, code_no_error, code_nx_domain, code_refused, code_yx_domain, type_soa}
use Rattle.wire_messages.specs.declared.op.query.Query.{Query}
use Rattle.wire_messages.specs.declared.rr.rdata.RData.{RData}
use Rattle.wire_messages.specs.declared.rr.rdata.RData.TheVariants as rdata
use Rattle.wire_messages.specs.declared.rr.record.Record.{Record}
use Rattle.hickory_base.specs.zone_store.ZoneAnswers.{MemoryZone, first_record}
use Rattle.hickory_base.specs.declared.zone_store.lookup.WholeReply.{WholeReply}
use Rattle.zone_answers.specs.declared.additionals.Source.TheVariants as source
use Rattle.zone_answers.specs.Additionals.{AreAdditionals}
use Rattle.zone_answers.specs.Chains.{Chases, IsIn}
use Rattle.zone_answers.specs.Endings.{Ending}
use Rattle.zone_answers.specs.Endings as ended
use Rattle.zone_answers.specs.Zones.{Records, Zone, rrset}

-- a zone in memory as its apex and its RRsets
abbrev pub as_zone : MemoryZone → Zone
as_zone zone = record { origin = zone.origin; sets = zone.sets }

-- a reply by its code, AA, and the answer, authority and additional sections
abbrev pub whole : ℕ → Bool → Records → Records → Records → WholeReply
whole code authoritative answers authorities additionals = record { response_code = code; authoritative = authoritative; answers = answers; authorities = authorities; additionals = additionals }

-- how long a denial may be kept: the lesser of the TTL of the SOA and its field MINIMUM (RFC 2308 section 3)
abbrev pub denial_ttl : ℕ → RData → ℕ
denial_ttl ttl (rdata.SOA soa) = min ttl soa.minimum
denial_ttl ttl other = ttl

abbrev pub for_denial : Record RData → Record RData
for_denial r = record r { ttl = denial_ttl r.ttl r.rdata }

-- the SOA record of the zone, as it stands in the authority section of a denial
abbrev pub denial_soa : Zone → Records
denial_soa zone = option_to_list (option_map for_denial (first_record (rrset zone.sets zone.origin type_soa)))

-- What is replied where the answer section has these records of a chain, which ends so. The code is that of the last
-- name of the chain (RFC 6604 section 3), YXDOMAIN where a DNAME makes it too long (RFC 6672 section 2.2). AA is that
-- of the first name of the answer section (RFC 1035 section 4.1.1), so a referral has it behind an alias alone (RFC
-- 1034 section 6.2.6). Servers of a zone below stand in the authority section (RFC 1034 section 4.3.2, step 3b), and so
-- does the SOA of a denial (RFC 2308 section 3).
abbrev pub reply_of : Zone → Records → Ending → Records → WholeReply
reply_of zone chain ended.answer additionals = whole code_no_error true chain [] additionals
reply_of zone chain (ended.referral servers) additionals = whole code_no_error (not (length chain == 0)) chain servers additionals
reply_of zone chain ended.no_data additionals = whole code_no_error true chain (denial_soa zone) additionals
reply_of zone chain ended.no_name additionals = whole code_nx_domain true chain (denial_soa zone) additionals
reply_of zone chain ended.name_too_long additionals = whole code_yx_domain true chain [] additionals
reply_of zone chain ended.left_open additionals = whole code_no_error true chain [] additionals

-- The additional section: the addresses of the hosts that the answers name, or of the servers of a zone below.
abbrev pub IsCompleted : Zone → Records → Ending → Records → Type 0
IsCompleted zone chain ended.answer additionals = AreAdditionals source.Answer zone chain chain additionals
IsCompleted zone chain (ended.referral servers) additionals = AreAdditionals source.Glue zone chain servers additionals
IsCompleted zone chain other additionals = additionals ≡ []

-- The reply where the answer section has these records of a chain, which ends so.
pub record EndsIn (zone : Zone) (chain : Records) (ending : Ending) (reply : WholeReply) : Type 0 where
  pub additionals : Records
  pub completed : IsCompleted zone chain ending additionals
  pub is : reply ≡ reply_of zone chain ending additionals

-- how many CNAMEs are followed
abbrev pub most_aliases : ℕ
most_aliases = 8

-- class IN, or any class (RFC 1035 sections 3.2.4 and 3.2.5)
abbrev pub is_class : ℕ → Bool
is_class class = class == class_in || class == class_any

-- The question is of a name in the zone and of its class, which is IN.
pub record IsOfZone (zone : Zone) (query : Query) : Type 0 where
  pub within : IsIn zone (lower_name query.name)
  pub class : is_class query.query_class ≡ true

-- What the zone replies where a name in it and a type are asked for.
pub record IsReplied (zone : Zone) (name : DomainName) (t : ℕ) (reply : WholeReply) : Type 0 where
  pub chain : Records
  pub ending : Ending
  pub chases : Chases zone t most_aliases [] name chain ending
  pub ends_in : EndsIn zone chain ending reply

-- the reply to a question of this class: no reply to any class is authoritative (RFC 1035 section 6.2)
abbrev pub in_class : ℕ → WholeReply → WholeReply
in_class class reply = cond (class == class_any) (record reply { authoritative = false }) reply

-- What the zone replies to a question. One that is not of it is refused, and not as authority (RFC 1035 section 4.1.1).
pub data RepliesTo (zone : Zone) (query : Query) : WholeReply → Type 0 where
  refuses : ¬ (IsOfZone zone query) → RepliesTo zone query (whole code_refused false [] [] [])
  replies : {reply : WholeReply} → IsOfZone zone query → IsReplied zone query.name query.query_type reply → RepliesTo zone query (in_class query.query_class reply)

-- A zone has at most one reply to a question.
abbrev pub OneReply : Type 0
OneReply = (zone : Zone) (query : Query) (one other : WholeReply) → RepliesTo zone query one → RepliesTo zone query other → one ≡ other
