-- When notices are sent, sent again and given up, and what ends them (RFC 1996 sections 3.3, 3.6, 3.12 and 4.8). Times are
-- milliseconds of a clock that does not go back.
use Rattle.std.specs.Prelude.{◌≡◌, ◌<◌, ◌+◌, ◌-◌, ◌*◌, ◌^◌, ◌==◌, ◌&&◌, ℕ, suc, Bool, true, nat_lt, nat_le, min, not, if◌then◌else◌, List, [], ◌∷◌, ◌++◌, length, take, filter, fold, map, position, remove, slice_get, slice_set, Option, Some, None}
use Rattle.std.specs.List.{list_any}
use Rattle.wire_names.specs.rr.domain.DomainName.{DomainName}
use Rattle.wire_names.specs.rr.domain.NameOrder.{name_eq}
use Rattle.wire_messages.specs.declared.rr.rdata.SOA.{SOA}
use Rattle.wire_reading.specs.declared.op.message.Message.{Message}
use Rattle.wire_reading.specs.serialize.reading.MessageReading.{Reads}
use Rattle.notices.specs.Messages.{is_answered, notice_octets, same_target}
use Rattle.notices.specs.declared.notice.Notice.{Notice}
use Rattle.notices.specs.declared.notice.Target.{Target}
use Rattle.notices.specs.declared.notices.Datagram.{Datagram}
use Rattle.notices.specs.declared.notices.Heard.{Heard}
use Rattle.notices.specs.declared.notices.Heard.TheVariants.{Answered, Ignored, Refused}

-- A notice is sent once, and at most five times again (RFC 1996 section 3.6).
abbrev pub most_sent : ℕ
most_sent = 6

-- so many notices wait at most
abbrev pub most_waiting : ℕ
most_waiting = 4096

-- How long an answer is waited for after so many sendings: 2 seconds at first, and each time twice as long.
abbrev pub wait_after : ℕ → ℕ
wait_after sent = 2 ^ sent * 1000

-- the moment after a wait; the last one that the clock can show stands for all later ones
abbrev pub moment_after : ℕ → ℕ → ℕ
moment_after now wait = min (now + wait) (2 ^ 64 - 1)

-- whether a notice is to be sent now
abbrev pub is_due : ℕ → Notice → Bool
is_due now n = nat_lt n.sent most_sent && nat_le n.next now

-- whether a notice was sent so often, and its last answer waited for so long, that it is given up
abbrev pub is_over : ℕ → Notice → Bool
is_over now n = n.sent == most_sent && nat_le n.next now

-- a notice of a zone that has this SOA from now on
abbrev pub first_notice : DomainName → ℕ → SOA → ℕ → Target → Notice
first_notice zone ttl soa now target = record { zone = zone; ttl = ttl; soa = soa; target = target; id = 0; sent = 0; next = now }

-- a notice that was sent now with this id
abbrev pub sent_at : ℕ → ℕ → Notice → Notice
sent_at now id n = record n { id = id; sent = n.sent + 1; next = moment_after now (wait_after (n.sent + 1)) }

-- the notices that are not of a zone
abbrev pub without : DomainName → List Notice → List Notice
without zone notices = filter (λ n. not (name_eq n.zone zone)) notices

-- targets with one more, unless it is among them
abbrev pub with_target : List Target → Target → List Target
with_target told target = if list_any (λ t. same_target t target) told then told else told ++ target ∷ []

-- each target once
abbrev pub each_once : List Target → List Target
each_once targets = fold with_target [] targets

-- The notices after a zone has got this SOA. Of the zone, only one notice to each target waits, as far as there is room
-- (RFC 1996 section 4.2).
abbrev pub announced : List Notice → DomainName → ℕ → SOA → List Target → ℕ → List Notice
announced old zone ttl soa targets now =
    without zone old ++ take (most_waiting - length (without zone old)) (map (first_notice zone ttl soa now) (each_once targets))

-- The first notice that passes the test is taken out, or none does and nothing changes.
abbrev pub TakesOut : (Notice → Bool) → List Notice → List Notice → Option Notice → Type 0
TakesOut test old new None = (position test old ≡ None) × (new ≡ old)
TakesOut test old new (Some n) = (place : ℕ) × (position test old ≡ Some place) × (slice_get old place ≡ Some n) × (new ≡ remove old place)

-- The first notice that is due is sent, of this id; or none is due, and nothing changes.
abbrev pub Sends : ℕ → ℕ → List Notice → List Notice → Option Datagram → Type 0
Sends now id old new None = (position (is_due now) old ≡ None) × (new ≡ old)
Sends now id old new (Some d) =
    (place : ℕ) × (n : Notice) × (position (is_due now) old ≡ Some place) × (slice_get old place ≡ Some n) × (d.to ≡ n.target)
    × (d.bytes.items ≡ notice_octets id n.zone n.ttl n.soa) × (new ≡ slice_set old place (sent_at now id n))

-- A message that came from a server means this. It is ignored if it answers no notice. An answer of any code ends the
-- notice (RFC 1996 sections 3.6, 3.12 and 4.8).
abbrev pub HearsMessage : Target → Message → List Notice → List Notice → Heard → Type 0
HearsMessage from m old new Ignored = TakesOut (is_answered from m) old new None
HearsMessage from m old new (Answered n) = (m.metadata.response_code ≡ 0) × TakesOut (is_answered from m) old new (Some n)
HearsMessage from m old new (Refused n code) = (m.metadata.response_code ≡ code) × (0 < code) × TakesOut (is_answered from m) old new (Some n)

-- A datagram means what its message means; it is ignored if there is no message.
pub data Hears (from : Target) (bytes : List ℕ) (old new : List Notice) (heard : Heard) : Type 0 where
  no_message : ((m : Message) → Reads bytes m → ⊥) → heard ≡ Ignored → new ≡ old → Hears from bytes old new heard
  message : (m : Message) → Reads bytes m → HearsMessage from m old new heard → Hears from bytes old new heard

-- A notice is sent so often, each time when it is due, and so becomes another.
pub data Sendings (n : Notice) : ℕ → Notice → Type 0 where
  none : Sendings n 0 n
  more : {count : ℕ} {m : Notice} (now id : ℕ) → Sendings n count m → is_due now m ≡ true → Sendings n (suc count) (sent_at now id m)
