-- What is counted of messages and replies.
use Rattle.std.specs.Prelude.{◌+◌, ◌-◌, ◌/◌, ◌%◌, ◌^◌, ◌∷◌, ℕ, Bool, List, false, get_or, if◌then◌else◌, length, min, nat_eq, replicate, set, true}
use Rattle.server_reports.specs.declared.counters.Counters.{Counters}
use Rattle.server_reports.specs.declared.counters.Unanswered.{Unanswered}
use Rattle.server_reports.specs.declared.counters.Unanswered.TheVariants.{Denied, Dropped, Limited, Response, Unreadable}

-- a count with so many more, as 64 bits tell it: the greatest number that they hold stands for all above it
abbrev pub more : ℕ → ℕ → ℕ
more count by = min (count + by) (2 ^ 64 - 1)

-- nothing is counted
abbrev pub no_counts : Counters
no_counts = record { udp = 0; tcp = 0; received = 0; denied = 0; responses = 0; unreadable = 0; dropped = 0; limited = 0; codes = replicate 16 0; truncated = 0; sent = 0 }

-- A message of so many bytes came over a stream, or as a datagram.
abbrev pub message_counted : Counters → Bool → ℕ → Counters
message_counted counts true size = record counts { tcp = more counts.tcp 1; received = more counts.received size }
message_counted counts false size = record counts { udp = more counts.udp 1; received = more counts.received size }

-- A message got no reply.
abbrev pub unanswered_counted : Counters → Unanswered → Counters
unanswered_counted counts Denied = record counts { denied = more counts.denied 1 }
unanswered_counted counts Response = record counts { responses = more counts.responses 1 }
unanswered_counted counts Unreadable = record counts { unreadable = more counts.unreadable 1 }
unanswered_counted counts Dropped = record counts { dropped = more counts.dropped 1 }
unanswered_counted counts Limited = record counts { limited = more counts.limited 1 }

-- the response code of a header, of which the fourth byte has this value: its lower four bits (RFC 1035 section 4.1.1)
abbrev pub code_in : ℕ → ℕ
code_in low = low % 16

-- A header whose third byte has this value says that its message is truncated: its second lowest bit (RFC 1035 section
-- 4.1.1).
abbrev pub says_truncated : ℕ → Bool
says_truncated high = nat_eq (high / 2 % 2) 1

-- The reply is counted by its code and whether it is truncated.
abbrev pub header_counted : Counters → ℕ → ℕ → Counters
header_counted counts high low = record counts {
  codes = set counts.codes (code_in low) (more (get_or counts.codes (code_in low) 0) 1);
  truncated = more counts.truncated (if says_truncated high then 1 else 0);
}

-- A reply of these bytes was sent. Of less than the flags of a header only the bytes are counted.
abbrev pub reply_counted : Counters → List ℕ → Counters
reply_counted counts (a ∷ b ∷ high ∷ low ∷ rest) = header_counted (record counts { sent = more counts.sent (length (a ∷ b ∷ high ∷ low ∷ rest)) }) high low
reply_counted counts few = record counts { sent = more counts.sent (length few) }
