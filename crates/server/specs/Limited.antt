-- What becomes of what was written in answer to a datagram, if networks of clients get so many replies.
use Rattle.std.specs.Prelude.{◌≡◌, ◌≢◌, ◌⊎◌, ◌*◌, [], ℕ, Bool, List, None, Option, Some, false, replicate, true}
use Rattle.server_limits.specs.Limits.{Limits, counted_before, empty, one_more, verdict_of}
use Rattle.server_limits.specs.Truncating.{IsTruncated}
use Rattle.server_limits.specs.declared.limits.Verdict.{Verdict}
use Rattle.server_limits.specs.declared.limits.Verdict.TheVariants.{Drop, Send, Truncate}
use Rattle.server.specs.Calls.{ToldOfMessage, replies_in}
use Rattle.server.specs.Frames.{BeginsWith, IsFrame}

-- What the limits say of a reply to this address.
abbrev pub verdict_on : Limits → List ℕ → ℕ → Verdict
verdict_on limits address now = verdict_of limits.limit limits.slip (counted_before limits address now)

-- In the place of a reply that was written, one is written that says that the whole is to be had over TCP. Or nothing
-- is, without memory for it or if the reply has no question, and the number 8 says so.
abbrev pub IsShortened : List ℕ → ℕ → List ℕ → Type 0
IsShortened old number new = ((number ≡ 0) × (reply : List ℕ) × (short : List ℕ) × BeginsWith old reply × IsTruncated reply short × IsFrame new short) ⊎ ((number ≡ 8) × (new ≡ []))

-- What was written of a reply becomes this by the limits, and this number is answered: 8 says that nothing is sent.
pub data IsReplyLimited (limits : Limits) (address : List ℕ) (now : ℕ) (old : List ℕ) (number : ℕ) (new : List ℕ) : Type 0 where
  sent : verdict_on limits address now ≡ Send → number ≡ 0 → new ≡ old → IsReplyLimited limits address now old number new
  shortened : verdict_on limits address now ≡ Truncate → IsShortened old number new → IsReplyLimited limits address now old number new
  dropped : verdict_on limits address now ≡ Drop → number ≡ 8 → new ≡ [] → IsReplyLimited limits address now old number new

-- the client of a message as C gives it: the bytes of its address, whether it came over a stream, and the moment in
-- seconds since 1970
pub record Client : Type 0 where
  pub address : List ℕ
  pub stream : Bool
  pub now : ℕ

-- What is told of a message becomes this, if replies to datagrams may be limited, and so do the limits.
pub data IsLimited (limits : Option Limits) (client : Client) (made told : ToldOfMessage) (after : Option Limits) : Type 0 where
  -- Nothing was written, or it is for a stream, or there are no limits.
  free : (made.number ≢ 0) ⊎ ((client.stream ≡ true) ⊎ ((replies_in made ≡ []) ⊎ (limits ≡ None))) → told.number ≡ made.number → replies_in told ≡ replies_in made → after ≡ limits
      → IsLimited limits client made told after
  limited : (those : Limits) → made.number ≡ 0 → client.stream ≡ false → limits ≡ Some those
      → IsReplyLimited those client.address client.now (replies_in made) told.number (replies_in told) → after ≡ Some (one_more those client.address client.now)
      → IsLimited limits client made told after

-- These are the limits of so many replies a second, of which above that each so many is truncated; there are none where
-- the rate is 0.
abbrev pub AreLimitsOf : ℕ → ℕ → Option Limits → Type 0
AreLimitsOf rate slip None = rate ≡ 0
AreLimitsOf rate slip (Some limits) = (rate ≢ 0) × (limits ≡ record { limit = rate * 1; slip = slip; window = 1; places = replicate 65521 empty })
