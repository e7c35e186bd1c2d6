-- Which replies over UDP are sent, truncated and dropped.
use Rattle.std.specs.Prelude.{◌+◌, ◌*◌, ◌-◌, ◌/◌, ◌%◌, ◌^◌, ◌∷◌, [], ℕ, List, get_or, if◌then◌else◌, min, nat_eq, nat_lt, set}
use Rattle.server_limits.specs.declared.limits.Place.{Place}
use Rattle.server_limits.specs.declared.limits.Verdict.{Verdict}
use Rattle.server_limits.specs.declared.limits.Verdict.TheVariants.{Drop, Send, Truncate}

-- the number that three or seven bytes spell, the first one highest
abbrev pub spelled : ℕ → List ℕ → ℕ
spelled so_far [] = so_far
spelled so_far (byte ∷ bytes) = spelled (256 * so_far + byte) bytes

-- the network of an address: the first 24 bits of the four bytes of IPv4, above all networks of IPv6; or the first 56
-- of the sixteen bytes of IPv6
abbrev pub network_of : List ℕ → ℕ
network_of (a ∷ b ∷ c ∷ d ∷ []) = 2 ^ 56 + spelled 0 (a ∷ b ∷ c ∷ [])
network_of (a ∷ b ∷ c ∷ d ∷ e ∷ f ∷ g ∷ rest) = spelled 0 (a ∷ b ∷ c ∷ d ∷ e ∷ f ∷ g ∷ [])
network_of other = 0

-- Where a network is counted. Those with the same place are counted together.
abbrev pub place_of : List ℕ → ℕ
place_of address = network_of address % 65521

-- The limits of each window of time, and what is counted at each place.
pub record Limits : Type 0 where
  -- how many replies are sent as they are to the networks of a place, in a window
  pub limit : ℕ
  -- of those above the limit each so many is sent truncated, and none where it is 0
  pub slip : ℕ
  -- how many seconds a window has
  pub window : ℕ
  pub places : List Place

-- nothing is counted
abbrev pub empty : Place
empty = record { window = 0; count = 0 }

-- how many replies were counted at a place in the window of this number
abbrev pub counted_in : ℕ → Place → ℕ
counted_in number place = if nat_eq place.window number then place.count else 0

-- how many replies were counted before this moment in its window, at the place of an address
abbrev pub counted_before : Limits → List ℕ → ℕ → ℕ
counted_before limits address now = counted_in (now / limits.window) (get_or limits.places (place_of address) empty)

-- What becomes of a reply before which so many were counted: up to the limit they are sent, and of those above it each
-- so many is sent truncated.
abbrev pub verdict_of : ℕ → ℕ → ℕ → Verdict
verdict_of limit slip count =
    if nat_lt count limit then Send else
    if nat_eq slip 0 then Drop else
    if nat_eq ((count - limit) % slip) (slip - 1) then Truncate else Drop

-- One more reply is counted at this moment.
abbrev pub one_more : Limits → List ℕ → ℕ → Limits
one_more limits address now = record limits {
  places = set limits.places (place_of address) (record { window = now / limits.window; count = min (counted_before limits address now + 1) (2 ^ 64 - 1) });
}
