-- Rules of who may have a zone transferred, each of one zone. A zone that has any is judged by these alone, and another
-- zone by those for all zones.
use Rattle.std.specs.Prelude.{◌≡◌, ◌<◌, ◌++◌, ◌∷◌, [], ℕ, IsTrue, List, MatchOption, Some, false, length, set, true}
use Rattle.std.specs.List.{position_or_len, slice_get}
use Rattle.wire_names.specs.rr.domain.DomainName.{DomainName}
use Rattle.wire_names.specs.rr.domain.NameOrder.{name_eq}
use Rattle.wire_messages.specs.Numbers.{class_in, type_axfr}
use Rattle.wire_messages.specs.declared.op.query.Query.{Query}
use Rattle.server_limits.specs.Access.{SameNetworks}
use Rattle.tsig.specs.declared.keys.Key.{Key}
use Rattle.hickory_server.specs.server.Ruling.{own_of}
use Rattle.hickory_server.specs.declared.server.rules.ZoneTransfers.{ZoneTransfers}
use Rattle.served_keys.specs.ServedKeys.{IsKeyNamed, all_networks}
use Rattle.served_zones.specs.ServedZones.{IsApexText}
use Rattle.server.specs.Networks.{AllowsText, HasNoNetwork, InsertsText}
use Rattle.server.specs.Updates.{is_added}

-- By the rules of a zone before its first one nobody may have it transferred.
pub record IsClosed (apex : DomainName) (zone : ZoneTransfers) : Type 0 where
  pub apex_is : zone.apex ≡ apex
  pub all_denied : SameNetworks all_networks zone.access.deny
  pub none_allowed : HasNoNetwork zone.access.allow
  pub no_keys : zone.keys.items ≡ []

-- They are the rules that the zone of this apex has, or else those before its first one.
abbrev pub IsOwnOrClosed : DomainName → List ZoneTransfers → ZoneTransfers → Type 0
IsOwnOrClosed apex zones zone = MatchOption (own_of zones apex) (IsClosed apex zone) (λ own. zone ≡ own)

-- ---- one rule more

-- The network that the text spells may have the zone transferred, and only networks that a rule allows.
pub record Allows (text : List ℕ) (old new : ZoneTransfers) : Type 0 where
  pub allows : AllowsText text old.access new.access
  pub others : new ≡ record old { access = new.access }

-- The network that the text spells may not.
pub record Denies (text : List ℕ) (old new : ZoneTransfers) : Type 0 where
  pub denies : InsertsText text old.access.deny new.access.deny
  pub allowed : SameNetworks old.access.allow new.access.allow
  pub others : new ≡ record old { access = new.access }

-- The key that the text names may, from anywhere.
pub record GetsKey (keys : List Key) (text : List ℕ) (old new : ZoneTransfers) : Type 0 where
  pub name : DomainName
  pub named : IsKeyNamed keys text name
  pub given : new.keys.items ≡ old.keys.items ++ name ∷ []
  pub others : new ≡ record old { keys = new.keys }

-- The rules of the zone of this apex change so, and those of no other zone change.
pub record ChangesOwn (Change : ZoneTransfers → ZoneTransfers → Type 0) (apex : DomainName) (old new : List ZoneTransfers) : Type 0 where
  pub before : ZoneTransfers
  pub after : ZoneTransfers
  pub was : IsOwnOrClosed apex old before
  pub changes : Change before after
  pub is : own_of new apex ≡ Some after
  pub others : (name : DomainName) → name_eq apex name ≡ false → own_of new name ≡ own_of old name

-- The zone of the name that a text spells, which is one of those that were added, gets a rule.
pub record GetsRule (Change : ZoneTransfers → ZoneTransfers → Type 0) (text : List ℕ) (apexes : List DomainName) (old new : List ZoneTransfers) : Type 0 where
  pub apex : DomainName
  pub spelled : IsApexText text apex
  pub added : IsTrue (is_added apexes apex)
  pub own : ChangesOwn Change apex old new

-- ---- at places

-- The rules of the zone of this apex are at this place among those of all, which have these before its first one, if it
-- had none.
pub record IsPlace (apex : DomainName) (old new : List ZoneTransfers) (place : ℕ) : Type 0 where
  pub first : place ≡ position_or_len (λ zone. name_eq zone.apex apex) new
  pub inside : place < length new
  pub zone : ZoneTransfers
  pub there : slice_get new place ≡ Some zone
  pub was : IsOwnOrClosed apex old zone
  pub others : (name : DomainName) → name_eq apex name ≡ false → own_of new name ≡ own_of old name

-- The rules at this place change so.
pub record SetsAt (Change : ZoneTransfers → ZoneTransfers → Type 0) (place : ℕ) (old new : List ZoneTransfers) : Type 0 where
  pub before : ZoneTransfers
  pub after : ZoneTransfers
  pub was : slice_get old place ≡ Some before
  pub is : new ≡ set old place after
  pub same_apex : after.apex ≡ before.apex
  pub changes : Change before after

-- ---- for worked examples

-- the name of this one label
abbrev pub named : List ℕ → DomainName
named label = record { labels = label ∷ []; is_fqdn = true }

-- the name of these two labels
abbrev pub below : List ℕ → List ℕ → DomainName
below label parent = record { labels = label ∷ parent ∷ []; is_fqdn = true }

-- the question for a transfer of the zone of this name (RFC 5936 section 2.1.1)
abbrev pub transfer_of : DomainName → Query
transfer_of name = record { name = name; query_type = type_axfr; query_class = class_in }
