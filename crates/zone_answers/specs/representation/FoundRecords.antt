-- What is found, where it lies.
use Rattle.std.specs.Prelude.{◌≡◌, ◌∷◌, [], ◌⊎◌, ◌↔◌, ◌&&◌, ◌-◌, ◌<◌, ◌≤◌, ℕ, nat_le, nat_lt, Bool, true, false, IsTrue, List, length, drop, Option, Some, None}
use Rattle.std.specs.Borrow.{Bor}
use Rattle.std.specs.Option.{IsSomeAnd, option_copied}
use Rattle.wire_names.specs.rr.domain.DomainName.{AreLabels, DomainName, cut, wire_form}
use Rattle.wire_names.specs.rr.domain.NameOrder.{Encloses, lower_labels}
use Rattle.wire_messages.specs.Numbers.{type_dname, type_ns}
use Rattle.wire_messages.specs.declared.rr.rr_key.RrKey.{RrKey}
use Rattle.hickory_base.specs.zone_store.ZoneAnswers.{records_at}
use Rattle.zone_answers.specs.Zones.{Records, Sets, Zone, any_of, at_node, Delegates, Exists, HasClosestEncloser, HasDname, IsAuthoritativeAt, IsCut, Outcome, Redirects, answer, alias, referral, no_data, no_name, redirection, ancestor, by_wildcard, rrset, wild_alias, wild_answer, wildcard}
use Rattle.zone_answers.specs.representation.Features.{IsOfLength}
use Rattle.zone_answers.specs.representation.Indexes.{IsClearAt}
use Rattle.zone_answers.specs.representation.KeysBeside.{Entry}
use Rattle.zone_answers.specs.declared.features.Features.{Features}
use Rattle.zone_answers.specs.declared.index.Before.{Before}
use Rattle.zone_answers.specs.declared.find.Found.{Found}
use Rattle.zone_answers.specs.declared.find.Found.TheVariants as found
use Rattle.zone_answers.specs.declared.find.Neighbours.{Neighbours}
use Rattle.zone_answers.specs.declared.find.Delegation.{Delegation}
use Rattle.zone_answers.specs.declared.redirections.Redirection.{Redirection}

-- there is a key, and its name is the name or below it
abbrev pub IsAbove : DomainName → Option RrKey → Type 0
IsAbove name key = IsSomeAnd key (λ k. Encloses name.labels k.name.labels)

-- Of the names from this one up those exist that the keys beside it are at or below.
abbrev pub Tells : Sets → DomainName → Neighbours → Type 0
Tells sets name beside = (k : ℕ) → Exists sets (ancestor name k) ↔ (IsAbove (ancestor name k) (option_copied beside.before) ⊎ IsAbove (ancestor name k) (option_copied beside.behind))

-- The zone has no DNAME, and the name right above this one is in use by the key and has no wildcard right below it.
pub record IsBare (has : Features) (name : DomainName) (behind : Option RrKey) : Type 0 where
  pub dnames : has.dnames ≡ false
  pub labels : AreLabels (drop 1 name.labels)
  pub wildcards : ¬ (IsOfLength has.wildcards (length (wire_form (drop 1 name.labels))))
  pub used : IsAbove (ancestor name 1) behind

-- what is answered for a name that does not exist and for which nothing stands, below these servers of a cut, if there
-- is one
abbrev pub missing_outcome : Option Records → Outcome
missing_outcome (Some servers) = referral servers
missing_outcome None = no_name

-- Among the sets, without a mark, are these records, of the type, of the wildcard right below the name above this one.
pub record IsWildAmong (before : Before) (name : DomainName) (t : ℕ) (rs : Records) : Type 0 where
  pub place : ℕ
  pub entry : Entry
  pub among : IsClearAt before.sets.now before.marks.now place entry
  pub is : entry.0.name.labels ≡ (42 ∷ []) ∷ drop 1 name.labels
  pub of_type : entry.0.record_type ≡ t
  pub records : entry.1.value ≡ rs

-- what is answered for a name for which a wildcard stands that owns these records, below these servers of a cut, if
-- there is one
abbrev pub wild_or_referral : Option Records → Records → Outcome
wild_or_referral (Some servers) rs = referral servers
wild_or_referral None rs = wild_answer rs

-- The name was taken up to its closest encloser.
pub record IsEncloser (sets : Sets) (name encloser : DomainName) : Type 0 where
  pub off : ℕ
  pub is : encloser ≡ ancestor name off
  pub closest : HasClosestEncloser sets name off

-- The zone's authority ends there, or nowhere at the name or above it.
pub record EndsAt (zone : Zone) (name : DomainName) (cut : Delegation) : Type 0 where
  pub off : ℕ
  pub delegates : Delegates zone name off
  pub servers : rrset zone.sets (ancestor name off) type_ns ≡ Some cut.servers.now
  pub at_name : IsTrue cut.is_at_name ↔ (off ≡ 0)

abbrev pub CutAt : Zone → DomainName → Option Delegation → Type 0
CutAt zone name None = IsAuthoritativeAt zone name
CutAt zone name (Some cut) = EndsAt zone name cut

-- Above the name the zone's authority ends at a cut with these servers.
pub record EndsAbove (zone : Zone) (name : DomainName) (rs : Records) : Type 0 where
  pub off : ℕ
  pub above : 0 < off
  pub delegates : Delegates zone name off
  pub servers : rrset zone.sets (ancestor name off) type_ns ≡ Some rs

abbrev pub CutAbove : Zone → DomainName → Option Records → Type 0
CutAbove zone name None = (k : ℕ) → 0 < k → ¬ (IsCut zone (ancestor name k))
CutAbove zone name (Some servers) = EndsAbove zone name servers

-- the fully qualified name of labels in wire form
abbrev pub name_of : List ℕ → DomainName
name_of wire = record { labels = lower_labels (cut wire); is_fqdn = true }

-- whether a zone may be cut at a name of this length, where the name at its apex has that one
abbrev pub may_be_cut : ℕ → Features → ℕ → Bool
may_be_cut apex has len = nat_lt apex len && (nat_le has.cuts.least len && nat_le len has.cuts.most)

-- The name is redirected by these DNAME records, whose owner has so many labels.
pub record RedirectedBy (zone : Zone) (name : DomainName) (by : Redirection) : Type 0 where
  pub off : ℕ
  pub redirects : Redirects zone name off
  pub dname : rrset zone.sets (ancestor name off) type_dname ≡ Some by.dname.now
  pub labels : by.labels ≡ length (drop off name.labels)

abbrev pub RedirectedAt : Zone → DomainName → Option Redirection → Type 0
RedirectedAt zone name None = (k : ℕ) → ¬ (Redirects zone name k)
RedirectedAt zone name (Some by) = RedirectedBy zone name by

-- the DNAME records that redirect names at one of so many labels or below it, where the zone is cut there or not, owns
-- these, and had others below
abbrev pub higher : ℕ → Bool → Option (Bor Records) → Option Redirection → Option Redirection
higher labels true dname below = None
higher labels false None below = below
higher labels false (Some dname) below = Some (record { dname = dname; labels = labels })

-- From the name up these DNAME records are the highest, and the zone is cut neither there nor above.
pub record IsTopDname (zone : Zone) (name : DomainName) (by : Redirection) : Type 0 where
  pub off : ℕ
  pub is_ancestor : off ≤ length name.labels
  pub owner : HasDname zone (ancestor name off)
  pub highest : (j : ℕ) → off < j → j ≤ length name.labels → ¬ (HasDname zone (ancestor name j))
  pub uncut : (j : ℕ) → off ≤ j → ¬ (IsCut zone (ancestor name j))
  pub dname : rrset zone.sets (ancestor name off) type_dname ≡ Some by.dname.now
  pub labels : by.labels ≡ length (drop off name.labels)

-- From the name up such records were found, or all DNAME records are at a cut or below one.
abbrev pub TopDname : Zone → DomainName → Option Redirection → Type 0
TopDname zone name None = (k : ℕ) → k ≤ length name.labels → HasDname zone (ancestor name k) → (j : ℕ) × (k ≤ j) × IsCut zone (ancestor name j)
TopDname zone name (Some by) = IsTopDname zone name by

-- what it stands for, where this name is asked for
abbrev pub outcome_of : Sets → DomainName → Found → Outcome
outcome_of sets name (found.Answer rs) = answer rs.now
outcome_of sets name found.Every = any_of (records_at name sets)
outcome_of sets name (found.Alias rs) = alias rs.now
outcome_of sets name (found.Referral rs) = referral rs.now
outcome_of sets name (found.WildAnswer rs) = wild_answer rs.now
outcome_of sets name (found.WildEvery key) = by_wildcard (any_of (records_at key.now.name sets))
outcome_of sets name (found.WildAlias rs) = wild_alias rs.now
outcome_of sets name found.NoData = no_data
outcome_of sets name found.NoName = no_name
outcome_of sets name (found.Redirected by) = redirection (length name.labels - by.labels) by.dname.now

-- There is no wildcard below the encloser, or this is what it stands for.
abbrev pub WildFound : Sets → DomainName → ℕ → Option Found → Type 0
WildFound sets encloser t None = ¬ (Exists sets (wildcard encloser))
WildFound sets encloser t (Some found) = Exists sets (wildcard encloser) × ((name : DomainName) → outcome_of sets name found ≡ by_wildcard (at_node sets (wildcard encloser) t))

-- the first of two RRsets that there is
abbrev pub first_or : Option Records → Option Records → Option Records
first_or (Some rs) other = Some rs
first_or None other = other
