-- Answers with CNAMEs followed (RFC 1034 sections 3.6.2 and 4.3.2, step 3a), and with names that are redirected (RFC
-- 6672 section 3.2).
use Rattle.std.specs.Prelude.{◌≡◌, Bool, ℕ, zero, suc, true, false, not, cond, ◌==◌, ◌&&◌, [], ◌∷◌, ◌++◌, filter, map, Option, Some, None}
use Rattle.std.specs.List.{list_any}
use Rattle.std.specs.Option.{IsSomeAnd}
use Rattle.wire_names.specs.rr.domain.DomainName.{DomainName}
use Rattle.wire_names.specs.rr.domain.NameOrder.{Encloses, lower_name}
use Rattle.wire_messages.specs.Numbers.{type_cname, type_dname}
use Rattle.wire_messages.specs.declared.rr.rdata.RData.{RData}
use Rattle.wire_messages.specs.declared.rr.rdata.RData.TheVariants as rdata
use Rattle.wire_messages.specs.declared.rr.record.Record.{Record}
use Rattle.hickory_base.specs.zone_store.ZoneRecords.{is_at}
use Rattle.zone_answers.specs.Endings.{Ending}
use Rattle.zone_answers.specs.Endings as ended
use Rattle.zone_answers.specs.Redirections.{cname_for, is_too_long, substitute, target_in}
use Rattle.zone_answers.specs.Zones.{Answers, Outcome, Records, Zone, answer, alias, wild_answer, wild_alias, referral, no_data, no_name, redirection}

-- the name that data of a CNAME give
abbrev pub canonical_in : RData → Option DomainName
canonical_in (rdata.CNAME name) = Some name
canonical_in other = None

-- the canonical name that an RRset of CNAME records gives; it has one record (RFC 2181 section 10.1)
abbrev pub canonical : Records → Option DomainName
canonical [] = None
canonical (r ∷ rs) = canonical_in r.rdata

-- The name is one of the zone's: at its apex or below it, and fully qualified.
pub record IsIn (zone : Zone) (name : DomainName) : Type 0 where
  pub qualified : name.is_fqdn ≡ true
  pub within : Encloses zone.origin.labels name.labels

abbrev pub is_cname : RData → Bool
is_cname (rdata.CNAME name) = true
is_cname other = false

-- the name owns a CNAME among these records
abbrev pub owns_cname : DomainName → Records → Bool
owns_cname name rs = list_any (λ r. is_at name r && is_cname r.rdata) rs

abbrev pub is_dname : RData → Bool
is_dname (rdata.Unknown t bytes) = t == type_dname
is_dname other = false

-- the name owns a DNAME among these records
abbrev pub owns_dname : DomainName → Records → Bool
owns_dname name rs = list_any (λ r. is_at name r && is_dname r.rdata) rs

-- DNAME records, unless they stand in the chain already
abbrev pub once : Records → Records → Records
once before [] = []
once before (r ∷ rs) = cond (owns_dname r.name before) [] (r ∷ rs)

-- the records of a name but its DNAME
abbrev pub without_dname : Records → Records
without_dname rs = filter (λ r. not (is_dname r.rdata)) rs

-- what a chain with these records gains by those of a name: its DNAME only where it does not stand there already, so
-- that each record stands once (RFC 2181 section 5)
abbrev pub not_yet : Records → DomainName → Records → Records
not_yet before name rs = cond (owns_dname name before) (without_dname rs) rs

-- the records of a wildcard as those of a name, which is spelled as it was asked (RFC 4592 section 3.3.1)
abbrev pub owned_by : DomainName → Records → Records
owned_by name rs = map {A = Record RData} {B = Record RData} (λ r. record r { name = name }) rs

-- What a chain gains at a name: records with which it ends, or records that lead on to a name, if they give one.
pub data Step : Type 0 where
  ends : Records → Ending → Step
  leads : Records → Option DomainName → Step

-- The synthesized CNAME stands behind the DNAME. Where CNAME records are asked for it is the answer.
abbrev pub by_cname : ℕ → Records → Record RData → DomainName → Step
by_cname t dname cname target = cond (t == type_cname) (ends (dname ++ cname ∷ []) ended.answer) (leads (dname ++ cname ∷ []) (Some target))

abbrev pub redirect_to : ℕ → DomainName → ℕ → Records → Record RData → Option DomainName → Step
redirect_to t name k put r None = leads put None
redirect_to t name k put r (Some target) = cond (is_too_long (substitute name k target)) (ends put ended.name_too_long) (by_cname t put (cname_for name (substitute name k target) r) (substitute name k target))

-- what a chain gains by the DNAME of the k-th ancestor of a name (RFC 6672 section 3.2, step 3C), where these of its
-- records are put
abbrev pub redirect : ℕ → DomainName → ℕ → Records → Records → Step
redirect t name k put [] = leads put None
redirect t name k put (r ∷ rs) = redirect_to t name k put r (target_in r.rdata)

-- what a chain gains at a name, with these records before, where the zone answers so
abbrev pub step : ℕ → Records → DomainName → Outcome → Step
step t before name (answer rs) = ends (not_yet before name rs) ended.answer
step t before name (alias rs) = leads rs (canonical rs)
step t before name (wild_answer rs) = ends (owned_by name rs) ended.answer
step t before name (wild_alias rs) = leads (owned_by name rs) (canonical rs)
step t before name (referral servers) = ends [] (ended.referral servers)
step t before name no_data = ends [] ended.no_data
step t before name no_name = ends [] ended.no_name
step t before name (redirection k dname) = redirect t name k (once before dname) dname

-- The records that the answer section gains for a name and a type, where it has some of a chain before, with at most so
-- many CNAMEs followed, and how they end. The name is spelled as it was asked, and what is synthesized keeps that; it
-- is looked for in lower case. A chain goes on to no name that owns a CNAME of it already (RFC 1034 section 3.6.2).
pub data Chases (zone : Zone) (t : ℕ) : ℕ → Records → DomainName → Records → Ending → Type 0 where
  finishes : {left : ℕ} {before : Records} {name : DomainName} {outcome : Outcome} {rs : Records} {ending : Ending} → Answers zone (lower_name name) t outcome → step t before name outcome ≡ ends rs ending → Chases zone t left before name rs ending
  follows : {left : ℕ} {before : Records} {name target : DomainName} {outcome : Outcome} {rs rest : Records} {ending : Ending} → Answers zone (lower_name name) t outcome → step t before name outcome ≡ leads rs (Some target) → IsIn zone target
      → owns_cname target (before ++ rs) ≡ false → Chases zone t left (before ++ rs) target rest ending → Chases zone t (suc left) before name (rs ++ rest) ending
  comes_back : {left : ℕ} {before : Records} {name target : DomainName} {outcome : Outcome} {rs : Records} → Answers zone (lower_name name) t outcome → step t before name outcome ≡ leads rs (Some target)
      → owns_cname target (before ++ rs) ≡ true → Chases zone t left before name rs ended.left_open
  leaves : {left : ℕ} {before : Records} {name : DomainName} {outcome : Outcome} {rs : Records} {to : Option DomainName} → Answers zone (lower_name name) t outcome → step t before name outcome ≡ leads rs to
      → ¬ (IsSomeAnd to (IsIn zone)) → Chases zone t left before name rs ended.left_open
  stops : {before : Records} {name : DomainName} {outcome : Outcome} {rs : Records} {to : Option DomainName} → Answers zone (lower_name name) t outcome → step t before name outcome ≡ leads rs to → Chases zone t zero before name rs ended.left_open

-- A chain has one answer section and one ending.
abbrev pub OneChain : Type 0
OneChain = (zone : Zone) (t left : ℕ) (before : Records) (name : DomainName) (one other : Records) (end last : Ending) → Chases zone t left before name one end → Chases zone t left before name other last
    → (one ≡ other) × (end ≡ last)
