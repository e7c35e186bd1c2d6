-- What is said of a name is said of it in any letter case.
use Rattle.std.proofs.Common.{◌≡◌, ◌&&◌, ◌==◌, ◌++◌, ℕ, Bool, cond, List, [], ◌∷◌, Option, None, Some, refl, sym, ap, ◌∙◌, subst, drop, IsSome}
use Rattle.std.proofs.lemmas.List.{append-nil, drop-map}
use Rattle.std.specs.List.{find}
use Rattle.std.specs.Ordering.{is_eq}
use Rattle.wire_messages.specs.rr.RecordData.{type_of}
use Rattle.wire_messages.specs.declared.rr.rdata.RData.{RData}
use Rattle.wire_messages.specs.declared.rr.record.Record.{Record}
use Rattle.wire_names.proofs.lemmas.rr.domain.SameNames.{same_order, lower_same, lower_labels-twice}
use Rattle.wire_names.specs.rr.domain.DomainName.{DomainName}
use Rattle.wire_names.specs.rr.domain.NameOrder.{Encloses, SameName, lower_label, lower_labels, lower_name, name_eq}
use Rattle.zone_check.specs.SignedZones.{covered_of, is_number, is_signature_of}
use Rattle.zone_check.specs.CheckedZones.{CheckedZone, HasWildAddress, IsBelowApex, IsCut, IsDnameOwner, IsInZone, Owns, Records, ancestor, is_data_of, is_data_type, is_named, is_of, is_server_of, is_wild_address, is_wild_address_of, server_of}

find_alike : (p q : Record RData → Bool) (rs : Records) → ((r : Record RData) → p r ≡ q r) → find p rs ≡ find q rs
find_alike p q [] same = refl
find_alike p q (r ∷ rs) same = ap (λ b. cond b (Some r) (find p rs)) (same r) ∙ ap (λ rest. cond (q r) (Some r) rest) (find_alike p q rs same)

itself : (name : DomainName) → SameName name name
itself name = record { labels = refl; marks = refl }

turned : (a b : DomainName) → SameName a b → SameName b a
turned a b s = record { labels = sym s.labels; marks = sym s.marks }

eq_alike : (a b : DomainName) (r : Record RData) → SameName a b → name_eq r.name a ≡ name_eq r.name b
eq_alike a b r s = ap is_eq (same_order r.name a r.name b (itself r.name) s)

pub first_alike : (rs : Records) (a b : DomainName) (t : ℕ) → SameName a b → find (is_of a t) rs ≡ find (is_of b t) rs
first_alike rs a b t s = find_alike (is_of a t) (is_of b t) rs (λ r. ap (λ e. e && (type_of r.rdata == t)) (eq_alike a b r s))

pub data_alike : (rs : Records) (a b : DomainName) → SameName a b → find (is_data_of a) rs ≡ find (is_data_of b) rs
data_alike rs a b s = find_alike (is_data_of a) (is_data_of b) rs (λ r. ap (λ e. e && is_data_type (type_of r.rdata)) (eq_alike a b r s))

-- the first record of a name in lower case is that of the name
pub first_lower : (rs : Records) (name : DomainName) (t : ℕ) → find (is_of (lower_name name) t) rs ≡ find (is_of name t) rs
first_lower rs name t = first_alike rs (lower_name name) name t (lower_same name)

pub data_lower : (rs : Records) (name : DomainName) → find (is_data_of (lower_name name)) rs ≡ find (is_data_of name) rs
data_lower rs name = data_alike rs (lower_name name) name (lower_same name)

server_alike : (rs : Records) (a b : DomainName) → SameName a b → find (is_server_of a) rs ≡ find (is_server_of b) rs
server_alike rs a b s = find_alike (is_server_of a) (is_server_of b) rs (λ r. by_host (server_of r.rdata)) where
  by_host : (host : Option DomainName) → is_named a host ≡ is_named b host
  by_host None = refl
  by_host (Some host) = ap is_eq (same_order host a host b (itself host) s)

pub server_lower : (rs : Records) (name : DomainName) → find (is_server_of (lower_name name)) rs ≡ find (is_server_of name) rs
server_lower rs name = server_alike rs (lower_name name) name (lower_same name)

pub signature_lower : (rs : Records) (name : DomainName) (t : ℕ) → find (is_signature_of (lower_name name) t) rs ≡ find (is_signature_of name t) rs
signature_lower rs name t = find_alike (is_signature_of (lower_name name) t) (is_signature_of name t) rs (λ r. ap (λ e. e && is_number t (covered_of r.rdata)) (eq_alike (lower_name name) name r (lower_same name)))

pub wild_alike : (rs : Records) (a b : DomainName) → SameName a b → find (is_wild_address_of a) rs ≡ find (is_wild_address_of b) rs
wild_alike rs a b s = find_alike (is_wild_address_of a) (is_wild_address_of b) rs (λ r. ap (λ e. e && is_wild_address r) (ap is_eq (same_order (ancestor r.name 1) a (ancestor r.name 1) b (itself (ancestor r.name 1)) s)))

pub same_ancestor : (name : DomainName) (k : ℕ) → SameName (ancestor (lower_name name) k) (ancestor name k)
same_ancestor name k = record { labels = ap lower_labels (drop-map lower_label k name.labels) ∙ lower_labels-twice (drop k name.labels); marks = refl }

module _ (zone : CheckedZone) (a b : DomainName) (s : SameName a b) where
  pub owns_alike : (t : ℕ) → Owns zone a t → Owns zone b t
  owns_alike t owns = subst (λ (o : _). IsSome o) (first_alike zone.records a b t s) owns

  pub within_alike : IsInZone zone a → IsInZone zone b
  within_alike in_zone = record { front = in_zone.front; ends = sym s.labels ∙ in_zone.ends }

  encloses_alike : (ms : List (List ℕ)) → Encloses a.labels ms → Encloses b.labels ms
  encloses_alike ms e = record { front = e.front; ends = e.ends ∙ ap (λ ls. e.front ++ ls) s.labels }

module _ (zone : CheckedZone) (a b : DomainName) (s : SameName a b) where
  pub below_alike : IsBelowApex zone a → IsBelowApex zone b
  below_alike below = record { within = within_alike zone a b s below.within; other = λ e. below.other (encloses_alike zone b a (turned a b s) zone.origin.labels e) }

  pub cut_alike : IsCut zone a → IsCut zone b
  cut_alike cut = record { below = below_alike cut.below; servers = owns_alike zone a b s 2 cut.servers }

  pub has_wild_alike : HasWildAddress zone a → HasWildAddress zone b
  has_wild_alike has = subst (λ (o : _). IsSome o) (wild_alike zone.records a b s) has

  pub dname_alike : IsDnameOwner zone a → IsDnameOwner zone b
  dname_alike dname = record { within = within_alike zone a b s dname.within; owner = owns_alike zone a b s 39 dname.owner }

pub to_lower : (name : DomainName) (k : ℕ) → SameName (ancestor name k) (ancestor (lower_name name) k)
to_lower name k = turned (ancestor (lower_name name) k) (ancestor name k) (same_ancestor name k)

-- the root encloses every name
pub root_encloses : (ms : List (List ℕ)) → Encloses [] ms
root_encloses ms = record { front = lower_labels ms; ends = sym (append-nil (lower_labels ms)) }
