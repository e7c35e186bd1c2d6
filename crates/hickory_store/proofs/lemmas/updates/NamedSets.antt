-- Records of a name in lower case, and RRsets that have records.
use Rattle.std.proofs.Common.{◌≡◌, ℕ, Bool, true, false, cond, ◌&&◌, ◌||◌, List, [], ◌∷◌, filter, Some, None, refl, ap, ◌∙◌}
use Rattle.std.specs.Prelude.{◌==◌, is_some}
use Rattle.std.specs.List.{list_any}
use Rattle.std.specs.Ordering.{is_eq}
use Rattle.std.proofs.lemmas.List.Elements.{filter_agree}
use Rattle.wire_names.specs.rr.domain.DomainName.{DomainName}
use Rattle.wire_names.specs.rr.domain.NameOrder.{lower_name, SameName}
use Rattle.wire_messages.specs.rr.RecordData.{type_of}
use Rattle.wire_messages.specs.declared.rr.rdata.RData.{RData}
use Rattle.wire_messages.specs.declared.rr.record.Record.{Record}
use Rattle.wire_names.proofs.lemmas.rr.domain.SameNames.{lower_same, same_order}
use Rattle.hickory_base.specs.zone_store.ZoneRecords.{existing, is_at, is_of, rrset}

itself : (name : DomainName) → SameName name name
itself name = record { labels = refl; marks = refl }

lower_at : (name : DomainName) (r : Record RData) → is_at (lower_name name) r ≡ is_at name r
lower_at name r = ap is_eq (same_order (lower_name name) r.name name r.name (lower_same name) (itself r.name))

pub any_at : (name : DomainName) (rs : List (Record RData)) → list_any (is_at (lower_name name)) rs ≡ list_any (is_at name) rs
any_at name [] = refl
any_at name (r ∷ rs) = ap (λ b. b || list_any (is_at (lower_name name)) rs) (lower_at name r) ∙ ap (λ b. is_at name r || b) (any_at name rs)

pub rrset_at : (name : DomainName) (t : ℕ) (rs : List (Record RData)) → rrset rs (lower_name name) t ≡ rrset rs name t
rrset_at name t rs = filter_agree (is_of (lower_name name) t) (is_of name t) (λ r. ap (λ b. b && (t == type_of r.rdata)) (lower_at name r)) rs

pub existing_some : (xs ys : List (Record RData)) → existing xs ≡ Some ys → xs ≡ ys
existing_some [] ys e = absurd (cc)
existing_some (x ∷ xs) ys e = cc

pub existing_none : (xs : List (Record RData)) → existing xs ≡ None → xs ≡ []
existing_none [] e = refl
existing_none (x ∷ xs) e = absurd (cc)

-- there is an RRset where some record passes its test
exists_step : (p : Record RData → Bool) (b : Bool) (x : Record RData) (xs : List (Record RData)) → is_some (existing (filter p xs)) ≡ list_any p xs
    → is_some (existing (cond b (x ∷ filter p xs) (filter p xs))) ≡ (b || list_any p xs)
exists_step p true x xs e = refl
exists_step p false x xs e = e

pub exists_any : (p : Record RData → Bool) (xs : List (Record RData)) → is_some (existing (filter p xs)) ≡ list_any p xs
exists_any p [] = refl
exists_any p (x ∷ xs) = exists_step p (p x) x xs (exists_any p xs)

any_filter_step : {X : Type 0} (p : X → Bool) (b : Bool) (x : X) (ys : List X) (rest : Bool) → list_any p ys ≡ rest → list_any p (cond b (x ∷ ys) ys) ≡ ((b && p x) || rest)
any_filter_step p true x ys rest e = ap (λ r. p x || r) e
any_filter_step p false x ys rest e = e

-- a test of what passes another
pub any_filter : {X : Type 0} (c p : X → Bool) (xs : List X) → list_any p (filter c xs) ≡ list_any (λ x. c x && p x) xs
any_filter c p [] = refl
any_filter c p (x ∷ xs) = any_filter_step p (c x) x (filter c xs) _ (any_filter c p xs)
