-- From what the steps of a query say to what its reply is.
use Rattle.std.proofs.Common.{◌≡◌, ◌<◌, ℕ, zero, suc, true, List, [], ◌∷◌, length, get_or, Option, Some, None, Result, Ok, Err, refl, subst, sym, ap, arith}
use Rattle.std.specs.Option.{option_map}
use Rattle.std.specs.Prelude.{◌==◌, IfOk, IfErr, IfSome, slice_get}
use Rattle.wire_names.specs.rr.domain.DomainName.{DomainName}
use Rattle.wire_messages.specs.Numbers.{type_axfr}
use Rattle.wire_messages.specs.op.EdnsFields.{EdnsFields}
use Rattle.wire_messages.specs.serialize.writing.Reply.{Reply}
use Rattle.wire_messages.specs.declared.op.query.Query.{Query}
use Rattle.hickory_base.specs.requests.Requests.{ReceivedRequest}
use Rattle.hickory_catalog.specs.zones.Find.{Finds}
use Rattle.hickory_catalog.specs.queries.Queries.{ZoneReplies, one, transfer, untransferred}
use Rattle.hickory_catalog.specs.requests.Server.{Server}
use Rattle.hickory_catalog.specs.transfers.WholeTransfers.{ChainTransfers, given, nobody}

-- what follows from what is so of an `Ok`
pub if_ok_map : {T E : Type 0} (r : Result T E) (P Q : T → Type 0) → IfOk r P → ((t : T) → P t → Q t) → IfOk r Q
if_ok_map (Ok t) P Q h f = f t h
if_ok_map (Err e) P Q h f = h

-- what follows from what is so of an `Err`
pub if_err_map : {T E : Type 0} (r : Result T E) (P Q : E → Type 0) → IfErr r P → ((e : E) → P e → Q e) → IfErr r Q
if_err_map (Ok t) P Q h f = h
if_err_map (Err e) P Q h f = f e h

-- what follows from what is so of a `Some`
pub if_some_map : {T : Type 0} (o : Option T) (P Q : T → Type 0) → IfSome o P → ((t : T) → P t → Q t) → IfSome o Q
if_some_map (Some t) P Q h f = f t h
if_some_map None P Q h f = h

pub if_some_and : {T : Type 0} (o : Option T) (P Q R : T → Type 0) → IfSome o P → IfSome o Q → ((t : T) → P t → Q t → R t) → IfSome o R
if_some_and (Some t) P Q R h k f = f t h k
if_some_and None P Q R h k f = h

module _ {H : Type 0} (zones : List (DomainName × List H)) {X : Type 0} (items : X → List H) where
  pub finds_none : (name named : DomainName) (found : Option X) → Finds zones name (option_map items found) → found ≡ None → name ≡ named → Finds zones named None
  finds_none name named found f e n =
      subst (λ (m : DomainName). Finds zones m None) n (subst (λ (o : Option X). Finds zones name (option_map items o)) e f)

  pub finds_some : (name named : DomainName) (found : Option X) (x : X) → Finds zones name (option_map items found) → found ≡ Some x → name ≡ named → Finds zones named (Some (items x))
  finds_some name named found x f e n =
      subst (λ (m : DomainName). Finds zones m (Some (items x))) n (subst (λ (o : Option X). Finds zones name (option_map items o)) e f)

-- the item at a place, as one that is there
pub get_at : {X : Type 0} (xs : List X) (i : ℕ) (x : X) → i < length xs → x ≡ get_or xs i x → slice_get xs i ≡ Some x
get_at [] i x lt is = absurd (omega (arith, lt))
get_at (y ∷ ys) zero x lt is = ap Some (sym is)
get_at (y ∷ ys) (suc i) x lt is = get_at ys i x (omega (arith, lt)) is

-- the item at a place
pub at_place : {X : Type 0} (xs : List X) (i : ℕ) → i < length xs → (x : X) × (slice_get xs i ≡ Some x)
at_place [] i lt = absurd (omega (arith, lt))
at_place (y ∷ ys) zero lt = (y, refl)
at_place (y ∷ ys) (suc i) lt = at_place ys i (omega (arith, lt))

-- the replies to a transfer that is asked for
pub transferred : {H : Type 0} (server : Server H) (chain : List H) (request : ReceivedRequest) (edns : Option EdnsFields) (now : ℕ) (query : Query) (replies : List Reply) → (query.query_type == type_axfr) ≡ true
    → ChainTransfers server chain request edns now replies → ZoneReplies server chain (record { request = request; query = query }) edns now replies
transferred server chain request edns now query replies axfr (nobody asked is) = one (untransferred axfr asked refl) is
transferred server chain request edns now query replies axfr (given asked replied) = transfer axfr asked replied
