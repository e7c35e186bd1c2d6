-- Which zone above is asked, and that it is served as if it were the only one.
use Rattle.std.proofs.Common.{◌≡◌, ◌≢◌, ℕ, zero, suc, true, List, [], ◌∷◌, length, drop, Option, Some, None, Any, Contains, refl, sym, ap, subst, ◌∙◌, arith, length-append}
use Rattle.std.proofs.lemmas.List.Elements.{All-contains}
use Rattle.wire_names.specs.rr.domain.DomainName.{DomainName}
use Rattle.wire_names.specs.rr.domain.NameOrder.{Encloses, SameName, lower_label, lower_labels, lower_name}
use Rattle.wire_messages.specs.declared.op.query.Query.{Query}
use Rattle.wire_reading.specs.declared.op.message.Message.{Message}
use Rattle.hickory_base.specs.requests.RequestReading.{message_of}
use Rattle.hickory_base.specs.declared.requests.message_request.MessageRequest.{MessageRequest}
use Rattle.hickory_catalog.specs.zones.Find.{Finds, MayAnswer}
use Rattle.hickory_catalog.specs.zones.Zones.{HasZone}
use Rattle.hickory_server.specs.server.Above.{AsksForDs, FindsAbove, IsAskedAbove, above}
use Rattle.hickory_server.specs.server.Ruling.{IsQuery}

-- a message has one question
pub one_question : (message : MessageRequest) (p q : Query) → IsQuery message p → IsQuery message q → p ≡ q
one_question message p q one other =
    let first = one.question in
    let second = other.question in
    cc

-- it asks for the DS records of one name
pub one_name : (message : MessageRequest) (a b : DomainName) → AsksForDs message a → AsksForDs message b → a ≡ b
one_name message a b one other =
    one.name_is ∙ ap (λ (q : Query). lower_name q.name) (one_question message one.query other.query one.is_query other.is_query) ∙ sym other.name_is

module _ {V : Type 0} (zones : List (DomainName × V)) (message : MessageRequest) where
  pub none_asked : ((name : DomainName) → ¬ (AsksForDs message name)) → FindsAbove zones message None
  none_asked none zone is = none is.name is.asks

  pub no_apex : (name : DomainName) → AsksForDs message name → ¬ (HasZone zones name) → FindsAbove zones message None
  no_apex name asks none zone is = none (subst (λ (n : DomainName). HasZone zones n) (one_name message is.name name is.asks asks) is.is_apex)

  pub found_above : (name : DomainName) (found : Option V) → AsksForDs message name → HasZone zones name → Finds zones (above name) found → FindsAbove zones message found
  found_above name None asks has found = λ zone is.
      let same = one_name message is.name name is.asks asks in
      let may : MayAnswer zone.0 (above name) = subst (λ (n : DomainName). MayAnswer zone.0 (above n)) same is.nearest.may_answer in
      All-contains (λ (z : DomainName × V). ¬ (MayAnswer z.0 (above name))) zones zone found is.nearest.among may
  found_above name (Some value) asks has (apex, nearest) = (apex, record { name = name; asks = asks; is_apex = has; nearest = nearest })

-- ---- the zone above alone

encloses_too : (labels apex : List (List ℕ)) → labels ≢ [] → Encloses apex (drop 1 labels) → Encloses apex labels
encloses_too [] apex some e = absurd (some refl)
encloses_too (l ∷ labels) apex some e = record { front = lower_label l ∷ e.front; ends = ap (λ (ls : List (List ℕ)). lower_label l ∷ ls) e.ends }

not_itself : (labels apex : List (List ℕ)) → labels ≢ [] → Encloses apex (drop 1 labels) → lower_labels apex ≡ lower_labels labels → ⊥
not_itself [] apex some e same = some refl
not_itself (l ∷ labels) apex some e same = omega (arith, ap length e.ends, length-append e.front (lower_labels apex), ap length same)

parts : (apex name : DomainName) → name.is_fqdn ≡ true → MayAnswer apex (above name) → (apex.is_fqdn ≡ true) × Encloses apex.labels (drop 1 name.labels)
parts apex name qualified may = rw qualified at may

-- a zone that may answer for the name above may answer for the name
pub may_too : (apex name : DomainName) → name.is_fqdn ≡ true → name.labels ≢ [] → MayAnswer apex (above name) → MayAnswer apex name
may_too apex name qualified some may =
    let h = parts apex name qualified may in
    let both : (apex.is_fqdn ≡ true) × Encloses apex.labels name.labels = (h.0, encloses_too name.labels apex.labels some h.1) in
    rw qualified both

-- and has not the name as its apex
differs : (apex name : DomainName) → name.is_fqdn ≡ true → name.labels ≢ [] → MayAnswer apex (above name) → SameName apex name → ⊥
differs apex name qualified some may same = not_itself name.labels apex.labels some (parts apex name qualified may).1 same.labels

any_alone : {X : Type 0} (P : X → Type 0) (x : X) → Any P (x ∷ []) → P x
any_alone P x (zero, d, lt, is, p) = subst P (sym is) p
any_alone P x (suc k, d, lt, is, p) = absurd (omega (arith, lt))

contains_alone : {X : Type 0} (x y : X) → Contains (x ∷ []) y → x ≡ y
contains_alone x y (zero, lt, is) = is
contains_alone x y (suc k, lt, is) = absurd (omega (arith, lt))

-- where one zone is alone, none above it is asked
pub alone_none : {V : Type 0} (message : MessageRequest) (zone : DomainName × V) → FindsAbove (zone ∷ []) message None
alone_none {V} message zone other asked =
    let there : SameName zone.0 asked.name = any_alone (λ (z : DomainName × V). SameName z.0 asked.name) zone asked.is_apex in
    let one = contains_alone zone other asked.nearest.among in
    let may : MayAnswer zone.0 (above asked.name) = subst (λ (z : DomainName × V). MayAnswer z.0 (above asked.name)) (sym one) asked.nearest.may_answer in
    differs zone.0 asked.name asked.asks.qualified asked.asks.below_root may there

-- ---- one message, read as two requests

module _ (m n : MessageRequest) (same : message_of m ≡ message_of n) where
  query_as : (query : Query) → IsQuery m query → IsQuery n query
  query_as query is = record {
    version = rw (← ap (λ (x : Message). x.edns) same) is.version;
    asks = rw (← ap (λ (x : Message). x.metadata) same) is.asks;
    op_code = rw (← ap (λ (x : Message). x.metadata) same) is.op_code;
    question = rw (← ap (λ (x : Message). x.queries) same) is.question;
  }

  pub above_as : {V : Type 0} (zones : List (DomainName × V)) (zone : DomainName × V) → IsAskedAbove zones m zone → IsAskedAbove zones n zone
  above_as zones zone is = record {
    name = is.name;
    asks = record {
      query = is.asks.query;
      is_query = query_as is.asks.query is.asks.is_query;
      is_ds = is.asks.is_ds;
      name_is = is.asks.name_is;
      qualified = is.asks.qualified;
      below_root = is.asks.below_root;
    };
    is_apex = is.is_apex;
    nearest = is.nearest;
  }
