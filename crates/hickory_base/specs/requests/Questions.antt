-- The question section of a request, and what its EDNS says (RFC 1035 section 4.1.2, RFC 6891 section 6).
use Rattle.std.specs.Cmp.{IsEquivalence, and_equiv, eq_by_cmp_equiv, nat_eq_equiv, on_equiv}
use Rattle.std.specs.Cmp.Lexicographic.{lists_equiv, nat_list_eq_equiv, pointwise}
use Rattle.std.specs.Ordering.{eq_of_both, on}
use Rattle.wire_names.specs.rr.domain.NameOrder.{name_cmp_total, name_eq}
use Rattle.std.specs.Prelude.{ℕ, nat_eq, Bool, List, [], ◌∷◌, length, max, Option, Some, None, Result, Ok, Err}
use Rattle.wire_messages.specs.op.EdnsFields.{EdnsFields}
use Rattle.wire_messages.specs.declared.op.query.Query.{Query}
use Rattle.hickory_base.specs.declared.errors.LookupError.{LookupError}
use Rattle.hickory_base.specs.declared.errors.LookupError.TheVariants.{BadQueryCount}

-- the questions, and the bytes of the message that hold them
pub record QuestionSection : Type 0 where
  pub queries : List Query
  pub bytes : List ℕ

-- questions of one name, type and class, names in any letter case
abbrev pub query_eq : Query → Query → Bool
query_eq = eq_of_both (on (λ q. q.name) name_eq) (eq_of_both (on (λ q. q.query_type) nat_eq) (on (λ q. q.query_class) nat_eq))

-- the same questions, and the same bytes
abbrev pub section_eq : QuestionSection → QuestionSection → Bool
section_eq = eq_of_both (on (λ s. s.queries) (pointwise query_eq)) (on (λ s. s.bytes) (pointwise nat_eq))

pub query_eq_equiv : IsEquivalence query_eq
query_eq_equiv = and_equiv (on_equiv (λ q. q.name) (eq_by_cmp_equiv name_cmp_total)) (and_equiv (on_equiv (λ q. q.query_type) nat_eq_equiv) (on_equiv (λ q. q.query_class) nat_eq_equiv))

pub section_eq_equiv : IsEquivalence section_eq
section_eq_equiv = and_equiv (on_equiv (λ s. s.queries) (lists_equiv query_eq_equiv)) (on_equiv (λ s. s.bytes) nat_list_eq_equiv)

-- the question where there is just one, else how many there are
abbrev pub one_query : List Query → Result Query LookupError
one_query [] = Err (BadQueryCount 0)
one_query (query ∷ []) = Ok query
one_query (first ∷ second ∷ others) = Err (BadQueryCount (length (first ∷ second ∷ others)))

-- How many bytes a reply over UDP may have: 512 without EDNS, and never less (RFC 6891 section 6.2.3).
abbrev pub payload_limit : Option EdnsFields → ℕ
payload_limit None = 512
payload_limit (Some edns) = max edns.max_payload 512

-- the version of EDNS, 0 without EDNS
abbrev pub edns_version : Option EdnsFields → ℕ
edns_version None = 0
edns_version (Some edns) = edns.version
