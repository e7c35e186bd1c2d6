-- What is asked of a zone, and what it answers.
use Rattle.std.specs.Prelude.{Bool, true, false, List, [], Option, Some, None, Result, Ok}
use Rattle.wire_messages.specs.op.EdnsFields.{EdnsFields}
use Rattle.wire_messages.specs.declared.rr.rdata.RData.{RData}
use Rattle.wire_messages.specs.declared.rr.record.Record.{Record}
use Rattle.wire_messages.specs.declared.rr.tsig.TSigResponseContext.{TSigResponseContext}
use Rattle.hickory_base.specs.declared.errors.LookupError.{LookupError}
use Rattle.hickory_base.specs.declared.errors.UpdateFault.{UpdateFault}
use Rattle.hickory_base.specs.declared.zone_store.lookup.AuthLookup.{AuthLookup}
use Rattle.hickory_base.specs.declared.zone_store.lookup.AuthLookup.TheVariants.{Empty, Resolved, Records, Whole}
use Rattle.hickory_base.specs.declared.zone_store.lookup.LookupControlFlow.{LookupControlFlow}
use Rattle.hickory_base.specs.declared.zone_store.lookup.LookupControlFlow.TheVariants.{Continue, Break, Skip}
use Rattle.hickory_base.specs.declared.zone_store.lookup.WholeReply.{WholeReply}

-- the flag DO (RFC 3225 section 3)
abbrev pub asks_for_dnssec : Option EdnsFields → Bool
asks_for_dnssec None = false
asks_for_dnssec (Some edns) = edns.dnssec_ok

-- what a handler answers to a lookup
abbrev pub Flow : Type 0
Flow = LookupControlFlow AuthLookup

-- what the signer of the reply has to know of the request, where the handler tells it
abbrev pub SignerContext : Type 0
SignerContext = Option TSigResponseContext

-- what an update answers: whether the zone changed, or why the update is refused
abbrev pub UpdateResult : Type 0
UpdateResult = Result Bool UpdateFault

-- the answer, if there is one
abbrev pub result_of : {T : Type 0} → LookupControlFlow T → Option (Result T LookupError)
result_of (Continue result) = Some result
result_of (Break result) = Some result
result_of Skip = None

abbrev pub is_continue : {T : Type 0} → LookupControlFlow T → Bool
is_continue (Continue result) = true
is_continue other = false

abbrev pub is_break : {T : Type 0} → LookupControlFlow T → Bool
is_break (Break result) = true
is_break other = false

-- the records that were asked for
abbrev pub answers_of : AuthLookup → List (Record RData)
answers_of Empty = []
answers_of (Resolved found) = found.answers
answers_of (Records answers additionals) = answers
answers_of (Whole reply) = reply.answers

-- the additionals of records of the zone
abbrev pub additionals_of : AuthLookup → Option (List (Record RData))
additionals_of (Records answers additionals) = Some additionals
additionals_of other = None

-- what is left when they are taken
abbrev pub without_additionals : AuthLookup → AuthLookup
without_additionals (Records answers additionals) = Records answers []
without_additionals other = other

-- the whole reply that a handler answers, if it does
abbrev pub whole_reply : Result AuthLookup LookupError → Option WholeReply
whole_reply (Ok (Whole reply)) = Some reply
whole_reply other = None

-- the answer that is this whole reply
abbrev pub whole_answer : WholeReply → Flow
whole_answer reply = Continue (Ok (Whole reply))
