-- What is replied where the first name of a chain is its last.
use Rattle.std.specs.Prelude.{◌≡◌, ℕ, [], false, Option, Some}
use Rattle.std.specs.Option.{option_copied, option_map}
use Rattle.wire_names.specs.rr.domain.DomainName.{DomainName}
use Rattle.wire_messages.specs.Numbers.{code_no_error}
use Rattle.hickory_base.specs.declared.zone_store.lookup.WholeReply.{WholeReply}
use Rattle.zone_answers.specs.Chains.{ends, step}
use Rattle.zone_answers.specs.Endings.{Ending}
use Rattle.zone_replies.specs.Replies.{EndsIn, whole}
use Rattle.zone_answers.specs.representation.TopCuts.{servers_at}
use Rattle.zone_answers.specs.declared.cuts.Cut.{Cut}
use Rattle.zone_answers.specs.declared.features.Features.{Features}
use Rattle.zone_answers.specs.Zones.{Outcome, Records, Zone}

-- The chain ends with what was found for its first name, and this is the reply.
pub record IsReplyAtOnce (zone : Zone) (t : ℕ) (name : DomainName) (outcome : Outcome) (reply : WholeReply) : Type 0 where
  pub chain : Records
  pub ending : Ending
  pub steps : step t [] name outcome ≡ ends chain ending
  pub ends_in : EndsIn zone chain ending reply

-- Nothing redirects a name, and the reply refers to the servers of the cut, with their addresses as they are told.
pub record IsReferredAtOnce (cut : Option Cut) (has : Features) (reply : WholeReply) : Type 0 where
  pub servers : Records
  pub glue : Records
  pub none : has.dnames ≡ false
  pub at : servers_at cut ≡ Some servers
  pub told : option_map (λ c. option_copied c.glue) cut ≡ Some (Some glue)
  pub is : reply ≡ whole code_no_error false [] servers glue
