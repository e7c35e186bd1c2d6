use Rattle.std.proofs.Common.{ℕ, [], ◌∷◌, refl, arith}
use Rattle.hickory_wire.specs.worked.Worked.{root}
use Rattle.wire_messages.specs.Numbers.{type_a, type_aaaa, type_mx, type_ns, type_srv}
use Rattle.wire_messages.specs.declared.rr.rdata.RData.TheVariants as rdata
use Rattle.wire_messages.specs.serialize.reading.NameReading.{name, labels_from, labels_within}
use Rattle.zone_answers.proofs.lemmas.zones.Written.{as_matched, as_referred, encloses_by}
use Rattle.zone_answers.specs.Additionals.{host, inside, is_added, no_record, record_by}
use Rattle.zone_answers.specs.Chains.{IsIn, finishes}
use Rattle.zone_answers.specs.Endings as ended
use Rattle.zone_replies.specs.Replies.{replies}
use Rattle.zone_replies.specs.WorkedReplies.{net, priming, root_mail, root_server, root_service}
use Rattle.zone_answers.specs.WorkedZones.{address, owned, server}
use Rattle.zone_answers.specs.Zones.{Answers, referral}
use Rattle.zone_replies.proofs.worked.worked_glue.Goals as goal

below_cut : (t : ℕ) → Answers priming root_server t (referral (owned net (rdata.NS server) ∷ []))
below_cut t = as_referred priming root_server t refl 2 (owned net (rdata.NS server) ∷ []) refl refl refl (λ e ds. absurd (omega arith)) refl

at_cut_four : Answers priming net type_a (referral (owned net (rdata.NS server) ∷ []))
at_cut_four = as_referred priming net type_a refl 0 (owned net (rdata.NS server) ∷ []) refl refl refl (λ e ds. absurd (omega arith)) refl

at_cut_six : Answers priming net type_aaaa (referral (owned net (rdata.NS server) ∷ []))
at_cut_six = as_referred priming net type_aaaa refl 0 (owned net (rdata.NS server) ∷ []) refl refl refl (λ e ds. absurd (omega arith)) refl

server_held : IsIn priming root_server
server_held = record { qualified = refl; within = encloses_by root root_server refl }

cut_held : IsIn priming net
cut_held = record { qualified = refl; within = encloses_by root net refl }

pub returns-clause-servers : goal.returns-clause-servers
returns-clause-servers c = replies (record { within = record { qualified = refl; within = encloses_by root root refl }; class = refl }) (record {
  chain = owned root (rdata.NS root_server) ∷ [];
  ending = ended.answer;
  chases = finishes (as_matched priming root type_ns refl refl refl) refl;
  ends_in = record {
    additionals = owned root_server (address 4) ∷ [];
    completed = record_by {gained = owned root_server (address 4) ∷ []} {rest = []} {r = owned root (rdata.NS root_server)}
        (host {four = owned root_server (address 4) ∷ []} {six = []} {name = root_server} refl (is_added refl (inside server_held (below_cut type_a))) (is_added refl (inside server_held (below_cut type_aaaa)))) no_record;
    is = refl;
  };
})

pub returns-clause-mail_host : goal.returns-clause-mail_host
returns-clause-mail_host c = replies (record { within = record { qualified = refl; within = encloses_by root root refl }; class = refl }) (record {
  chain = owned root root_mail ∷ [];
  ending = ended.answer;
  chases = finishes (as_matched priming root type_mx refl refl refl) refl;
  ends_in = record {
    additionals = owned net (address 5) ∷ [];
    completed = record_by {gained = owned net (address 5) ∷ []} {rest = []} {r = owned root root_mail}
        (host {four = owned net (address 5) ∷ []} {six = []} {name = net} refl (is_added refl (inside cut_held at_cut_four)) (is_added refl (inside cut_held at_cut_six))) no_record;
    is = refl;
  };
})

pub returns-clause-service : goal.returns-clause-service
unfolding name labels_from labels_within
returns-clause-service c = replies (record { within = record { qualified = refl; within = encloses_by root root refl }; class = refl }) (record {
  chain = owned root root_service ∷ [];
  ending = ended.answer;
  chases = finishes (as_matched priming root type_srv refl refl refl) refl;
  ends_in = record {
    additionals = owned net (address 5) ∷ [];
    completed = record_by {gained = owned net (address 5) ∷ []} {rest = []} {r = owned root root_service}
        (host {four = owned net (address 5) ∷ []} {six = []} {name = net} refl (is_added refl (inside cut_held at_cut_four)) (is_added refl (inside cut_held at_cut_six))) no_record;
    is = refl;
  };
})
