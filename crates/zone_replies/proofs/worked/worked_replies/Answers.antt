use Rattle.std.proofs.Common.{true, [], ◌∷◌, refl, arith}
use Rattle.std.proofs.lemmas.Bool.{false≢true}
use Rattle.wire_messages.specs.Numbers.{type_a, type_aaaa, type_cname, type_mx, type_ns, type_txt}
use Rattle.wire_messages.specs.serialize.reading.NameReading.{name, labels_from, labels_within}
use Rattle.wire_messages.specs.declared.rr.rdata.RData.TheVariants as rdata
use Rattle.zone_answers.proofs.lemmas.zones.Written.{above_told, as_denied, as_matched, as_redirected, as_referred, as_wild, encloses_by, redirects_by}
use Rattle.zone_answers.specs.Additionals.{host, inside, is_added, no_host, no_record, record_by}
use Rattle.zone_answers.specs.Chains.{finishes, follows}
use Rattle.zone_answers.specs.Endings as ended
use Rattle.zone_replies.specs.Replies.{refuses, replies, whole}
use Rattle.zone_answers.specs.WorkedRedirections.{below_long, long, made, moved, redirecting, to_far, www_old}
use Rattle.zone_replies.specs.WorkedReplies.{denying_soa, loud_host3, loud_new, loud_old}
use Rattle.zone_answers.specs.WorkedZones.{address, child, cuts, example, host1, host3, into_child, mail, nobody, ns_child, owned, server, to_child, to_nobody, text, to_text, wildcards}
use Rattle.zone_replies.proofs.worked.worked_replies.Goals as goal

pub returns-clause-answer_with_address : goal.returns-clause-answer_with_address
returns-clause-answer_with_address c = replies (record { within = record { qualified = refl; within = encloses_by example host3 refl }; class = refl }) (record {
  chain = owned host3 mail ∷ [];
  ending = ended.answer;
  chases = finishes (as_wild wildcards host3 type_mx refl refl 0 refl refl refl refl refl) refl;
  ends_in = record {
    additionals = owned host1 (address 1) ∷ [];
    completed = record_by {gained = owned host1 (address 1) ∷ []} {rest = []} {r = owned host3 mail} (host {four = owned host1 (address 1) ∷ []} {six = []} {name = host1} refl
        (is_added refl (inside (record { qualified = refl; within = encloses_by example host1 refl }) (as_matched wildcards host1 type_a refl refl refl)))
        (is_added refl (inside (record { qualified = refl; within = encloses_by example host1 refl }) (as_matched wildcards host1 type_aaaa refl refl refl)))) no_record;
    is = refl;
  };
})

pub returns-clause-servers_at_cut : goal.returns-clause-servers_at_cut
returns-clause-servers_at_cut c = replies (record { within = record { qualified = refl; within = encloses_by example child refl }; class = refl }) (record {
  chain = [];
  ending = ended.referral (owned child (rdata.NS ns_child) ∷ []);
  chases = finishes (as_referred cuts child type_ns refl 0 (owned child (rdata.NS ns_child) ∷ []) refl refl refl (λ e ds. absurd (omega arith)) refl) refl;
  ends_in = record {
    additionals = owned ns_child (address 53) ∷ [];
    completed = record_by {gained = owned ns_child (address 53) ∷ []} {rest = []} (host {four = owned ns_child (address 53) ∷ []} {six = []} refl (is_added refl refl) (is_added refl refl)) no_record;
    is = refl;
  };
})

pub returns-clause-cut_behind_alias : goal.returns-clause-cut_behind_alias
returns-clause-cut_behind_alias c = replies (record { within = record { qualified = refl; within = encloses_by example into_child refl }; class = refl }) (record {
  chain = owned into_child (rdata.CNAME to_child) ∷ [];
  ending = ended.referral (owned child (rdata.NS ns_child) ∷ []);
  chases = follows {left = 7} {before = []} {name = into_child} {target = to_child} {rs = owned into_child (rdata.CNAME to_child) ∷ []} {rest = []} (as_matched cuts into_child type_a refl refl refl) refl
      (record { qualified = refl; within = encloses_by example to_child refl }) refl
      (finishes (as_referred cuts to_child type_a refl 1 (owned child (rdata.NS ns_child) ∷ []) refl refl refl (λ e ds. absurd (omega arith)) refl) refl);
  ends_in = record {
    additionals = owned ns_child (address 53) ∷ [];
    completed = record_by {gained = owned ns_child (address 53) ∷ []} {rest = []} (host {four = owned ns_child (address 53) ∷ []} {six = []} refl (is_added refl refl) (is_added refl refl)) no_record;
    is = refl;
  };
})

pub returns-clause-no_data : goal.returns-clause-no_data
returns-clause-no_data c = replies (record { within = record { qualified = refl; within = encloses_by example to_text refl }; class = refl }) (record {
  chain = [];
  ending = ended.no_data;
  chases = finishes (as_matched cuts to_text type_a refl refl refl) refl;
  ends_in = record { additionals = []; completed = refl; is = refl };
})

pub returns-clause-any_class : goal.returns-clause-any_class
returns-clause-any_class c = replies {reply = whole 0 true [] (denying_soa ∷ []) []} (record { within = record { qualified = refl; within = encloses_by example to_text refl }; class = refl }) (record {
  chain = [];
  ending = ended.no_data;
  chases = finishes (as_matched cuts to_text type_a refl refl refl) refl;
  ends_in = record { additionals = []; completed = refl; is = refl };
})

pub returns-clause-nobody : goal.returns-clause-nobody
returns-clause-nobody c = replies (record { within = record { qualified = refl; within = encloses_by example nobody refl }; class = refl }) (record {
  chain = [];
  ending = ended.no_name;
  chases = finishes (as_denied cuts nobody type_a refl refl 0 refl refl refl refl refl) refl;
  ends_in = record { additionals = []; completed = refl; is = refl };
})

pub returns-clause-nobody_behind_alias : goal.returns-clause-nobody_behind_alias
returns-clause-nobody_behind_alias c = replies (record { within = record { qualified = refl; within = encloses_by example to_nobody refl }; class = refl }) (record {
  chain = owned to_nobody (rdata.CNAME nobody) ∷ [];
  ending = ended.no_name;
  chases = follows {left = 7} {before = []} {name = to_nobody} {target = nobody} {rs = owned to_nobody (rdata.CNAME nobody) ∷ []} {rest = []} (as_matched cuts to_nobody type_a refl refl refl) refl
      (record { qualified = refl; within = encloses_by example nobody refl }) refl
      (finishes (as_denied cuts nobody type_a refl refl 0 refl refl refl refl refl) refl);
  ends_in = record { additionals = []; completed = refl; is = refl };
})

pub returns-clause-name_too_long : goal.returns-clause-name_too_long
unfolding name labels_from labels_within
returns-clause-name_too_long c = replies (record { within = record { qualified = refl; within = encloses_by example below_long refl }; class = refl }) (record {
  chain = owned long to_far ∷ [];
  ending = ended.name_too_long;
  chases = finishes (as_redirected redirecting below_long type_a 3 (owned long to_far ∷ []) (redirects_by redirecting below_long 3 (omega arith) (omega arith) refl refl refl refl) refl) refl;
  ends_in = record { additionals = []; completed = refl; is = refl };
})

pub returns-clause-outside : goal.returns-clause-outside
returns-clause-outside c = refuses (λ x. false≢true (above_told example server refl x.within.within))

pub returns-clause-other_class : goal.returns-clause-other_class
returns-clause-other_class c = refuses (λ x. false≢true x.class)

pub returns-clause-spelled_as_asked : goal.returns-clause-spelled_as_asked
returns-clause-spelled_as_asked c = replies (record { within = record { qualified = refl; within = encloses_by example host3 refl }; class = refl }) (record {
  chain = owned loud_host3 text ∷ [];
  ending = ended.answer;
  chases = finishes (as_wild wildcards host3 type_txt refl refl 0 refl refl refl refl refl) refl;
  ends_in = record { additionals = []; completed = record_by {gained = []} {rest = []} (no_host refl) no_record; is = refl };
})

pub returns-clause-made_as_asked : goal.returns-clause-made_as_asked
unfolding name labels_from labels_within
returns-clause-made_as_asked c = replies (record { within = record { qualified = refl; within = encloses_by example www_old refl }; class = refl }) (record {
  chain = moved ∷ made loud_old loud_new ∷ [];
  ending = ended.answer;
  chases = finishes (as_redirected redirecting www_old type_cname 1 (moved ∷ []) (redirects_by redirecting www_old 1 (omega arith) (omega arith) refl refl refl refl) refl) refl;
  ends_in = record { additionals = []; completed = record_by {gained = []} {rest = []} (no_host refl) (record_by {gained = []} {rest = []} (no_host refl) no_record); is = refl };
})
