use Rattle.std.proofs.Common.{[], ◌∷◌, refl, arith}
use Rattle.std.proofs.lemmas.Bool.{false≢true}
use Rattle.wire_messages.specs.Numbers.{type_a, type_cname, type_txt}
use Rattle.wire_messages.specs.declared.rr.rdata.RData.TheVariants as rdata
use Rattle.zone_answers.proofs.lemmas.zones.Written.{above_told, as_denied, as_matched, as_referred, encloses_by}
use Rattle.zone_answers.specs.Chains.{comes_back, finishes, follows, leaves, stops}
use Rattle.zone_answers.specs.WorkedZones.{away, child, cuts, example, first_alias, into_child, itself_alias, nobody, ns_child, owned, ping, pong, second_alias, server, text, to_child, to_nobody, to_text}
use Rattle.zone_replies.proofs.worked.worked_chains.Goals as goal

pub returns-clause-at_records : goal.returns-clause-at_records
returns-clause-at_records c = follows {left = 7} {before = []} {name = first_alias} {target = second_alias} {rs = owned first_alias (rdata.CNAME second_alias) ∷ []} {rest = owned second_alias (rdata.CNAME to_text) ∷ owned to_text text ∷ []} (as_matched cuts first_alias type_txt refl refl refl) refl (record { qualified = refl; within = encloses_by example second_alias refl }) refl
    (follows {left = 6} {before = owned first_alias (rdata.CNAME second_alias) ∷ []} {name = second_alias} {target = to_text} {rs = owned second_alias (rdata.CNAME to_text) ∷ []} {rest = owned to_text text ∷ []} (as_matched cuts second_alias type_txt refl refl refl) refl (record { qualified = refl; within = encloses_by example to_text refl }) refl
    (finishes (as_matched cuts to_text type_txt refl refl refl) refl))

pub returns-clause-at_alias : goal.returns-clause-at_alias
returns-clause-at_alias c = finishes (as_matched cuts first_alias type_cname refl refl refl) refl

pub returns-clause-at_no_data : goal.returns-clause-at_no_data
returns-clause-at_no_data c = follows {left = 7} {before = []} {name = second_alias} {target = to_text} {rs = owned second_alias (rdata.CNAME to_text) ∷ []} {rest = []} (as_matched cuts second_alias type_a refl refl refl) refl (record { qualified = refl; within = encloses_by example to_text refl }) refl
    (finishes (as_matched cuts to_text type_a refl refl refl) refl)

pub returns-clause-at_nobody : goal.returns-clause-at_nobody
returns-clause-at_nobody c = follows {left = 7} {before = []} {name = to_nobody} {target = nobody} {rs = owned to_nobody (rdata.CNAME nobody) ∷ []} {rest = []} (as_matched cuts to_nobody type_a refl refl refl) refl (record { qualified = refl; within = encloses_by example nobody refl }) refl
    (finishes (as_denied cuts nobody type_a refl refl 0 refl refl refl refl refl) refl)

pub returns-clause-at_cut : goal.returns-clause-at_cut
returns-clause-at_cut c = follows {left = 7} {before = []} {name = into_child} {target = to_child} {rs = owned into_child (rdata.CNAME to_child) ∷ []} {rest = []} (as_matched cuts into_child type_a refl refl refl) refl (record { qualified = refl; within = encloses_by example to_child refl }) refl
    (finishes (as_referred cuts to_child type_a refl 1 (owned child (rdata.NS ns_child) ∷ []) refl refl refl (λ e ds. absurd (omega arith)) refl) refl)

pub returns-clause-outside : goal.returns-clause-outside
returns-clause-outside c = leaves (as_matched cuts away type_a refl refl refl) refl (λ x. false≢true (above_told example server refl x.within))

pub returns-clause-at_itself : goal.returns-clause-at_itself
returns-clause-at_itself c = comes_back {target = itself_alias} (as_matched cuts itself_alias type_a refl refl refl) refl refl

pub returns-clause-in_a_circle : goal.returns-clause-in_a_circle
returns-clause-in_a_circle c = follows {left = 7} {before = []} {name = ping} {target = pong} {rs = owned ping (rdata.CNAME pong) ∷ []} {rest = owned pong (rdata.CNAME ping) ∷ []} (as_matched cuts ping type_a refl refl refl) refl (record { qualified = refl; within = encloses_by example pong refl }) refl
    (comes_back {target = ping} (as_matched cuts pong type_a refl refl refl) refl refl)

pub returns-clause-after_the_last : goal.returns-clause-after_the_last
returns-clause-after_the_last c = follows {left = 0} {before = []} {name = first_alias} {target = second_alias} {rs = owned first_alias (rdata.CNAME second_alias) ∷ []} {rest = owned second_alias (rdata.CNAME to_text) ∷ []} (as_matched cuts first_alias type_txt refl refl refl) refl (record { qualified = refl; within = encloses_by example second_alias refl }) refl
    (stops (as_matched cuts second_alias type_txt refl refl refl) refl)
