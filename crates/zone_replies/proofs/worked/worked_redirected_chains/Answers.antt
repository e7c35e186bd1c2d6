use Rattle.std.proofs.Common.{[], ◌∷◌, refl, arith}
use Rattle.wire_messages.specs.Numbers.{type_a, type_any, type_cname}
use Rattle.wire_messages.specs.serialize.reading.NameReading.{name, labels_from, labels_within}
use Rattle.wire_messages.specs.declared.rr.rdata.RData.TheVariants as rdata
use Rattle.zone_answers.proofs.lemmas.zones.Written.{as_denied, as_matched, as_redirected, encloses_by, redirects_by}
use Rattle.zone_answers.specs.Chains.{comes_back, finishes, follows}
use Rattle.zone_answers.specs.WorkedRedirections.{a_self, back_new, back_old, below_long, long, made, moved, nobody_new, nobody_old, redirecting, self, to_far, to_self, www_new, www_old}
use Rattle.zone_answers.specs.WorkedZones.{address, example, owned}
use Rattle.zone_replies.proofs.worked.worked_redirected_chains.Goals as goal

pub returns-clause-at_records : goal.returns-clause-at_records
unfolding name labels_from labels_within
returns-clause-at_records c = follows {left = 7} {before = []} {name = www_old} {target = www_new} {rs = moved ∷ made www_old www_new ∷ []} {rest = owned www_new (address 2) ∷ []}
    (as_redirected redirecting www_old type_a 1 (moved ∷ []) (redirects_by redirecting www_old 1 (omega arith) (omega arith) refl refl refl refl) refl) refl
    (record { qualified = refl; within = encloses_by example www_new refl }) refl
    (finishes (as_matched redirecting www_new type_a refl refl refl) refl)

pub returns-clause-asked_for_alias : goal.returns-clause-asked_for_alias
unfolding name labels_from labels_within
returns-clause-asked_for_alias c = finishes (as_redirected redirecting www_old type_cname 1 (moved ∷ []) (redirects_by redirecting www_old 1 (omega arith) (omega arith) refl refl refl refl) refl) refl

pub returns-clause-asked_for_all : goal.returns-clause-asked_for_all
unfolding name labels_from labels_within
returns-clause-asked_for_all c = follows {left = 7} {before = []} {name = www_old} {target = www_new} {rs = moved ∷ made www_old www_new ∷ []} {rest = owned www_new (address 2) ∷ []}
    (as_redirected redirecting www_old type_any 1 (moved ∷ []) (redirects_by redirecting www_old 1 (omega arith) (omega arith) refl refl refl refl) refl) refl
    (record { qualified = refl; within = encloses_by example www_new refl }) refl
    (finishes (as_matched redirecting www_new type_any refl refl refl) refl)

pub returns-clause-twice : goal.returns-clause-twice
unfolding name labels_from labels_within
returns-clause-twice c = follows {left = 7} {before = []} {name = back_old} {target = back_new} {rs = moved ∷ made back_old back_new ∷ []} {rest = owned back_new (rdata.CNAME www_old) ∷ made www_old www_new ∷ owned www_new (address 2) ∷ []}
    (as_redirected redirecting back_old type_a 1 (moved ∷ []) (redirects_by redirecting back_old 1 (omega arith) (omega arith) refl refl refl refl) refl) refl
    (record { qualified = refl; within = encloses_by example back_new refl }) refl
    (follows {left = 6} {before = moved ∷ made back_old back_new ∷ []} {name = back_new} {target = www_old} {rs = owned back_new (rdata.CNAME www_old) ∷ []} {rest = made www_old www_new ∷ owned www_new (address 2) ∷ []}
    (as_matched redirecting back_new type_a refl refl refl) refl
    (record { qualified = refl; within = encloses_by example www_old refl }) refl
    (follows {left = 5} {before = moved ∷ made back_old back_new ∷ owned back_new (rdata.CNAME www_old) ∷ []} {name = www_old} {target = www_new} {rs = made www_old www_new ∷ []} {rest = owned www_new (address 2) ∷ []}
    (as_redirected redirecting www_old type_a 1 (moved ∷ []) (redirects_by redirecting www_old 1 (omega arith) (omega arith) refl refl refl refl) refl) refl
    (record { qualified = refl; within = encloses_by example www_new refl }) refl
    (finishes (as_matched redirecting www_new type_a refl refl refl) refl)))

pub returns-clause-at_nobody : goal.returns-clause-at_nobody
unfolding name labels_from labels_within
returns-clause-at_nobody c = follows {left = 7} {before = []} {name = nobody_old} {target = nobody_new} {rs = moved ∷ made nobody_old nobody_new ∷ []} {rest = []}
    (as_redirected redirecting nobody_old type_a 1 (moved ∷ []) (redirects_by redirecting nobody_old 1 (omega arith) (omega arith) refl refl refl refl) refl) refl
    (record { qualified = refl; within = encloses_by example nobody_new refl }) refl
    (finishes (as_denied redirecting nobody_new type_a refl refl 0 refl refl refl refl refl) refl)

pub returns-clause-at_itself : goal.returns-clause-at_itself
unfolding name labels_from labels_within
returns-clause-at_itself c = comes_back {target = a_self} (as_redirected redirecting a_self type_a 1 (owned self to_self ∷ []) (redirects_by redirecting a_self 1 (omega arith) (omega arith) refl refl refl refl) refl) refl refl

pub returns-clause-name_too_long : goal.returns-clause-name_too_long
unfolding name labels_from labels_within
returns-clause-name_too_long c = finishes (as_redirected redirecting below_long type_a 3 (owned long to_far ∷ []) (redirects_by redirecting below_long 3 (omega arith) (omega arith) refl refl refl refl) refl) refl
