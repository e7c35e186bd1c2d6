use Rattle.std.proofs.Common.{[], ◌∷◌, refl, arith}
use Rattle.wire_messages.specs.Numbers.{type_a, type_cname, type_dname, type_ns}
use Rattle.wire_messages.specs.declared.rr.rdata.RData.TheVariants as rdata
use Rattle.zone_answers.proofs.lemmas.zones.Written.{as_matched, as_redirected, as_referred_below, redirects_by}
use Rattle.zone_answers.specs.WorkedRedirections.{cut_old, low, moved, new_home, old_home, redirecting, redirecting_apex, sub, to_new_home, www_low, www_old, www_sub}
use Rattle.zone_answers.specs.WorkedZones.{example, owned, server}
use Rattle.zone_replies.proofs.worked.worked_redirections.Goals as goal

pub returns-clause-owner : goal.returns-clause-owner
returns-clause-owner c = as_matched redirecting old_home type_a refl refl refl

pub returns-clause-owner_asked_for_it : goal.returns-clause-owner_asked_for_it
returns-clause-owner_asked_for_it c = as_matched redirecting old_home type_dname refl refl refl

pub returns-clause-owner_without_alias : goal.returns-clause-owner_without_alias
returns-clause-owner_without_alias c = as_matched redirecting old_home type_cname refl refl refl

pub returns-clause-below : goal.returns-clause-below
returns-clause-below c = as_redirected redirecting www_old type_a 1 (moved ∷ []) (redirects_by redirecting www_old 1 (omega arith) (omega arith) refl refl refl refl) refl

pub returns-clause-dname_below : goal.returns-clause-dname_below
returns-clause-dname_below c = as_redirected redirecting low type_dname 1 (moved ∷ []) (redirects_by redirecting low 1 (omega arith) (omega arith) refl refl refl refl) refl

pub returns-clause-below_dname_below : goal.returns-clause-below_dname_below
returns-clause-below_dname_below c = as_redirected redirecting www_low type_a 2 (moved ∷ []) (redirects_by redirecting www_low 2 (omega arith) (omega arith) refl refl refl refl) refl

pub returns-clause-cut_below : goal.returns-clause-cut_below
returns-clause-cut_below c = as_redirected redirecting cut_old type_ns 1 (moved ∷ []) (redirects_by redirecting cut_old 1 (omega arith) (omega arith) refl refl refl refl) refl

pub returns-clause-below_cut : goal.returns-clause-below_cut
returns-clause-below_cut c = as_referred_below redirecting www_sub type_a 2 (owned sub (rdata.NS server) ∷ []) refl refl refl (λ e ds. absurd (omega arith)) refl refl

pub returns-clause-apex : goal.returns-clause-apex
returns-clause-apex c = as_matched redirecting_apex example type_ns refl refl refl

pub returns-clause-below_apex : goal.returns-clause-below_apex
returns-clause-below_apex c = as_redirected redirecting_apex new_home type_a 1 (owned example to_new_home ∷ []) (redirects_by redirecting_apex new_home 1 (omega arith) (omega arith) refl refl refl refl) refl
