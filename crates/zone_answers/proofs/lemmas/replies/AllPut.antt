-- A chain that was asked for any type ends with all records of a name, or without any.
use Rattle.std.proofs.Common.{◌≡◌, ℕ, ◌-◌, Bool, true, false, cond, [], ◌∷◌, ◌++◌, length, refl, sym, ap, subst, ◌∙◌, arith, length-append}
use Rattle.std.specs.Prelude.{nat_lt}
use Rattle.std.proofs.lemmas.Bool.Decides.{nat_tests}
use Rattle.std.proofs.lemmas.List.{length-map}
use Rattle.wire_names.specs.rr.domain.DomainName.{DomainName}
use Rattle.wire_names.specs.rr.domain.NameOrder.{lower_label, lower_name}
use Rattle.zone_answers.specs.declared.redirections.Redirection.{Redirection}
use Rattle.zone_answers.specs.Chains.{not_yet, once, owned_by, owns_dname, redirect, step, without_dname}
use Rattle.zone_answers.specs.declared.chains.ChainEnd.TheVariants as at
use Rattle.zone_answers.specs.declared.chains.Link.{Link}
use Rattle.zone_answers.specs.declared.chains.Link.TheVariants as link
use Rattle.zone_answers.specs.representation.ChainEnds.{IsAllPut, IsStep, Linked, any_link, step_by}
use Rattle.zone_answers.specs.Zones.{Answers, Outcome, Records, Zone, answer, any_of, by_wildcard, no_data, redirection, wild_answer}

ends_as : (rs : Records) (old new : Records) (more : Bool) → new ≡ old ++ rs → more ≡ nat_lt (length old) (length new) → cond more (link.End at.Answer) (link.End at.NoData) ≡ any_link rs
ends_as [] old new true e m = absurd (grind (arith, nat_tests, ap length e, length-append old []))
ends_as [] old new false e m = refl
ends_as (r ∷ rs) old new true e m = refl
ends_as (r ∷ rs) old new false e m = absurd (grind (arith, nat_tests, ap length e, length-append old (r ∷ rs)))

pub all_put : (rs old new : Records) (more : Bool) (end : Link) → new ≡ old ++ rs → more ≡ nat_lt (length old) (length new) → end ≡ cond more (link.End at.Answer) (link.End at.NoData) → IsAllPut rs rs old new end
all_put rs old new more end put m is = record { put = put; ends = is ∙ ends_as rs old new more put m }

module _ (zone : Zone) (t : ℕ) (name low : DomainName) (spelled : low ≡ lower_name name) (old new : Records) (end : Link) where
  pub linked : (outcome : Outcome) → Answers zone low t outcome → IsStep (step t old name outcome) old new end → Linked zone t name old new end
  linked outcome says gained = record { outcome = outcome; says = subst (λ (n : DomainName). Answers zone n t outcome) spelled says; gained = gained }

  nothing_yet : (seen : Bool) → cond seen (without_dname []) [] ≡ []
  nothing_yet true = refl
  nothing_yet false = refl

  pub all_linked : (rs : Records) → Answers zone low t (any_of rs) → IsAllPut rs (not_yet old name rs) old new end → Linked zone t name old new end
  all_linked [] says h = linked no_data says (record { added = []; put = h.put ∙ ap (λ x. old ++ x) (nothing_yet (owns_dname name old)); is = sym (ap (step_by []) h.ends) })
  all_linked (r ∷ rs) says h = linked (answer (r ∷ rs)) says (record { added = not_yet old name (r ∷ rs); put = h.put; is = sym (ap (step_by (not_yet old name (r ∷ rs))) h.ends) })

  pub all_owned_linked : (rs : Records) → Answers zone low t (by_wildcard (any_of rs)) → IsAllPut (owned_by name rs) (owned_by name rs) old new end → Linked zone t name old new end
  all_owned_linked [] says h = linked no_data says (record { added = []; put = h.put; is = sym (ap (step_by []) h.ends) })
  all_owned_linked (r ∷ rs) says h = linked (wild_answer (r ∷ rs)) says (record { added = owned_by name (r ∷ rs); put = h.put; is = sym (ap (step_by (owned_by name (r ∷ rs))) h.ends) })

  same_count : length low.labels ≡ length name.labels
  same_count = ap (λ (d : DomainName). length d.labels) spelled ∙ length-map name.labels lower_label

  pub redirected_linked : (by : Redirection) → Answers zone low t (redirection (length low.labels - by.labels) by.dname.now)
      → IsStep (redirect t name (length name.labels - by.labels) (once old by.dname.now) by.dname.now) old new end → Linked zone t name old new end
  redirected_linked by says gained =
      linked (redirection (length name.labels - by.labels) by.dname.now) (subst (λ (n : ℕ). Answers zone low t (redirection (n - by.labels) by.dname.now)) same_count says) gained
