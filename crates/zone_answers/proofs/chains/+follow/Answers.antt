use Rattle.std.proofs.Common.{◌≡◌, ◌⊎◌, true, false, refl, ap, subst, arith}
use Rattle.wire_names.specs.rr.domain.DomainName.{DomainName}
use Rattle.wire_names.specs.rr.domain.NameOrder.{Encloses, lower_name}
use Rattle.hickory_base.specs.zone_store.ZoneSets.{sets_of}
use Rattle.zone_answers.specs.Chains.{IsIn, owns_cname}
use Rattle.zone_answers.specs.representation.ChainEnds.{Linked, ending_of}
use Rattle.zone_answers.specs.declared.chains.Link.TheVariants as link
use Rattle.zone_answers.specs.Zones.{Records, Zone}
use Rattle.zone_answers.proofs.lemmas.replies.Follows.{ends_here, ends_so, is_in, leads_no_further, leads_nowhere, leads_on}
use Rattle.zone_answers.proofs.lemmas.zones.Outcomes.{if_ok}
use Rattle.zone_answers.proofs.chains.+follow.Goals as goal

pub returns-in-End : goal.returns-in-End
returns-in-End t c =
    let zone : Zone = record { origin = c.args.zone.origin.now; sets = sets_of c.args.zone.sets.now } in
    let h : Linked zone c.args.record_type c.args.name.now c.args.answers.now.items c.append_link.new.answers.items (link.End c.in-End.end) = rw c.in-End.is at (c.in_ok-end.ensures zone refl c.requires.found) in
    ends_so zone c.args.record_type c.args.name.now c.args.answers.now.items c.append_link.new.answers.items c.in-End.end h c.args.left

pub returns-then-left-eq0 : goal.returns-then-left-eq0
returns-then-left-eq0 t c =
    let zone : Zone = record { origin = c.args.zone.origin.now; sets = sets_of c.args.zone.sets.now } in
    let h : Linked zone c.args.record_type c.args.name.now c.args.answers.now.items c.append_link.new.answers.items (link.Leads c.in-Leads.to) = rw c.in-Leads.is at (c.in_ok-end.ensures zone refl c.requires.found) in
    ends_here zone c.args.record_type c.args.name.now c.args.answers.now.items c.append_link.new.answers.items c.in-Leads.to h c.args.left (omega arith)

pub returns-in_default : goal.returns-in_default
returns-in_default t c =
    let zone : Zone = record { origin = c.args.zone.origin.now; sets = sets_of c.args.zone.sets.now } in
    let h : Linked zone c.args.record_type c.args.name.now c.args.answers.now.items c.append_link.new.answers.items (link.Leads c.in-Leads.to) = rw c.in-Leads.is at (c.in_ok-end.ensures zone refl c.requires.found) in
    leads_nowhere zone c.args.record_type c.args.name.now c.args.answers.now.items c.append_link.new.answers.items c.in-Leads.to h c.args.left c.in_default.is

pub returns-in_default-2 : goal.returns-in_default-2
returns-in_default-2 t c =
    let zone : Zone = record { origin = c.args.zone.origin.now; sets = sets_of c.args.zone.sets.now } in
    let h : Linked zone c.args.record_type c.args.name.now c.args.answers.now.items c.append_link.new.answers.items (link.Leads c.in-Leads.to) = rw c.in-Leads.is at (c.in_ok-end.ensures zone refl c.requires.found) in
    let out = rw c.in_default-2.is at c.in_ok-next.ensures in
    leads_no_further zone c.args.record_type c.args.name.now c.args.answers.now.items c.append_link.new.answers.items c.in-Leads.to h c.in-Some.target c.in-Some.is c.args.left
    (subst (λ (rs : Records). ¬ (IsIn zone c.in-Some.target) ⊎ (owns_cname (lower_name c.in-Some.target) rs ≡ true)) c.as_slice.ensures.value (out zone.sets))

pub returns : goal.returns
returns t c =
    let zone : Zone = record { origin = c.args.zone.origin.now; sets = sets_of c.args.zone.sets.now } in
    let h : Linked zone c.args.record_type c.args.name.now c.args.answers.now.items c.append_link.new.answers.items (link.Leads c.in-Leads.to) = rw c.in-Leads.is at (c.in_ok-end.ensures zone refl c.requires.found) in
    let way = rw c.in-Some-2.is at c.in_ok-next.ensures in
    let name : c.in-Some-2.next.name ≡ lower_name c.in-Some.target = ap (λ k. k.name) way.0 in
    let within : IsIn zone c.in-Some.target = is_in zone c.in-Some.target way.1 (subst (λ (n : DomainName). Encloses zone.origin.labels n.labels) name way.2) in
    let apart : owns_cname (lower_name c.in-Some.target) c.append_link.new.answers.items ≡ false =
    subst (λ (n : DomainName). owns_cname n c.append_link.new.answers.items ≡ false) name (subst (λ (rs : Records). owns_cname c.in-Some-2.next.name rs ≡ false) c.as_slice.ensures.value way.3) in
    if_ok c.follow.result _ _ c.follow.ensures
    (λ end x. leads_on zone c.args.record_type c.args.name.now c.args.answers.now.items c.append_link.new.answers.items c.in-Leads.to h c.in-Some.target c.in-Some.is c.args.left c.follow.new.answers.items (ending_of end)
    (λ zeros. absurd (omega arith)) within apart x)
