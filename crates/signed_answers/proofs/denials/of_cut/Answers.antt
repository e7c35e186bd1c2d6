use Rattle.std.proofs.Common.{◌≡◌, Some, None, ap, subst, sym, ◌∙◌}
use Rattle.std.specs.Prelude.{is_some}
use Rattle.std.specs.Option.{option_map}
use Rattle.wire_names.specs.rr.domain.DomainName.{DomainName}
use Rattle.wire_messages.specs.declared.rr.rr_key.RrKey.{RrKey}
use Rattle.hickory_base.specs.zone_store.ZoneSets.{IsZone, sets_of}
use Rattle.zone_answers.specs.Zones.{Sets, referral, rrset}
use Rattle.signed_answers.proofs.lemmas.ShownCases.{signed_shown, some_servers, unsigned_shown}
use Rattle.signed_answers.specs.LentSets.{lent_set}
use Rattle.signed_answers.specs.NsecSets.{NsecFor, first_name}
use Rattle.signed_answers.specs.ShownSets.{Shows}
use Rattle.signed_answers.specs.declared.denials.Shown.{Shown}
use Rattle.signed_answers.proofs.denials.of_cut.Goals as goal

pub returns-in_default : goal.returns-in_default
returns-in_default c =
    λ zone name k same cut is.
    let all : IsZone zone.sets = subst (λ (s : Sets). IsZone s) (sym same) c.requires in
    let none : None ≡ first_name c.args.servers.now = rw c.in_default.is at c.owner_of.ensures in
    absurd (some_servers zone name k c.args.servers.now all cut is (sym none))

pub returns-then-has_set : goal.returns-then-has_set
returns-then-has_set c =
    λ zone name k same cut is.
    let all : IsZone zone.sets = subst (λ (s : Sets). IsZone s) (sym same) c.requires in
    let first : Some c.in-Some.owner.now ≡ first_name c.args.servers.now = rw c.in-Some.is at c.owner_of.ensures in
    let key : c.new-key.result ≡ record { name = c.in_ok-cut.cut; record_type = 43 } = c.new-key.ensures ∙ ap (λ (d : DomainName). let q : RrKey = record { name = d; record_type = 43 } in q) c.in_ok-own.ensures.cases in
    let some : is_some (rrset zone.sets c.in_ok-cut.cut 43) ≡ _ = ap (λ (s : Sets). is_some (rrset s c.in_ok-cut.cut 43)) same ∙ sym (ap (λ (q : RrKey). is_some (rrset (sets_of c.args.sets.now) q.name q.record_type)) key) ∙ sym c.has_set.ensures ∙ c.if-has_set.true in
    subst (λ (d : Shown). Shows zone name (referral c.args.servers.now) (option_map lent_set d.name) (option_map lent_set d.wildcard)) (sym c.none-then-has_set.ensures)
    (signed_shown zone name k c.args.servers.now all cut is c.in-Some.owner.now c.in_ok-cut.cut (sym first) c.in_ok-cut.ensures some)

pub returns : goal.returns
returns c =
    λ zone name k same cut is.
    let all : IsZone zone.sets = subst (λ (s : Sets). IsZone s) (sym same) c.requires in
    let first : Some c.in-Some.owner.now ≡ first_name c.args.servers.now = rw c.in-Some.is at c.owner_of.ensures in
    let key : c.new-key.result ≡ record { name = c.in_ok-cut.cut; record_type = 43 } = c.new-key.ensures ∙ ap (λ (d : DomainName). let q : RrKey = record { name = d; record_type = 43 } in q) c.in_ok-own.ensures.cases in
    let none : is_some (rrset zone.sets c.in_ok-cut.cut 43) ≡ _ = ap (λ (s : Sets). is_some (rrset s c.in_ok-cut.cut 43)) same ∙ sym (ap (λ (q : RrKey). is_some (rrset (sets_of c.args.sets.now) q.name q.record_type)) key) ∙ sym c.has_set.ensures ∙ c.if-has_set.false in
    unsigned_shown zone name k c.args.servers.now all cut is c.in-Some.owner.now c.in_ok-cut.cut (sym first) c.in_ok-cut.ensures (option_map lent_set c.nsec_for-name.result) none
    (subst (λ (s : Sets). NsecFor s c.in_ok-cut.cut (option_map lent_set c.nsec_for-name.result)) (sym same) c.nsec_for-name.ensures)
