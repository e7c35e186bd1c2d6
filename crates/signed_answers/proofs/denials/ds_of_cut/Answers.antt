use Rattle.std.proofs.Common.{◌≡◌, Some, None, ap, subst, sym, ◌∙◌}
use Rattle.wire_messages.specs.declared.rr.rr_key.RrKey.{RrKey}
use Rattle.hickory_base.specs.zone_store.ZoneSets.{IsZone, sets_of}
use Rattle.zone_answers.specs.Zones.{Sets, rrset}
use Rattle.signed_answers.proofs.lemmas.ShownCases.{same_ds, some_servers}
use Rattle.signed_answers.specs.NsecSets.{first_name}
use Rattle.signed_answers.proofs.denials.ds_of_cut.Goals as goal

pub returns-in_default : goal.returns-in_default
returns-in_default c =
    λ zone name k same cut is.
    let all : IsZone zone.sets = subst (λ (s : Sets). IsZone s) (sym same) c.requires in
    let none : None ≡ first_name c.args.servers.now = rw c.in_default.is at c.owner_of.ensures in
    absurd (some_servers zone name k c.args.servers.now all cut is (sym none))

pub returns : goal.returns
returns c =
    λ zone name k same cut is.
    let all : IsZone zone.sets = subst (λ (s : Sets). IsZone s) (sym same) c.requires in
    let first : Some c.in-Some.owner.now ≡ first_name c.args.servers.now = rw c.in-Some.is at c.owner_of.ensures in
    c.set_under.ensures ∙ ap (λ (q : RrKey). rrset (sets_of c.args.sets.now) q.name q.record_type) c.new-key.ensures ∙ ap (λ (s : Sets). rrset s c.in_ok-cut.cut 43) (sym same)
    ∙ same_ds zone name k c.args.servers.now all cut is c.in-Some.owner.now c.in_ok-cut.cut (sym first) c.in_ok-cut.ensures
