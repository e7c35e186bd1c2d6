-- One name more; and at the end all.
use Rattle.std.proofs.Common.{◌≡◌, All, rules, subst, take, true}
use Rattle.std.proofs.lemmas.List.{take_all}
use Rattle.std.proofs.lemmas.List.Elements.{All-more, All-weaker}
use Rattle.hickory_store.proofs.lemmas.updates.ApexNs.{Records, Resource}
use Rattle.zone_differences.specs.Standing.{are_among}
use Rattle.zone_differences.proofs.names.push_names.Goals as goal

pub loop-r-preserved : goal.loop-r-preserved
loop-r-preserved c =
    let before : Resource → Type 0 = λ r. are_among c.loop-r.names.items r.name ≡ true in
    let after : Resource → Type 0 = λ r. are_among c.push_name.new.names.items r.name ≡ true in
    let rs : Records = c.args.records.now in
    record {
      standing = λ h. c.in_ok-push_name.ensures.standing (c.loop-r.invariant.standing h);
      there = All-more after rs c.loop-r.r-index c.r-item.result (search rules)
          (All-weaker before after (λ r h. c.in_ok-push_name.ensures.others r.name h) (take c.loop-r.r-index rs) c.loop-r.invariant.there)
          (subst after c.r-item.is c.in_ok-push_name.ensures.there);
    }

pub returns-clause-there : goal.returns-clause-there
returns-clause-there c =
    subst (All (λ (r : Resource). are_among c.loop-r.names.items r.name ≡ true)) (take_all c.loop-r.r-index c.args.records.now (search rules)) c.loop-r.invariant.there
