use Rattle.std.proofs.Common.{[], ◌∷◌, ◌++◌, List, sym, ap, subst, ◌∙◌, append_assoc}
use Rattle.std.proofs.lemmas.Bool.{false≢true}
use Rattle.std.proofs.lemmas.List.{append-nil}
use Rattle.hickory_base.specs.zone_store.ZoneSets.{sets_of}
use Rattle.zone_answers.specs.representation.KeysBeside.{Entry}
use Rattle.zone_answers.specs.Zones.{Records}
use Rattle.signed_answers.proofs.lemmas.NsecRanges.{last_found, none_found}
use Rattle.signed_answers.specs.NsecSets.{IsNsecFor}
use Rattle.signed_answers.proofs.nsec_sets.nsec_before.Goals as goal

pub loop-key-init : goal.loop-key-init
loop-key-init c = ([], sym (c.range-left.ensures.between tt) ∙ sym (append-nil c.range-left.result), tt)

pub loop-key-preserved : goal.loop-key-preserved
loop-key-preserved c =
    let i = c.loop-key.invariant in
    let e : Entry = (c.in-Some.key.now, c.in-Some.set.now) in (
      e ∷ i.0,
      i.1 ∙ ap (λ (es : List Entry). es ++ i.0) c.in-Some.ensures.steps ∙ append_assoc c.next_back.new.self (e ∷ []) i.0,
      (λ typed. false≢true (sym c.if-is_nsec.false ∙ c.is_nsec.ensures.1 typed), i.2),
    )

pub returns-then-is_nsec : goal.returns-then-is_nsec
returns-then-is_nsec c =
    let i = c.loop-key.invariant in
    let e : Entry = (c.in-Some.key.now, c.in-Some.set.now) in
    subst (λ (rs : Records). IsNsecFor (sets_of c.args.sets.now) c.args.at.now.name (c.in-Some.key.now, rs)) (sym (c.records.ensures.value ∙ c.deref.ensures))
    (last_found c.args.sets.now c.args.at.now c.requires c.loop-key.left c.next_back.new.self i.0 e c.range-left.ensures.ordered i.1 i.2 c.in-Some.ensures.steps (c.is_nsec.ensures.0 c.if-is_nsec.true))

pub returns : goal.returns
returns c =
    let i = c.loop-key.invariant in
    none_found c.args.sets.now c.args.at.now c.requires c.loop-key.left i.0 i.1 i.2 c.in_default.ensures.steps.0
