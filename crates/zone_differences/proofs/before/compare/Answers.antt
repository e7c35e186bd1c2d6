-- One name more.
use Rattle.std.proofs.Common.{◌≡◌, ◌∙◌, ◌∷◌, ◌++◌, ◌+◌, List, arith, ap, sym, drop, append_assoc}
use Rattle.std.specs.List.{flat_map}
use Rattle.std.proofs.lemmas.List.{drop_more}
use Rattle.hickory_base.specs.zone_store.ZoneSets.{zone_records}
use Rattle.zone_differences.specs.Standing.{came, went}
use Rattle.zone_differences.specs.declared.names.NameRecords.{NameRecords}
use Rattle.zone_differences.proofs.before.compare.Goals as goal

pub loop-before-preserved : goal.loop-before-preserved
loop-before-preserved c =
    let es = c.args.names.now in
    let i = c.loop-before.before-index in
    let e = c.before-item.result in
    let origin = c.as_name-origin.result.now in
    let zone = zone_records c.args.zone.now.sets in
    let gone = c.loop-before.deleted.items in
    let come = c.loop-before.added.items in
    let left : drop i es ≡ e ∷ drop (i + 1) es = drop_more es i e (omega arith) ∙ ap (λ (x : NameRecords). x ∷ drop (i + 1) es) (sym c.before-item.is) in
    record {
      deleted = ap (λ l. l ++ flat_map (went origin zone) (drop (i + 1) es)) c.in_ok-push_difference.ensures.deleted
          ∙ append_assoc gone (went origin zone e) (flat_map (went origin zone) (drop (i + 1) es))
          ∙ sym (ap (λ (us : List NameRecords). gone ++ flat_map (went origin zone) us) left)
          ∙ c.loop-before.invariant.deleted;
      added = ap (λ l. l ++ flat_map (came origin zone) (drop (i + 1) es)) c.in_ok-push_difference.ensures.added
          ∙ append_assoc come (came origin zone e) (flat_map (came origin zone) (drop (i + 1) es))
          ∙ sym (ap (λ (us : List NameRecords). come ++ flat_map (came origin zone) us) left)
          ∙ c.loop-before.invariant.added;
    }
