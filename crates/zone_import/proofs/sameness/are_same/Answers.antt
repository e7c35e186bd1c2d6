-- One record more is the same.
use Rattle.std.proofs.Common.{◌≡◌, ◌∙◌, ◌-◌, ◌++◌, ◌∷◌, [], List, ap, append_assoc, drop, length, refl, sym, take}
use Rattle.wire_messages.specs.declared.rr.rdata.RData.{RData}
use Rattle.wire_messages.specs.declared.rr.record.Record.{Record}
use Rattle.durable_updates.proofs.Judging.{front_of}
use Rattle.zone_import.proofs.SameLists.{same_more}
use Rattle.zone_import.proofs.sameness.are_same.Goals as goal

pub loop-rest-init : goal.loop-rest-init
loop-rest-init c = ([], [], refl, refl, λ q. refl)

pub loop-rest-preserved : goal.loop-rest-preserved
loop-rest-preserved c =
    let rest : List (Record RData) = c.loop-rest.rest.now in
    let left : List (Record RData) = c.loop-rest.left.now in
    let r : Record RData = c.r-item.result in
    let q : Record RData = c.q-item.result in
    let more : List (Record RData) = take (length rest - 1) (drop 1 rest) in
    let behind : List (Record RData) = take (length left - 1) (drop 1 left) in
    let split : rest ≡ r ∷ more = front_of rest r c.in-len1-up.len_at_least c.r-item.is in
    let split_too : left ≡ q ∷ behind = front_of left q c.in-len1-up-left.len_at_least c.q-item.is in
    let was = c.loop-rest.invariant in
    let one = c.if-not-is_same.ensures refl in (
      was.0 ++ r ∷ [],
      was.1 ++ q ∷ [],
      was.2 ∙ ap (λ (l : List (Record RData)). was.0 ++ l) split ∙ sym (append_assoc was.0 (r ∷ []) more),
      was.3 ∙ ap (λ (l : List (Record RData)). was.1 ++ l) split_too ∙ sym (append_assoc was.1 (q ∷ []) behind),
      same_more c.identities.ensures.records was.0 was.1 r q was.4 one.0 one.1,
    )
