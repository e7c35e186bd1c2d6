-- One record more is said.
use Rattle.std.proofs.Common.{◌≡◌, ◌∙◌, ◌-◌, ◌++◌, ◌∷◌, [], ℕ, List, ap, append_assoc, drop, length, refl, sym, take}
use Rattle.std.proofs.lemmas.List.{append-nil}
use Rattle.wire_messages.specs.declared.rr.rdata.RData.{RData}
use Rattle.wire_messages.specs.declared.rr.record.Record.{Record}
use Rattle.journal.specs.Read.{contents}
use Rattle.durable_updates.proofs.Judging.{front_of}
use Rattle.durable_updates.proofs.Recalled.{say_more}
use Rattle.durable_updates.proofs.snapshots.push_records.Goals as goal

pub loop-rest-preserved : goal.loop-rest-preserved
loop-rest-preserved c =
    let rest : List (Record RData) = c.loop-rest.rest.now in
    let first : Record RData = c.first-item.result in
    let others : List (Record RData) = take (length rest - 1) (drop 1 rest) in
    let split : rest ≡ first ∷ others = front_of rest first c.in-len1-up.len_at_least c.first-item.is in
    let was = c.loop-rest.invariant in
    let new = c.in_ok-push_record.ensures in (
      was.0 ++ first ∷ [],
      was.1 ++ new.0 ∷ [],
      was.2 ∙ ap (λ (l : List (Record RData)). was.0 ++ l) split ∙ sym (append_assoc was.0 (first ∷ []) others),
      new.1 ∙ ap (λ (l : List (List ℕ)). l ++ new.0 ∷ []) was.3 ∙ append_assoc (contents c.args.entries.now.items) was.1 (new.0 ∷ []),
      say_more was.1 (new.0 ∷ []) was.0 (first ∷ []) was.4 (new.2, tt),
    )

pub loop-rest-init : goal.loop-rest-init
loop-rest-init c = ([], [], refl, sym (append-nil (contents c.args.entries.now.items)), tt)
