-- The messages of both halves are those of all answers; or an answer of a half lacks room.
use Rattle.std.proofs.Common.{◌≡◌, ℕ, List, [], ◌∷◌, ◌++◌, take, drop, rules, ap, subst, ◌∙◌, append_assoc}
use Rattle.std.proofs.lemmas.List.{take-append-drop}
use Rattle.wire_messages.specs.declared.rr.rdata.RData.{RData}
use Rattle.wire_messages.specs.declared.rr.record.Record.{Record}
use Rattle.hickory_base.proofs.lemmas.ResultMaps.{if_ok_map}
use Rattle.signed_server.specs.SharedReplies.{AreParts, HasNoRoom, IsPart, LacksRoom}
use Rattle.signed_server.specs.SharedReplies.AreParts.{one, two}
use Rattle.signed_server.specs.SharedReplies.LacksRoom.{few, in_back, in_front}
use Rattle.signed_server.proofs.parts.+put_parts.Goals as goal

halves : {X : Type 0} (n : ℕ) (xs front back : List X) → front ≡ take n xs → back ≡ drop n xs → front ++ back ≡ xs
halves n xs front back first second = rw (first, second) (take-append-drop n xs)

pub returns-in-Some-clause-put : goal.returns-in-Some-clause-put
returns-in-Some-clause-put t c put =
    let is : IsPart c.args.limit c.args.message.now c.args.answers.now c.in-Some.bytes = rw c.in-Some.is at c.in_ok-bytes.ensures in
    let grew : c.push.new.self.items ≡ c.args.out.now.items ++ c.in-Some.bytes ∷ [] = search rules in
    (c.in-Some.bytes ∷ [], one is, grew)

pub returns-then-answers-lt2-clause-lacking : goal.returns-then-answers-lt2-clause-lacking
returns-then-answers-lt2-clause-lacking t c failed =
    let lacks : HasNoRoom c.args.limit c.args.message.now c.args.answers.now = rw c.in_default.is at c.in_ok-bytes.ensures in
    few c.if-answers-lt2.true lacks

pub returns-then-not-branch-clause-lacking : goal.returns-then-not-branch-clause-lacking
returns-then-not-branch-clause-lacking t c failed =
    let front : List (Record RData) = c.split_at.result.0.now in
    let back : List (Record RData) = c.split_at.result.1.now in
    let joined = halves _ c.args.answers.now front back c.split_at.ensures.front c.split_at.ensures.back in
    let lacks : LacksRoom c.args.limit c.args.message.now front = c.in_ok-put_parts.ensures.lacking (search rules) in
    subst (LacksRoom c.args.limit c.args.message.now) joined (in_front back lacks)

pub returns-clause-put : goal.returns-clause-put
returns-clause-put t c =
    let front : List (Record RData) = c.split_at.result.0.now in
    let back : List (Record RData) = c.split_at.result.1.now in
    let joined = halves _ c.args.answers.now front back c.split_at.ensures.front c.split_at.ensures.back in
    let (parts, are, grew) = c.in_ok-put_parts.ensures.put (search rules) in
    if_ok_map c.put_parts-2.result _ _ c.put_parts-2.ensures.put (λ done put is_put.
    let (others, are_others, grew_more) = put is_put in (
      parts ++ others,
      subst (λ (answers : List (Record RData)). AreParts c.args.limit c.args.message.now answers (parts ++ others)) joined (two are are_others),
      grew_more ∙ ap (λ (ms : List (List ℕ)). ms ++ others) grew ∙ append_assoc c.args.out.now.items parts others,
    ))

pub returns-clause-lacking : goal.returns-clause-lacking
returns-clause-lacking t c =
    let front : List (Record RData) = c.split_at.result.0.now in
    let back : List (Record RData) = c.split_at.result.1.now in
    let joined = halves _ c.args.answers.now front back c.split_at.ensures.front c.split_at.ensures.back in
    if_ok_map c.put_parts-2.result _ _ c.put_parts-2.ensures.lacking (λ done lacking failed. subst (LacksRoom c.args.limit c.args.message.now) joined (in_back front (lacking failed)))
