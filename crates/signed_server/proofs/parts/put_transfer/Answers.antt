-- Why a reply has no parts: it is not read, or what is read of it has none.
use Rattle.std.proofs.Common.{◌≡◌, rules}
use Rattle.hickory_base.proofs.lemmas.ResultMaps.{if_ok_map}
use Rattle.signed_server.specs.SharedReplies.HasNoParts.{unread, without_room}
use Rattle.signed_server.proofs.parts.put_transfer.Goals.{in-Ok, in-Err-Memory, in-Err}
use Rattle.signed_server.proofs.parts.put_transfer.Goals as goal

pub returns-clause-lacking : goal.returns-clause-lacking
returns-clause-lacking c =
    let it = c.from_bytes-read.ensures in
    let same : c.into_vec.result.items ≡ c.args.reply = search rules in
    elim c.match-read.branch [
      | in-Ok w ↦ rw w.done-is
          (if_ok_map w.put_answers-done.result _ _ (rw w.message.ensures at w.put_answers-done.ensures.lacking)
          (λ done lacking failed. without_room (rw same at rw w.in-Ok.is at it.stands) (rw same at rw w.in-Ok.is at it.questions) (lacking failed)))
      | in-Err-Memory w ↦ rw w.done-is tt
      | in-Err w ↦
          let fault = rw w.in-Err.is at it.fault in
          rw w.done-is (λ failed. unread (rw same at fault (search rules)))
    ]
