-- What is told of the room is what a reply grows by.
use Rattle.tsig.proofs.Rooms.{next_reply_room, reply_room}
use Rattle.tsig.proofs.laws.replies_take_their_room.Goals as goal

pub returns-clause-first : goal.returns-clause-first
returns-clause-first c = λ keys j message now reply room e. reply_room keys j message now reply room e

pub returns-clause-next : goal.returns-clause-next
returns-clause-next c = λ keys s prior message now reply room e. next_reply_room keys s prior message now reply room e
