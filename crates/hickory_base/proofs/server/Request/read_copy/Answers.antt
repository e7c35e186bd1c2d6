use Rattle.std.proofs.Common.{◌≡◌, ◌∙◌, ℕ, List, ap, subst, sym}
use Rattle.wire_reading.specs.serialize.layout.WholeMessage.{MessageAt}
use Rattle.hickory_base.specs.requests.RequestReading.{message_of}
use Rattle.hickory_base.specs.requests.Requests.{ReceivedRequest}
use Rattle.hickory_base.proofs.server.Request.read_copy.Goals as goal

pub returns-clause-standing : goal.returns-clause-standing
returns-clause-standing c = λ m at.
    let same : c.self.inside.bytes ≡ c.args.bytes.now = ap (λ (r : ReceivedRequest). r.bytes) c.self.view_is ∙ ap (λ (r : ReceivedRequest). r.bytes) c.in_ok-set_bytes.ensures.bytes in
    ap (λ (r : ReceivedRequest). message_of r.message) c.note_read.ensures ∙ c.in_ok-read_own_bytes.ensures.standing m (subst (λ (bytes : List ℕ). MessageAt bytes m) (sym same) at)
