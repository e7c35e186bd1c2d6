use Rattle.std.proofs.Common.{◌≡◌, List, ℕ, ap, sym, subst, ◌∙◌}
use Rattle.std.proofs.lemmas.Result.{err_from_is_err_and}
use Rattle.wire_reading.specs.serialize.layout.WholeMessage.{MessageAt}
use Rattle.wire_reading.specs.serialize.reading.MessageReading.{Reads}
use Rattle.wire_messages.specs.declared.op.query.Query.{Query}
use Rattle.hickory_base.specs.requests.RepeatableQuestions.{AreRepeatable, HasRepeatableQuestions}
use Rattle.hickory_base.specs.requests.RequestReading.{IsFaultOf, message_of}
use Rattle.hickory_base.specs.requests.Requests.{ReceivedRequest}
use Rattle.hickory_base.proofs.server.Request.from_bytes.Goals as goal

pub returns-in_err-read_own_bytes-clause-only : goal.returns-in_err-read_own_bytes-clause-only
returns-in_err-read_own_bytes-clause-only c = λ m reads.
    let p = err_from_is_err_and c.from_residual.result c.from_residual.ensures.1 in
    let same : c.new-request.result.bytes ≡ c.args.bytes.items = ap (λ (r : ReceivedRequest). r.bytes) c.new-request.ensures ∙ c.from_vec.ensures in
    rw (p.1, p.2) (c.in_err-read_own_bytes.ensures.only m (subst (λ (bytes : List ℕ). Reads bytes m) (sym same) reads))

pub returns-in_err-read_own_bytes-clause-standing : goal.returns-in_err-read_own_bytes-clause-standing
returns-in_err-read_own_bytes-clause-standing c = λ m stands.
    let p = err_from_is_err_and c.from_residual.result c.from_residual.ensures.1 in
    let same : c.new-request.result.bytes ≡ c.args.bytes.items = ap (λ (r : ReceivedRequest). r.bytes) c.new-request.ensures ∙ c.from_vec.ensures in
    rw (p.1, p.2) (c.in_err-read_own_bytes.ensures.standing m (subst (λ (bytes : List ℕ). MessageAt bytes m) (sym same) stands))

pub returns-in_err-read_own_bytes-clause-fault : goal.returns-in_err-read_own_bytes-clause-fault
returns-in_err-read_own_bytes-clause-fault c =
    let p = err_from_is_err_and c.from_residual.result c.from_residual.ensures.1 in
    let same : c.new-request.result.bytes ≡ c.args.bytes.items = ap (λ (r : ReceivedRequest). r.bytes) c.new-request.ensures ∙ c.from_vec.ensures in
    rw (p.1, p.2) (λ no_want. subst (λ (bytes : List ℕ). IsFaultOf bytes c.in_err-read_own_bytes.field-0.0) same (c.in_err-read_own_bytes.ensures.fault no_want))

pub returns-clause-standing : goal.returns-clause-standing
returns-clause-standing c = λ m stands.
    let same : c.new-request.result.bytes ≡ c.args.bytes.items = ap (λ (r : ReceivedRequest). r.bytes) c.new-request.ensures ∙ c.from_vec.ensures in
    ap (λ (r : ReceivedRequest). message_of r.message) c.note_read.ensures ∙ c.in_ok-read_own_bytes.ensures.standing m (subst (λ (bytes : List ℕ). MessageAt bytes m) (sym same) stands)

pub returns-clause-repeatable : goal.returns-clause-repeatable
returns-clause-repeatable c = λ repeats.
    let same : c.new-request.result.bytes ≡ c.args.bytes.items = ap (λ (r : ReceivedRequest). r.bytes) c.new-request.ensures ∙ c.from_vec.ensures in
    let queries : c.note_read.new.self.message.queries.queries ≡ c.read_own_bytes.new.self.message.queries.queries = ap (λ (r : ReceivedRequest). r.message.queries.queries) c.note_read.ensures in
    let before : HasRepeatableQuestions c.read_own_bytes.new.self =
    c.in_ok-read_own_bytes.ensures.repeatable (subst (λ (bytes : List ℕ). AreRepeatable bytes c.read_own_bytes.new.self.message.queries.queries) (sym same) (subst (λ (qs : List Query). AreRepeatable c.args.bytes.items qs) queries repeats)) in
    subst HasRepeatableQuestions (sym c.note_read.ensures) (record { stop = before.stop; within = before.within; stand = before.stand; formed = before.formed; bytes_are = before.bytes_are })
