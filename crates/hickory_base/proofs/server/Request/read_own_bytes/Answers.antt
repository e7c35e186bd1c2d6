use Rattle.std.proofs.Common.{◌≡◌, ◌≢◌, ◌∙◌, ℕ, List, ap, sym, subst, rules}
use Rattle.wire_names.specs.serialize.layout.Bytes.{AreBytes}
use Rattle.wire_names.specs.declared.error.DecodeError.{DecodeError}
use Rattle.wire_names.specs.declared.error.DecodeError.TheVariants as decode_error
use Rattle.wire_names.specs.declared.error.ProtoError.{ProtoError}
use Rattle.wire_names.specs.declared.error.ProtoError.TheVariants.{Decode}
use Rattle.wire_messages.proofs.lemmas.serialize.layout.ByteTexts.{here}
use Rattle.wire_reading.specs.declared.op.message.Message.{Message}
use Rattle.wire_reading.specs.serialize.layout.WholeMessage.{MessageAt}
use Rattle.wire_reading.specs.serialize.reading.MessageFaults.{MessageFault}
use Rattle.wire_reading.specs.serialize.reading.MessageReading.{Fault, Reads}
use Rattle.wire_reading.proofs.lemmas.serialize.reading.MessageFaultLaws.{message_err}
use Rattle.wire_reading.proofs.lemmas.serialize.reading.WholeMessage.{message_found, message_here}
use Rattle.hickory_base.specs.requests.RequestReading.{IsFaultOf, IsQuestionSection, message_of}
use Rattle.hickory_base.specs.requests.Requests.{ReceivedRequest}
use Rattle.hickory_base.proofs.lemmas.requests.RepeatedQuestions.{repeatable}
use Rattle.hickory_base.proofs.server.Request.read_own_bytes.Goals.{in-Ok, in-Err}
use Rattle.hickory_base.proofs.server.Request.read_own_bytes.Goals as goal

-- a fault that reading meets is the first fault of the bytes
fault_of : (bytes read : List ℕ) (fault : DecodeError) (e : ProtoError) → read ≡ bytes → AreBytes read → Fault read fault → fault ≢ decode_error.Memory → e ≡ Decode fault → IsFaultOf bytes e
fault_of bytes read fault e same are first no_want is = record {
  fault = fault;
  stands = subst (λ (b : List ℕ). MessageFault b fault) same (message_err read are fault first);
  first = subst (λ (b : List ℕ). Fault b fault) same first;
  no_want = no_want;
  is = is;
}

-- what is read stands in the bytes
stands_of : (bytes read : List ℕ) (m : Message) → read ≡ bytes → AreBytes read → Reads read m → MessageAt bytes m
stands_of bytes read m same are reads = subst (λ (b : List ℕ). MessageAt b m) same (message_found read are m reads.stop reads.reads)

-- what stands in the bytes is read
reads_of : (bytes read : List ℕ) (m : Message) → read ≡ bytes → AreBytes read → MessageAt bytes m → Reads bytes m
reads_of bytes read m same are at =
    let there : MessageAt read m = subst (λ (b : List ℕ). MessageAt b m) (sym same) at in
    subst (λ (b : List ℕ). Reads b m) same (record { stop = here read there.stop; reads = message_here read are m there })

pub returns-clause-stands : goal.returns-clause-stands
returns-clause-stands c =
    let same : c.as_slice.result.now ≡ c.args.self.now.bytes = c.as_slice.ensures ∙ ap (λ (r : ReceivedRequest). r.bytes) c.self.view_is in
    elim c.match-read_message.branch [
      | in-Ok w ↦ rw w.result-is (stands_of c.args.self.now.bytes c.as_slice.result.now (message_of c.read_message.new.message) same c.read_message.ensures.bytes w.in-Ok.ensures.found)
      | in-Err w ↦ rw w.result-is tt
    ]

pub returns-clause-repeatable : goal.returns-clause-repeatable
returns-clause-repeatable c =
    let same : c.as_slice.result.now ≡ c.args.self.now.bytes = c.as_slice.ensures ∙ ap (λ (r : ReceivedRequest). r.bytes) c.self.view_is in
    let request : ReceivedRequest = record { message = c.read_message.new.message; bytes = c.self.inside.bytes; source = c.self.inside.source; protocol = c.self.inside.protocol; was_read = c.self.inside.was_read } in
    elim c.match-read_message.branch [
      | in-Ok w ↦ rw w.result-is (λ repeats.
          let section : IsQuestionSection c.args.self.now.bytes request.message.queries = subst (λ (b : List ℕ). IsQuestionSection b request.message.queries) same w.in-Ok.ensures.questions in
          repeatable c.args.self.now.bytes request (stands_of c.args.self.now.bytes c.as_slice.result.now (message_of c.read_message.new.message) same c.read_message.ensures.bytes w.in-Ok.ensures.found) section
          (ap (λ (r : ReceivedRequest). r.bytes) c.self.view_is) repeats)
      | in-Err w ↦ rw w.result-is tt
    ]

pub returns-clause-standing : goal.returns-clause-standing
returns-clause-standing c = λ m at.
    let same : c.as_slice.result.now ≡ c.args.self.now.bytes = c.as_slice.ensures ∙ ap (λ (r : ReceivedRequest). r.bytes) c.self.view_is in
    let whole : Reads c.args.self.now.bytes m = reads_of c.args.self.now.bytes c.as_slice.result.now m same c.read_message.ensures.bytes at in
    search rules

pub returns-clause-fault : goal.returns-clause-fault
returns-clause-fault c =
    let same : c.as_slice.result.now ≡ c.args.self.now.bytes = c.as_slice.ensures ∙ ap (λ (r : ReceivedRequest). r.bytes) c.self.view_is in
    elim c.match-read_message.branch [
      | in-Ok w ↦ rw w.result-is tt
      | in-Err w ↦ rw w.result-is (λ other.
          let no_want : w.in-Err.e ≢ decode_error.Memory = λ is. other (w.reading_error.ensures.memory is) in
          fault_of c.args.self.now.bytes c.as_slice.result.now w.in-Err.e w.reading_error.result same c.read_message.ensures.bytes (w.in-Err.ensures.fault no_want) no_want (w.reading_error.ensures.fault no_want))
    ]
