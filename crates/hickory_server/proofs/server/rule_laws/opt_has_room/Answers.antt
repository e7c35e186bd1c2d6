use Rattle.std.proofs.Common.{◌≡◌, ◌+◌, ◌≤◌, ℕ, List, Some, get_or, length, refl, ap, arith}
use Rattle.wire_messages.specs.op.EdnsFields.{EdnsFields}
use Rattle.wire_messages.specs.serialize.writing.Reply.{Reply}
use Rattle.wire_messages.specs.declared.op.header.Header.{Header}
use Rattle.wire_names.specs.declared.error.ProtoError.{ProtoError}
use Rattle.wire_writing.specs.serialize.writing.WholeReply.{FitsWhole, IsWhole}
use Rattle.wire_writing.specs.serialize.writing.Writing.{Encoded, Fronts, GetsStuck, Written, written, too_large, formless}
use Rattle.hickory_wire.specs.serialize.writing.ReplyParts.{ReplyEncoded}
use Rattle.hickory_server.specs.server.Fitted.{without_options}
use Rattle.hickory_server.specs.server.Written.{bare_message, with_tc}
use Rattle.hickory_server.proofs.server.rule_laws.opt_has_room.Goals as goal

-- what is sent with TC in the place of a reply with this EDNS
abbrev bare : Reply → EdnsFields → Reply
bare reply edns = bare_message (with_tc reply.metadata) reply.question reply.question_count (Some (without_options edns))

module _ (limit : ℕ) (reply : Reply) (edns : EdnsFields) (small : 23 + length reply.question ≤ limit)
    (whole : (reply : Reply) (bytes : List ℕ) (fronts : Fronts) → FitsWhole limit reply → Written limit reply bytes fronts → IsWhole reply fronts)
    (unstuck : (reply : Reply) (e : ProtoError) → FitsWhole limit reply → GetsStuck limit reply e → ⊥) where
  fits : FitsWhole limit (bare reply edns)
  fits = record { formed = (tt, (tt, (tt, ((refl, tt), (tt, tt))))); fits = omega (arith, small) }

  one : (bytes : List ℕ) (header : Header) → Encoded limit (bare reply edns) bytes header → header.counts.additionals ≡ 1
  one bytes header (written {fronts = fronts} is) =
      let counts = (whole (bare reply edns) bytes fronts fits is).counts in
      let additionals : fronts.additionals.count ≡ 0 = ap (λ (xs : List ℕ). get_or xs 2 0) counts in
      let opt : fronts.opt.count ≡ 1 = ap (λ (xs : List ℕ). get_or xs 3 0) counts in
      let signature : fronts.signature.count ≡ 0 = ap (λ (xs : List ℕ). get_or xs 4 0) counts in
      omega (arith, additionals, opt, signature)
  one bytes header (too_large long is) = absurd (omega (arith, small, long))
  one bytes header (formless {e = e} stuck is) = absurd (unstuck (bare reply edns) e fits stuck)

pub returns : goal.returns
returns c = λ limit reply edns bytes has small made.
    let encoded : ReplyEncoded limit (bare reply edns) bytes made.0 = rw has at made.1 in (
      made.0,
      rw has encoded,
      one limit reply edns small (c.what_fits_is_whole.ensures.whole limit) (c.what_fits_is_whole.ensures.unstuck limit) bytes made.0 encoded.encoded,
    )
