use Rattle.std.proofs.Common.{map}
use Rattle.hickory_wire.specs.serialize.writing.ReplyParts.{RecordLists}
use Rattle.hickory_base.specs.representation.LenderLists.{lender_list}
use Rattle.hickory_base.proofs.lemmas.ResultMaps.{if_ok_map}
use Rattle.hickory_base.proofs.responses.response_encoding.encode_parts.Goals as goal

pub returns-clause-encoded : goal.returns-clause-encoded
returns-clause-encoded g c =
    let lists : RecordLists = record {
      answers = map g.A.Item.RecordRef.record_of (lender_list c.gather.new.lenders);
      authorities = map g.N.Item.RecordRef.record_of (lender_list c.gather-2.new.lenders);
      soa = map g.S.Item.RecordRef.record_of (lender_list c.gather-3.new.lenders);
      additionals = map g.D.Item.RecordRef.record_of (lender_list c.gather-4.new.lenders);
    } in
    if_ok_map c.encode_lent.result _ _ c.encode_lent.ensures.encoded
    (λ made w. (
      lists,
      c.in_ok-gather.ensures.gives,
      c.in_ok-gather-2.ensures.gives,
      c.in_ok-gather-3.ensures.gives,
      c.in_ok-gather-4.ensures.gives,
      rw (c.as_slice.ensures, c.as_slice-2.ensures, c.as_slice-3.ensures, c.as_slice-4.ensures) at w,
    ))
