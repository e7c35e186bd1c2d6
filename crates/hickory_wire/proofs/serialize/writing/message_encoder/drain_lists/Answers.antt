use Rattle.hickory_wire.proofs.serialize.writing.message_encoder.drain_lists.Goals as goal

pub returns : goal.returns
returns g c =
    let one = c.drain.ensures in
    let two = c.drain-2.ensures in
    let three = c.drain-3.ensures in
    let four = c.drain-4.ensures in
    (record { answers = one.0; authorities = two.0; soa = three.0; additionals = four.0 }, record { answers_given = one.1; authorities_given = two.1; soa_given = three.1; additionals_given = four.1 })
