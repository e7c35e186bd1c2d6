use Rattle.hickory_server.proofs.server.above.replies_from_above.Goals as goal

pub returns : goal.returns
returns g c =
    let (apex, asked) = rw c.in-Some.is at c.in_ok-chain.ensures in
    let (replies, replied, made) = c.in_ok-sent.ensures in
    ((apex, c.in-Some.chain.now.items), replies, asked, rw c.as_slice.ensures.value at replied, made)
