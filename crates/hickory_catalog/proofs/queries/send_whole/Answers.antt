use Rattle.hickory_catalog.proofs.queries.send_whole.Goals as goal

pub returns-clause-sent : goal.returns-clause-sent
returns-clause-sent g c =
    rw (c.as_ref.ensures.value, c.set_high_code.ensures, c.whole_metadata-metadata.ensures.says, c.as_slice.ensures, c.as_slice-2.ensures, c.as_slice-3.ensures) at c.send_lent.ensures
