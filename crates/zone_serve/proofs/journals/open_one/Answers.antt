use Rattle.zone_serve.proofs.journals.open_one.Goals as goal

pub returns-in-Ok-clause-opened : goal.returns-in-Ok-clause-opened
returns-in-Ok-clause-opened g c =
    let (apex, text, is) = c.in_ok-apex.ensures in
    let (first, second, opened) = c.in-Ok.ensures.opened in
    (apex, text, is, (first, second, opened))
